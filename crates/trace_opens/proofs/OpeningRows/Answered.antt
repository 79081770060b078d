-- The one answer of an opening, but for a failed read.
use Rattle.std.proofs.Common.{◌≡◌, ◌⊎◌, inl, inr, ℕ, Bool, true, false, List, [], ◌∷◌, Option, Some, None, Result, Ok, Err, refl, sym, ap, subst, ◌∙◌}
use Rattle.std.specs.Prelude.{IfOk, IsTrue, if◌then◌else◌, map}
use Rattle.std.specs.Option.{option_map}
use Rattle.std.proofs.lemmas.List.{length-map}
use Rattle.std.proofs.lemmas.Option.{slice_get-map}
use Rattle.ld_base.specs.declared.fault.DlFault.{DlFault}
use Rattle.ld_base.specs.declared.fault.DlFault.TheVariants as faults
use Rattle.ld_base.specs.declared.linking.Choice.{Choice}
use Rattle.ld_base.specs.declared.linking.File.{File}
use Rattle.ld_base.specs.declared.linking.Loaded.{Loaded}
use Rattle.history_event.specs.declared.event.Event.{Event}
use Rattle.history_event.specs.declared.event.Event.TheVariants.{Open}
use Rattle.history_event.specs.declared.event.OpenAnswer.{OpenAnswer}
use Rattle.history_event.specs.declared.event.OpenAnswer.TheVariants as opens
use Rattle.history_event.specs.declared.event.OpenAsk.{OpenAsk}
use Rattle.history_event.specs.declared.event_line.OpenLine.{OpenLine}
use Rattle.history_event.specs.declared.event_line.OpenLine.TheVariants as lines
use Rattle.history_event.specs.declared.handed.Opening.{Opening}
use Rattle.history_state.specs.After.{after}
use Rattle.history_state.specs.Allowed.{Allowed}
use Rattle.history_state.specs.Asking.{MayAsk}
use Rattle.history_state.specs.Opening.{IsNamed, OpensName}
use Rattle.history_state.specs.Setting.{Setting}
use Rattle.history_state.specs.Step.{binds, seen_after}
use Rattle.history_calls.specs.Answer.{Answer, again, loading, refused, returns}
use Rattle.history_calls.specs.Call as call
use Rattle.history_calls.specs.Gives.{EventAnswers, Gives}
use Rattle.history_calls.specs.Gives.EventAnswers.{is_absent, is_loaded, is_not_opened, is_there}
use Rattle.history_calls.specs.Gives.Gives.{by_event, to_again}
use Rattle.history_calls.specs.Laws.{OneOpening, is_chance, is_read_fault}
use Rattle.history_calls.specs.LoadChoices.Choices.{choices_of}
use Rattle.history_calls.specs.Waiting.Shows.{by_load}
use Rattle.link_open_images.specs.Relocated.{AreChoices}
use Rattle.link_open_plan.specs.Planned.{IsPlanned, IsUnopened, PlansNew}
use Rattle.link_open_plan.specs.declared.planning.NewObjects.{NewObjects}
use Rattle.link_open_plan.specs.declared.planning.Planned.{Planned}
use Rattle.link_open_plan.specs.declared.planning.Planned.TheVariants as plans
use Rattle.link_open_plan.specs.declared.planning.Unopened.{Unopened}
use Rattle.link_open_plan.specs.declared.planning.Unopened.TheVariants as unopened
use Rattle.scope_rule.specs.Seen.{Seen}
use Rattle.trace_opens.specs.FailedPaths.Emptied.{reads_badly}
use Rattle.trace_opens.specs.OpeningRows.Expected.{FailsBy, FindsEach, IsCertain, IsExpectedOpening, LacksFiles, LoadsName, MayOpenSo, brought, failed_path, planned, read_path, refusal, unplanned}
use Rattle.trace_opens.specs.declared.failed_paths.judging.Doubt.{Doubt}
use Rattle.trace_read.specs.Said.{said_of_answer}
use Rattle.trace_replay.specs.Taken.{event_of}

-- ---- what a call gets by an answer

abbrev pub came : OpenAnswer → Answer
came (opens.Done id root [] ranges) = returns root
came (opens.Done id root (o ∷ rest) ranges) = loading root (o ∷ rest)
came opens.Absent = returns 0
came (opens.Refused fault) = refused fault

pub answered : (hart : ℕ) (ask : OpenAsk) (answer : OpenAnswer) → EventAnswers hart (call.opens ask) (Open hart ask answer) (came answer)
answered hart ask (opens.Done id root [] ranges) = is_there ask id root ranges
answered hart ask (opens.Done id root (o ∷ rest) ranges) = is_loaded ask id root o rest ranges
answered hart ask opens.Absent = is_absent ask
answered hart ask (opens.Refused fault) = is_not_opened ask fault

pub gives : (w : Setting) (past : List Event) (hart : ℕ) (ask : OpenAsk) (answer : OpenAnswer) → Allowed w past (Open hart ask answer)
    → Gives w past hart (call.opens ask) (Open hart ask answer ∷ []) (came answer)
gives w past hart ask answer may = by_event (call.opens ask) (Open hart ask answer) (came answer) (answered hart ask answer) may

sure_fault : (fault : DlFault) → read_path fault ≡ None → is_read_fault fault ≡ false
sure_fault (faults.ReadFault path) none = absurd (let d : Some path ≡ None = none in cc)
sure_fault other none = refl

pub sure : (answer : OpenAnswer) → failed_path (said_of_answer answer) ≡ None → is_chance (came answer) ≡ false
sure (opens.Done id root [] ranges) none = refl
sure (opens.Done id root (o ∷ rest) ranges) none = refl
sure opens.Absent none = refl
sure (opens.Refused fault) none = sure_fault fault none

-- ---- one answer

module _ (one : OneOpening) (w : Setting) (files : List File) (past : List Event) (hart : ℕ) (ask : OpenAsk) (line : OpenLine) (told : w.files ≡ Some files)
    (read : failed_path line ≡ None) (answer : OpenAnswer) (said : said_of_answer answer ≡ line) (may : Allowed w past (Open hart ask answer)) where
  pub one_of : (given : List Event) (other : Answer) → Gives w past hart (call.opens ask) given other → is_chance other ≡ false → given ≡ Open hart ask answer ∷ []
  one_of given other g certain =
      (one w past hart ask files given (Open hart ask answer ∷ []) other (came answer) told g (gives w past hart ask answer may) certain (sure answer (ap failed_path said ∙ read))).0

  pub same_of : (other : OpenAnswer) → Allowed w past (Open hart ask other) → is_chance (came other) ≡ false → Open hart ask other ≡ Open hart ask answer
  same_of other may_other certain = let all : Open hart ask other ∷ [] ≡ Open hart ask answer ∷ [] = one_of (Open hart ask other ∷ []) (came other) (gives w past hart ask other may_other) certain in cc

-- ---- where files are told

-- it holds, since it does where files are told; or they aren't
told_or : (P : Type 0) (w : Setting) (past : List Event) (hart : ℕ) (ask : OpenAsk) → LoadsName (after past) hart ask → ((files : List File) → w.files ≡ Some files → P) → P ⊎ LacksFiles w past hart ask
told_or P w past hart ask loads where_told = by w.files refl
  where
    by : (told : Option (List File)) → w.files ≡ told → P ⊎ LacksFiles w past hart ask
    by (Some files) is = inl (where_told files is)
    by None is = inr (record { loads = loads; none = is })

-- ---- what plans give

none_choose : (ns : Seen) (now : Bool) → AreChoices ns now [] []
none_choose ns now = record { count = refl; each = λ k o at. absurd (let d : None ≡ Some o = at in cc) }

pub are_choices : (ns : Seen) (now : Bool) (added : List Loaded) (choices : List (List Choice)) → choices ≡ map (choices_of ns now) added → AreChoices ns now added choices
are_choices ns now added choices are = subst (AreChoices ns now added) (sym are) (record {
  count = length-map added (choices_of ns now);
  each = λ k o at. slice_get-map (choices_of ns now) added k ∙ ap (option_map (choices_of ns now)) at;
})

module _ (w : Setting) (past : List Event) (hart : ℕ) (ask : OpenAsk) (name : List ℕ) (id : ℕ)
    (may : MayAsk (after past) hart ask) (named : IsNamed (after past) ask name id) where
  loads_name_so : LoadsName (after past) hart ask
  loads_name_so = record { may = may; name = name; id = id; named = named }

  loads_name : (n : NewObjects) → PlansNew w (after past) hart ask name id n → OpensName w (after past) hart ask ask.name id n.root n.added n.ranges
  loads_name n p = subst (λ (x : Option (List ℕ)). OpensName w (after past) hart ask x id n.root n.added n.ranges) (sym named.named) p.loads

  pub brought_may : (n : NewObjects) → PlansNew w (after past) hart ask name id n → MayOpenSo w past (brought hart ask id n)
  brought_may n p = record {
    may = record { may = may; asked = named.asked; name = loads_name n p };
    chosen = are_choices (seen_after (after past) ask id n.root n.added) (binds (after past) ask) n.added n.choices p.choices;
  }

  pub planned_may : (p : Planned) → IsPlanned w (after past) hart ask name id p → MayOpenSo w past (planned hart ask id p)
  planned_may plans.Absent is = record { may = record { may = may; id = id; asked = named.asked; name = name; named = named.named; nowhere = is }; chosen = tt }
  planned_may (plans.There root) is = record {
    may = record { may = may; asked = named.asked; name = subst (λ (x : Option (List ℕ)). OpensName w (after past) hart ask x id root [] []) (sym named.named) is };
    chosen = none_choose (seen_after (after past) ask id root []) (binds (after past) ask);
  }
  planned_may (plans.New news) is = brought_may news is

  pub planned_sure : (p : Planned) → is_chance (came (planned hart ask id p).answer) ≡ false
  planned_sure plans.Absent = refl
  planned_sure (plans.There root) = refl
  planned_sure (plans.New news) = by news.added
    where
      by : (added : List Loaded) → is_chance (came (opens.Done id news.root added news.ranges)) ≡ false
      by [] = refl
      by (o ∷ rest) = refl

  pub planned_as : (p : Planned) → event_of (planned hart ask id p) ≡ Open hart ask (planned hart ask id p).answer
  planned_as plans.Absent = refl
  planned_as (plans.There root) = refl
  planned_as (plans.New news) = refl

  pub expects_plan : OneOpening → (line : OpenLine) → failed_path line ≡ None → (p : Planned) → IsPlanned w (after past) hart ask name id p
      → IsExpectedOpening w past hart ask line (Some (planned hart ask id p))
  expects_plan one line read p is = record {
    may = planned_may p is;
    only = told_or (FindsEach w past hart ask line (Some (planned hart ask id p))) w past hart ask loads_name_so (λ files told answer said allowed. record {
      opening = planned hart ask id p;
      is = refl;
      same = planned_as p ∙ same_of one w files past hart ask line told read answer said allowed (planned hart ask id p).answer (subst (Allowed w past) (planned_as p) (planned_may p is).may) (planned_sure p);
    });
  }

  pub expects_none : OneOpening → (line : OpenLine) → failed_path line ≡ None → (why : Unopened) → IsCertain why → IsUnopened w (after past) hart ask why
      → IsExpectedOpening w past hart ask line (unplanned hart ask why)
  expects_none one line read (unopened.Refused fault) certain is = record {
    may = record { may = record { may = may; refuses = is }; chosen = tt };
    only = told_or (FindsEach w past hart ask line (Some (refusal hart ask fault))) w past hart ask loads_name_so (λ files told answer said allowed. record {
      opening = refusal hart ask fault;
      is = refl;
      same = same_of one w files past hart ask line told read answer said allowed (opens.Refused fault) (record { may = may; refuses = is }) certain;
    });
  }
  expects_none one line read (unopened.Wait shown) certain is = record {
    may = tt;
    only = told_or (FindsEach w past hart ask line None) w past hart ask loads_name_so (λ files told answer said allowed. absurd (
        let none : [] ≡ Open hart ask answer ∷ [] = one_of one w files past hart ask line told read answer said allowed [] (again shown) (to_again (call.opens ask) shown (by_load ask shown is)) refl in cc));
  }
  expects_none one line read unopened.Memory certain is = absurd certain

-- ---- failed reads

unsaid : (answer : OpenAnswer) (path : List ℕ) → said_of_answer answer ≡ lines.Refused (faults.ReadFault path) → answer ≡ opens.Refused (faults.ReadFault path)
unsaid (opens.Done id root added ranges) path is = absurd cc
unsaid opens.Absent path is = absurd cc
unsaid (opens.Refused fault) path is = let same : fault ≡ faults.ReadFault path = cc in ap opens.Refused same

read_is : (line : OpenLine) (path : List ℕ) → failed_path line ≡ Some path → line ≡ lines.Refused (faults.ReadFault path)
read_is (lines.Done id root added) path is = absurd (let d : None ≡ Some path = is in cc)
read_is lines.Absent path is = absurd (let d : None ≡ Some path = is in cc)
read_is (lines.Refused fault) path is = ap lines.Refused (by fault is)
  where
    by : (f : DlFault) → read_path f ≡ Some path → f ≡ faults.ReadFault path
    by (faults.ReadFault p) e = let same : p ≡ path = (let d : Some p ≡ Some path = e in cc) in ap faults.ReadFault same
    by other e = absurd (let d : None ≡ Some path = e in cc)

fails_by : (w : Setting) (past : List Event) (hart : ℕ) (ask : OpenAsk) (line : OpenLine) (path : List ℕ) (may : Bool) (found : Option Opening) → LoadsName (after past) hart ask → line ≡ lines.Refused (faults.ReadFault path)
    → found ≡ (if may then Some (refusal hart ask (faults.ReadFault path)) else None)
    → (IsTrue may → Allowed w past (reads_badly hart ask path)) → (may ≡ false → (files : List File) → w.files ≡ Some files → ¬ (Allowed w past (reads_badly hart ask path)))
    → IsExpectedOpening w past hart ask line found
fails_by w past hart ask line path true found loads read are can cannot = subst (IsExpectedOpening w past hart ask line) (sym are) (record {
  may = record { may = can refl; chosen = tt };
  only = inl (λ answer said allowed. record {
    opening = refusal hart ask (faults.ReadFault path);
    is = refl;
    same = ap (Open hart ask) (sym (unsaid answer path (said ∙ read)));
  });
})
fails_by w past hart ask line path false found loads read are can cannot = subst (IsExpectedOpening w past hart ask line) (sym are) (record {
  may = tt;
  only = told_or (FindsEach w past hart ask line None) w past hart ask loads
      (λ files told answer said allowed. absurd (cannot refl files told (subst (λ a. Allowed w past (Open hart ask a)) (unsaid answer path (said ∙ read)) allowed)));
})

pub fails : (w : Setting) (past : List Event) (hart : ℕ) (ask : OpenAsk) (line : OpenLine) (path : List ℕ) (r : Result Bool Doubt) (found : Option Opening) → LoadsName (after past) hart ask → failed_path line ≡ Some path
    → FailsBy hart ask path r found
    → IfOk r (λ may. IsTrue may → Allowed w past (reads_badly hart ask path))
    → IfOk r (λ may. may ≡ false → (files : List File) → w.files ≡ Some files → ¬ (Allowed w past (reads_badly hart ask path)))
    → IsExpectedOpening w past hart ask line found
fails w past hart ask line path (Ok may) found loads read are = fails_by w past hart ask line path may found loads (read_is line path read) are
fails w past hart ask line path (Err doubt) found loads read are = absurd are

-- ---- results

pub if_ok : {A E : Type 0} {P Q : A → Type 0} (r : Result A E) → ((a : A) → P a → Q a) → IfOk r P → IfOk r Q
if_ok (Ok a) f p = f a p
if_ok (Err e) f p = tt

pub both_ok : {A E : Type 0} {P Q R : A → Type 0} (r : Result A E) → ((a : A) → P a → Q a → R a) → IfOk r P → IfOk r Q → IfOk r R
both_ok (Ok a) f p q = f a p q
both_ok (Err e) f p q = tt
