-- Plans over an empty file.
use Rattle.std.proofs.Common.{◌≡◌, ◌⊎◌, inl, inr, ℕ, Bool, true, false, List, [], ◌∷◌, Option, Some, None, Result, Ok, Err, refl, sym, ap, subst}
use Rattle.std.specs.Prelude.{IfErr, IfOk, IsTrue, if◌then◌else◌}
use Rattle.std.specs.Option.{option_map}
use Rattle.ld_base.specs.declared.fault.DlFault.TheVariants as faults
use Rattle.ld_base.specs.declared.linking.File.{File}
use Rattle.ld_base.specs.declared.linking.Loaded.{Loaded}
use Rattle.history_event.specs.declared.event.Event.{Event}
use Rattle.history_event.specs.declared.event.Event.TheVariants.{Open}
use Rattle.history_event.specs.declared.event.OpenAnswer.TheVariants as opens
use Rattle.history_event.specs.declared.event.OpenAsk.{OpenAsk}
use Rattle.history_event.specs.declared.event.Range.{Range}
use Rattle.history_state.specs.After.{after, after_from}
use Rattle.history_state.specs.Allowed.{Allowed}
use Rattle.history_state.specs.Asking.{IsStartupAsk, MayAsk}
use Rattle.history_state.specs.Flags.{are_flags}
use Rattle.history_state.specs.Objects.{is_startup}
use Rattle.history_state.specs.Opening.{IsNamed, Loads, OpensName, Refuses}
use Rattle.history_state.specs.Setting.{Setting}
use Rattle.history_state.specs.State.{State}
use Rattle.history_calls.specs.Answer.{Answer, again, loading, refused, returns}
use Rattle.history_calls.specs.Call as call
use Rattle.history_calls.specs.Gives.{EventAnswers}
use Rattle.history_calls.specs.Gives.EventAnswers.{is_absent, is_loaded, is_not_opened, is_there}
use Rattle.history_calls.specs.Gives.Gives.{by_event, to_again}
use Rattle.history_calls.specs.Laws.{is_chance}
use Rattle.history_calls.specs.Startup.{program_ask}
use Rattle.history_calls.specs.declared.link_served.startup.Setup.{Setup}
use Rattle.history_calls.specs.Waiting.Shows.{by_load}
use Rattle.link_open_plan.specs.Before.{IsBefore}
use Rattle.link_open_plan.specs.Planned.{IsPlanned, IsUnopened, PlansNew, fault_in, refusal_in}
use Rattle.link_open_plan.specs.declared.before.Before.{Before}
use Rattle.link_open_plan.specs.declared.planning.NewObjects.{NewObjects}
use Rattle.link_open_plan.specs.declared.planning.Planned.{Planned}
use Rattle.link_open_plan.specs.declared.planning.Planned.TheVariants as plans
use Rattle.link_open_plan.specs.declared.planning.Unopened.{Unopened}
use Rattle.link_open_plan.specs.declared.planning.Unopened.TheVariants as unopened
use Rattle.trace_opens.specs.FailedPaths.Emptied.{FailsAnyway, RefusesEmpty, emptied, first_rule, is_broken, with_empty}
use Rattle.trace_opens.specs.FailedPaths.Row.{GivesOther, IsSure, IsSureOf}
use Rattle.trace_opens.specs.OpeningRows.Expected.{MayFailSo}
use Rattle.trace_opens.specs.declared.failed_paths.judging.Doubt.{Doubt}
use Rattle.trace_opens.specs.declared.failed_paths.judging.Doubt.TheVariants as doubts

abbrev came_of : ℕ → List Loaded → Answer
came_of root [] = returns root
came_of root (o ∷ rest) = loading root (o ∷ rest)

opens_so : (hart : ℕ) (ask : OpenAsk) (id root : ℕ) (added : List Loaded) (ranges : List Range) → EventAnswers hart (call.opens ask) (Open hart ask (opens.Done id root added ranges)) (came_of root added)
opens_so hart ask id root [] ranges = is_there ask id root ranges
opens_so hart ask id root (o ∷ rest) ranges = is_loaded ask id root o rest ranges

sure : (root : ℕ) (added : List Loaded) → is_chance (came_of root added) ≡ false
sure root [] = refl
sure root (o ∷ rest) = refl

pub may_ask : (s : State) (hart : ℕ) (ask : OpenAsk) → is_startup s ≡ false → MayAsk s hart ask
may_ask s hart ask started is = absurd (let no : IsTrue false = subst IsTrue started is in cc)

module _ (w : Setting) (past : List Event) (hart : ℕ) (ask : OpenAsk) (name : List ℕ) (id : ℕ) (path : List ℕ)
    (may : MayAsk (after past) hart ask) (named : IsNamed (after past) ask name id) where
  opened_other : (root : ℕ) (added : List Loaded) (ranges : List Range) → Loads w (after past) hart ask name id root added ranges → GivesOther w past hart ask path
  opened_other root added ranges loads = record {
    given = Open hart ask (opens.Done id root added ranges) ∷ [];
    answer = came_of root added;
    gives = by_event (call.opens ask) (Open hart ask (opens.Done id root added ranges)) (came_of root added) (opens_so hart ask id root added ranges)
        (record { may = may; asked = named.asked; name = subst (λ (n : Option (List ℕ)). OpensName w (after past) hart ask n id root added ranges) (sym named.named) loads });
    sure = sure root added;
    other = λ same. absurd cc;
  }

  pub planned_other : (p : Planned) → IsPlanned w (after past) hart ask name id p → GivesOther w past hart ask path
  planned_other plans.Absent planned = record {
    given = Open hart ask opens.Absent ∷ [];
    answer = returns 0;
    gives = by_event (call.opens ask) (Open hart ask opens.Absent) (returns 0) (is_absent ask)
        (record { may = may; id = id; asked = named.asked; name = name; named = named.named; nowhere = planned });
    sure = refl;
    other = λ same. absurd cc;
  }
  planned_other (plans.There root) planned = opened_other root [] [] planned
  planned_other (plans.New news) planned = opened_other news.root news.added news.ranges planned.loads

  pub unopened_other : (why : Unopened) → IsSure path why → IsUnopened w (after past) hart ask why → GivesOther w past hart ask path
  unopened_other (unopened.Refused fault) is why = record {
    given = Open hart ask (opens.Refused fault) ∷ [];
    answer = refused fault;
    gives = by_event (call.opens ask) (Open hart ask (opens.Refused fault)) (refused fault) (is_not_opened ask fault) (record { may = may; refuses = why });
    sure = is.0;
    other = λ same. is.1 (let all : Open hart ask (opens.Refused fault) ∷ [] ≡ Open hart ask (opens.Refused (faults.NotAccepted path first_rule)) ∷ [] = same in
        let one : Open hart ask (opens.Refused fault) ≡ Open hart ask (opens.Refused (faults.NotAccepted path first_rule)) = cc in
        let answers : opens.Refused fault ≡ opens.Refused (faults.NotAccepted path first_rule) = cc in cc);
  }
  unopened_other (unopened.Wait shown) is why = record {
    given = [];
    answer = again shown;
    gives = to_again (call.opens ask) shown (by_load ask shown why);
    sure = refl;
    other = λ same. absurd cc;
  }
  unopened_other unopened.Memory is why = absurd is

  other_of : {X : Type 0} {Is : X → Type 0} → ((x : X) → Is x → GivesOther w past hart ask path) → (r : Result X Unopened) → IsSureOf path r
      → IfOk r Is → IfErr r (IsUnopened w (after past) hart ask) → GivesOther w past hart ask path
  other_of by (Ok x) is planned why = by x planned
  other_of by (Err x) is planned why = unopened_other x is why

pub other_at : (w : Setting) (past : List Event) (hart : ℕ) (ask : OpenAsk) (name : List ℕ) (id : ℕ) (path : List ℕ) (b : Before) (folders : List (List ℕ)) (files : Option (List File)) (r : Result Planned Unopened)
    → IsBefore w past ask name id b folders files → IsSureOf path r → IfOk r (IsPlanned w (after past) hart ask name id) → IfErr r (IsUnopened w (after past) hart ask) → GivesOther w past hart ask path
other_at w past hart ask name id path b folders files r before =
    let may : MayAsk (after past) hart ask = may_ask (after past) hart ask before.made.started in
    other_of w past hart ask name id path may before.made.named (planned_other w past hart ask name id path may before.made.named) r

pub broken_at : {X : Type 0} (w : Setting) (past : List Event) (hart : ℕ) (ask : OpenAsk) (path : List ℕ) (r : Result X Unopened)
    → MayAsk (after past) hart ask → r ≡ Err (unopened.Refused (faults.NotAccepted path first_rule)) → IfErr r (IsUnopened w (after past) hart ask) → Allowed w past (is_broken hart ask path first_rule)
broken_at {X} w past hart ask path r may is why = record { may = may; refuses = subst (λ (x : Result X Unopened). IfErr x (IsUnopened w (after past) hart ask)) is why }

-- ---- at startup

abbrev flags_of : Bool → ℕ
flags_of now = if now then 0x102 else 0x101

pub start_ask : (setup : Setup) → IsStartupAsk 0 (program_ask setup)
start_ask setup = record { by_first = refl; base = refl; named = tt; flags = by setup.bind_now }
  where
    by : (now : Bool) → (flags_of now ≡ 0x101) ⊎ (flags_of now ≡ 0x102)
    by true = inr refl
    by false = inl refl

start_flags : (now : Bool) → IsTrue (are_flags (flags_of now))
start_flags true = refl
start_flags false = refl

pub start_named : (setup : Setup) → IsNamed (after []) (program_ask setup) setup.program 0
unfolding after_from
start_named setup = record { asked = record { short = refl; flags = start_flags setup.bind_now; namespace = (refl, refl) }; named = refl }

pub start_other : (w : Setting) (setup : Setup) (path : List ℕ) (r : Result NewObjects Unopened) → IsSureOf path r
    → IfOk r (PlansNew w (after []) 0 (program_ask setup) setup.program 0) → IfErr r (IsUnopened w (after []) 0 (program_ask setup)) → GivesOther w [] 0 (program_ask setup) path
start_other w setup path r =
    let may : MayAsk (after []) 0 (program_ask setup) = λ is. start_ask setup in
    other_of w [] 0 (program_ask setup) setup.program 0 path may (start_named setup)
    (λ n planned. planned_other w [] 0 (program_ask setup) setup.program 0 path may (start_named setup) (plans.New n) planned) r

-- the same over the empty file
pub before_emptied : (w : Setting) (past : List Event) (ask : OpenAsk) (name : List ℕ) (id : ℕ) (path : List ℕ) (b : Before) (folders : List (List ℕ)) (files : Option (List File))
    → IsBefore w past ask name id b folders files → IsBefore (with_empty w path) past ask name id b folders (option_map (emptied path) files)
before_emptied w past ask name id path b folders files before = record {
  lawful = before.lawful;
  made = record {
    started = before.made.started;
    named = before.made.named;
    namespace = before.made.namespace;
    next_is = before.made.next_is;
    verdict = before.made.verdict;
    folders_are = before.made.folders_are;
    files_are = ap (option_map (emptied path)) before.made.files_are;
  };
  free = before.free;
  modules = before.modules;
  statics = before.statics;
  binds = before.binds;
}

-- ---- a read that fails

-- the plan's failed read is the refusal that may come
pub fails_so : {X : Type 0} (w : Setting) (past : List Event) (hart : ℕ) (ask : OpenAsk) (r : Result X Unopened) → MayAsk (after past) hart ask → IfErr r (IsUnopened w (after past) hart ask)
    → (doubt : Doubt) → ((failed : List ℕ) → doubt ≡ doubts.ReadFault failed → refusal_in r ≡ Some (faults.ReadFault failed)) → MayFailSo w past hart ask doubt
fails_so w past hart ask r may why doubts.Memory is = tt
fails_so w past hart ask (Ok plan) may why (doubts.ReadFault path) is = let d : None ≡ Some (faults.ReadFault path) = is path refl in absurd cc
fails_so w past hart ask (Err (unopened.Wait shown)) may why (doubts.ReadFault path) is = let d : None ≡ Some (faults.ReadFault path) = is path refl in absurd cc
fails_so w past hart ask (Err unopened.Memory) may why (doubts.ReadFault path) is = let d : None ≡ Some (faults.ReadFault path) = is path refl in absurd cc
fails_so w past hart ask (Err (unopened.Refused fault)) may why (doubts.ReadFault path) is =
    let same : fault ≡ faults.ReadFault path = (let d : Some fault ≡ Some (faults.ReadFault path) = is path refl in cc) in
    record { may = may; refuses = subst (Refuses w (after past) hart ask) same why }

pub fails_err : (w : Setting) (past : List Event) (hart : ℕ) (ask : OpenAsk) (why : Unopened) → MayAsk (after past) hart ask → IsUnopened w (after past) hart ask why
    → (doubt : Doubt) → ((failed : List ℕ) → doubt ≡ doubts.ReadFault failed → fault_in why ≡ Some (faults.ReadFault failed)) → MayFailSo w past hart ask doubt
fails_err w past hart ask why may unopened doubt is = fails_so {X = Planned} w past hart ask (Err why) may unopened doubt is

pub anyway_so : FailsAnyway → (w : Setting) (past : List Event) (hart : ℕ) (ask : OpenAsk) (path : List ℕ) → RefusesEmpty w first_rule → (doubt : Doubt)
    → MayFailSo (with_empty w path) past hart ask doubt → MayFailSo w past hart ask doubt
anyway_so law w past hart ask path refuses_it (doubts.ReadFault failed) may = law w past hart ask path first_rule failed refuses_it may
anyway_so law w past hart ask path refuses_it doubts.Memory may = tt

-- ---- results

pub if_err : {A E : Type 0} {P Q : E → Type 0} (r : Result A E) → ((e : E) → P e → Q e) → IfErr r P → IfErr r Q
if_err (Ok a) f p = tt
if_err (Err e) f p = f e p

-- the doubt is that of another result, or want of memory
pub err_of : {A B : Type 0} (P : Doubt → Type 0) → P doubts.Memory → (before : Result A Doubt) (r : Result B Doubt)
    → IfErr r (λ doubt. (failed : List ℕ) → doubt ≡ doubts.ReadFault failed → before ≡ Err (doubts.ReadFault failed)) → IfErr before P → IfErr r P
err_of P memory before (Ok b) is p = tt
err_of P memory before (Err doubts.Memory) is p = memory
err_of P memory before (Err (doubts.ReadFault path)) is p = subst (λ x. IfErr x P) (is path refl) p

pub err_memory : {A : Type 0} (P : Doubt → Type 0) → P doubts.Memory → (r : Result A Doubt) → IfErr r (λ doubt. doubt ≡ doubts.Memory) → IfErr r P
err_memory P memory (Ok a) is = tt
err_memory P memory (Err doubt) is = subst P (sym is) memory

pub if_ok : {A E : Type 0} {P Q : A → Type 0} (r : Result A E) → ((a : A) → P a → Q a) → IfOk r P → IfOk r Q
if_ok (Ok a) f p = f a p
if_ok (Err e) f p = tt
