-- An opening taken in.
use Rattle.std.proofs.Common.{◌≡◌, ℕ, ◌^◌, ◌≤◌, ◌&&◌, ◌||◌, Bool, true, false, List, [], ◌∷◌, ◌++◌, drop, length, map, suc, take, unwrap_or, Option, Some, None, refl, sym, ap, subst, ◌∙◌, arith}
use Rattle.std.specs.Prelude.{if◌then◌else◌, ◌==◌}
use Rattle.std.specs.List.{Contains, slice_get}
use Rattle.std.specs.Option.{option_map}
use Rattle.std.proofs.lemmas.Bool.{ne_eqb}
use Rattle.std.proofs.lemmas.List.{length-append, length-map}
use Rattle.std.proofs.Math.Seq.{drop-append_seam, take-append_seam}
use Rattle.history_calls.specs.CallLaws.Laws.{NewEdgesSuffice}
use Rattle.history_calls.specs.Laws.{NextStarts, OpeningBegins, StartsStay}
use Rattle.history_calls.specs.LoadChoices.Choices.{choices_of, slot_entry}
use Rattle.history_event.specs.declared.event.Event.{Event}
use Rattle.history_event.specs.declared.event.Event.TheVariants as events
use Rattle.history_event.specs.declared.event.OpenAnswer.{OpenAnswer}
use Rattle.history_event.specs.declared.event.OpenAnswer.TheVariants as opens
use Rattle.history_event.specs.declared.event.OpenAsk.{OpenAsk}
use Rattle.history_event.specs.declared.event.Range.{Range}
use Rattle.history_event.specs.declared.state.Loading.{Loading}
use Rattle.history_journal.specs.Following.{MayFollow, machine_of}
use Rattle.history_state.specs.After.{after, after_from}
use Rattle.history_state.specs.Allowed.{Allowed, IsFirst, WasNext}
use Rattle.history_state.specs.Bound.{binds_now, chosen_of, reloc_choices, slot_choice, slot_choices}
use Rattle.history_state.specs.Addresses.{address}
use Rattle.history_state.specs.Flags.{is_global, is_now}
use Rattle.history_state.specs.Legal.{Lawful}
use Rattle.history_state.specs.Lemmas.Lists.{at_in, none_in}
use Rattle.history_state.specs.Links.{finis_of}
use Rattle.history_state.specs.Objects.{first_serials, is_none_loaded, mapped, serial_of}
use Rattle.history_state.specs.Read.{WasRead}
use Rattle.history_state.specs.Setting.{Machine, Setting}
use Rattle.history_state.specs.State.{State, empty_state}
use Rattle.history_state.specs.Step.{binds, loaded, loading_of, open_done, seen_after, with_namespace}
use Rattle.history_state.specs.Storage.{HaveModules}
use Rattle.ld_base.specs.declared.linking.Choice.{Choice}
use Rattle.ld_base.specs.declared.linking.Choice.TheVariants.{WeakZero}
use Rattle.ld_base.specs.declared.linking.Loaded.{Loaded}
use Rattle.ld_base.specs.declared.object.Reloc.{Reloc}
use Rattle.link_open_images.specs.Relocated.{AreChoices}
use Rattle.link_open_laws.specs.OpeningFollows.Laws.{NewModulesHavePlaces, NewRangesAreLaid}
use Rattle.link_spaces.specs.Numbered.{AreNumberedApart}
use Rattle.link_spaces.specs.ReservedPagesPart.Laid.{AreLaid}
use Rattle.scope_rule.specs.Opening.{opened}
use Rattle.scope_rule.specs.Relocation.{choice_at}
use Rattle.scope_rule.specs.Seen.{Seen}
use Rattle.trace_replay.specs.Begun.{before_all}
use Rattle.trace_replay.specs.Heads.{with_head}
use Rattle.trace_replay.specs.Lists.{Lists}
use Rattle.trace_replay.specs.Opened.{AreNew, Brings, CanBring, CanOpen, HasChoices, IsNew, OpensAs, binds_by, brought, chosen_by, option_of}
use Rattle.trace_replay.specs.Shown.{AreStarting, IsShown, Shows}
use Rattle.trace_replay.specs.Taken.{ChosenFor}
use Rattle.trace_replay.specs.declared.steps.bringing.NewChoices.{NewChoices}
use Rattle.trace_replay.proofs.Starting.{starting_opened}
use Rattle.trace_replay.proofs.Stepped.{from_shown, shown, to_shown}
use Rattle.trace_replay.proofs.Taken.{AcceptedLaw, FinalisedLaw, OrderLaw, PushLaw, shown_with, taken}

-- ---- before the first event

none_before : (w : Setting) (object : ℕ) → WasNext w [] object → ⊥
unfolding after_from
none_before w object was = at was.before was.since was.are was.next
  where
    at : (before since : List Event) → [] ≡ before ++ since → IsFirst (finis_of (after before) (map serial_of (mapped (after before)))) object → ⊥
    at [] since are next = let e : None ≡ Some object = next in cc
    at (x ∷ before) since are next = absurd (omega (arith, ap (λ (es : List Event). length es) are))

pub shown_before : (harts : ℕ) → Shows [] (before_all harts)
unfolding after_from Lawful
shown_before harts = record {
  lawful = λ k e at. absurd (none_in e (at_in [] k e at));
  state = record {
    begins = refl;
    binds = refl;
    namespaces = refl;
    next = refl;
    ranges = refl;
    modules = refl;
    statics = refl;
    generation = refl;
    blocks = refl;
    grants = refl;
    startup = refl;
    chosen = refl;
    pinned = refl;
    closings = refl;
    unfinished = refl;
    kept = refl;
    endings = refl;
  };
  starting = record {
    each = λ unready inside. absurd (none_in unready inside);
    every = λ loading inside. absurd (none_in loading inside);
  };
  heads = record {
    each = λ w object same inside. absurd (none_in object inside);
    every = λ w object same was. absurd (none_before w object was);
  };
}

-- ---- what an opening asks for

abbrev pub ApartLaw : Type 0
ApartLaw = (m : Machine) (events : List Event) → Lawful m events → AreNumberedApart (after events).namespaces

abbrev pub NewReadLaw : Type 0
NewReadLaw = (m : Machine) (w : Setting) (past : List Event) (hart id root : ℕ) (ask : OpenAsk) (added : List Loaded) (ranges : List Range) → w.machine ≡ m → Lawful m past
    → Allowed w past (events.Open hart ask (opens.Done id root added ranges)) → (o : Loaded) → Contains added o → WasRead m o

has_choices : (ns : Seen) (now : Bool) (o : Loaded) → HasChoices o (Some (choices_of ns now o))
has_choices ns now o = omega (
  arith,
  length-append (map (choice_at ns o) o.object.relocs) (map (slot_entry ns now o) o.object.plt_relocs),
  length-map o.object.relocs (choice_at ns o),
)

module _ (apart : ApartLaw) (places : NewModulesHavePlaces) (laid : NewRangesAreLaid) (read : NewReadLaw) (accepted : AcceptedLaw) where
  can_bring : (past : List Event) (hart id root : ℕ) (ask : OpenAsk) (added : List Loaded) (ranges : List Range) (choices : List (List Choice)) (l : Lists) → Shows past l
      → MayFollow l.harts past (events.Open hart ask (opens.Done id root added ranges))
      → AreChoices (seen_after (after past) ask id root added) (binds (after past) ask) added choices → CanBring l added ranges choices
  can_bring past hart id root ask added ranges choices l x may are = record {
    apart = subst AreNumberedApart (sym x.state.namespaces) (apart (machine_of l.harts) past x.lawful);
    have = subst (λ (y : Lists). HaveModules y.begins y.modules y.statics added) (sym (to_shown (after past) l x.state)) (places l.harts past hart id root ask added ranges x.lawful may);
    storage = λ o seg inside is.
        let was : WasRead (machine_of l.harts) o = read (machine_of l.harts) may.setting past hart id root ask added ranges may.machine x.lawful may.may o inside in
        (accepted was.bytes was.program o.object o.table was.is).storage seg is;
    laid = subst (λ (rs : List Range). AreLaid rs ranges) (sym x.state.ranges) (laid l.harts past hart id root ask added ranges x.lawful may);
    count = are.count;
    choices = λ k o at. subst (HasChoices o) (sym (are.each k o at)) (has_choices (seen_after (after past) ask id root added) (binds (after past) ask) o);
  }

  pub can_open : (past : List Event) (hart : ℕ) (ask : OpenAsk) (answer : OpenAnswer) (choices : List (List Choice)) (l : Lists) → Shows past l → MayFollow l.harts past (events.Open hart ask answer)
      → ChosenFor past ask choices answer → CanOpen l answer choices
  can_open past hart ask (opens.Done id root added ranges) choices l x may are = can_bring past hart id root ask added ranges choices l x may are
  can_open past hart ask opens.Absent choices l x may are = tt
  can_open past hart ask (opens.Refused fault) choices l x may are = tt

-- ---- what new objects chose

of_relas : (ns : Seen) (o : Loaded) (rs : List Reloc) → map (λ (c : Choice). Some c) (map (choice_at ns o) rs) ≡ map (λ r. Some (choice_at ns o r)) rs
of_relas ns o [] = refl
of_relas ns o (r ∷ rs) = ap (λ (cs : List (Option Choice)). Some (choice_at ns o r) ∷ cs) (of_relas ns o rs)

of_slots : (ns : Seen) (now : Bool) (o : Loaded) (rs : List Reloc) → map (option_of (binds_now now o.object)) (map (slot_entry ns now o) rs) ≡ map (slot_choice ns now o) rs
of_slots ns now o rs = by (binds_now now o.object) rs
  where
    by : (b : Bool) (rs : List Reloc) → map (option_of b) (map (λ r. unwrap_or (if b then Some (choice_at ns o r) else None) WeakZero) rs) ≡ map (λ r. if b then Some (choice_at ns o r) else None) rs
    by b [] = refl
    by true (r ∷ rs) = ap (λ (cs : List (Option Choice)). Some (choice_at ns o r) ∷ cs) (by true rs)
    by false (r ∷ rs) = ap (λ (cs : List (Option Choice)). None ∷ cs) (by false rs)

same_chosen : (s : State) (ns : Seen) (now : Bool) (o : Loaded) (n : NewChoices) → IsNew now o (choices_of ns now o) n → chosen_by s n ≡ chosen_of s ns now o
same_chosen s ns now o n is =
    let relas : List Choice = map (choice_at ns o) o.object.relocs in
    let slots : List Choice = map (slot_entry ns now o) o.object.plt_relocs in
    let long : length o.object.relocs ≡ length relas = sym (length-map o.object.relocs (choice_at ns o)) in
    let first : take (length o.object.relocs) (relas ++ slots) ≡ relas = ap (λ k. take k (relas ++ slots)) long ∙ take-append_seam relas slots in
    let last : drop (length o.object.relocs) (relas ++ slots) ≡ slots = ap (λ k. drop k (relas ++ slots)) long ∙ drop-append_seam relas slots in
    let own : n.slots.items ≡ slot_choices ns now o =
    is.slots ∙ ap (λ (cs : List Choice). map (option_of (binds_now now o.object)) cs) last ∙ of_slots ns now o o.object.plt_relocs in
    let all : n.choices.items ≡ reloc_choices ns o ++ slot_choices ns now o =
    is.choices
    ∙ ap (λ (cs : List Choice). map (λ (c : Choice). Some c) cs ++ n.slots.items) first
    ∙ ap (λ (cs : List (Option Choice)). cs ++ n.slots.items) (of_relas ns o o.object.relocs)
    ∙ ap (λ (cs : List (Option Choice)). reloc_choices ns o ++ cs) own in
    λ i. record { owner = is.owner i; choices = all i; values = map (option_map (address s)) (own i) }

all_chosen : (s : State) (ns : Seen) (now : Bool) (added : List Loaded) (choices : List (List Choice)) (news : List NewChoices) → AreChoices ns now added choices → AreNew now added choices news
    → map (chosen_by s) news ≡ map (chosen_of s ns now) added
all_chosen s ns now added choices news are is = by added choices news is.count are.each is.each
  where
    by : (added : List Loaded) (choices : List (List Choice)) (news : List NewChoices) → length news ≡ length added
        → ((k : ℕ) (o : Loaded) → slice_get added k ≡ Some o → slice_get choices k ≡ Some (choices_of ns now o))
        → ((k : ℕ) (o : Loaded) (own : List Choice) (n : NewChoices) → slice_get added k ≡ Some o → slice_get choices k ≡ Some own → slice_get news k ≡ Some n → IsNew now o own n)
        → map (chosen_by s) news ≡ map (chosen_of s ns now) added
    by [] choices [] count each new = refl
    by [] choices (n ∷ news) count each new = absurd (omega (arith, count))
    by (o ∷ added) choices [] count each new = absurd (omega (arith, count))
    by (o ∷ added) [] (n ∷ news) count each new = let e : None ≡ Some (choices_of ns now o) = each 0 o refl in cc
    by (o ∷ added) (own ∷ choices) (n ∷ news) count each new =
        let e : Some own ≡ Some (choices_of ns now o) = each 0 o refl in
        let same : own ≡ choices_of ns now o = cc in
        let first : chosen_by s n ≡ chosen_of s ns now o = same_chosen s ns now o n (subst (λ (cs : List Choice). IsNew now o cs n) same (new 0 o own n refl refl refl)) in
        let rest : map (chosen_by s) news ≡ map (chosen_of s ns now) added = by added choices news (omega (arith, count)) (λ k p at. each (suc k) p at) (λ k p q m at bt ct. new (suc k) p q m at bt ct) in
        λ i. first i ∷ rest i

-- ---- the lists with what it brings

begins_opened : (loadings : List Loading) (hart : ℕ) (added : List Loaded) → (is_none_loaded loadings && length added == 0) ≡ is_none_loaded (loadings ++ loading_of hart added)
begins_opened [] hart [] = refl
begins_opened [] hart (o ∷ added) = ne_eqb (length (o ∷ added)) 0 (λ e. omega (arith, e))
begins_opened (l ∷ rest) hart added = refl

startup_opened : (loadings : List Loading) (hart : ℕ) (added : List Loaded)
    → (if is_none_loaded loadings then map serial_of added else first_serials loadings) ≡ first_serials (loadings ++ loading_of hart added)
startup_opened [] hart [] = refl
startup_opened [] hart (o ∷ added) = refl
startup_opened (l ∷ rest) hart added = refl

brought_shown : (s : State) (hart id root : ℕ) (ask : OpenAsk) (added : List Loaded) (ranges : List Range) (choices : List (List Choice)) (l new : Lists) → IsShown s l
    → AreChoices (seen_after s ask id root added) (binds s ask) added choices → Brings l hart ask.flags id root added ranges choices new → IsShown (open_done s hart ask id root added ranges) new
unfolding loaded
brought_shown s hart id root ask added ranges choices l new x are b =
    let t : State = loaded s hart ask id root added ranges in
    let ns : Seen = seen_after s ask id root added in
    let spaces : new.namespaces ≡ with_namespace id (λ ns. opened ns added root (is_global ask.flags)) l.namespaces =
    ap (λ (y : Lists). y.namespaces) (b.is (record empty_state { namespaces = new.namespaces }) refl) in
    let same : t.namespaces ≡ new.namespaces = ap (λ (all : List _). with_namespace id (λ ns. opened ns added root (is_global ask.flags)) all) (sym x.namespaces) ∙ sym spaces in
    let now : binds_by l ask.flags ≡ binds s ask = λ i. (if x.begins i then is_now ask.flags else x.binds i) || is_now ask.flags in
    let chosen : map (chosen_by t) b.news ≡ map (chosen_of t ns (binds s ask)) added =
    all_chosen t ns (binds s ask) added choices b.news are (subst (λ (n : Bool). AreNew n added choices b.news) now b.are) in
    let begins = begins_opened s.loadings hart added in
    let startup = startup_opened s.loadings hart added in
    from_shown (open_done s hart ask id root added ranges) new (record l { starting = new.starting })
    (b.is t same
    ∙ ap (λ (y : Lists). brought y ask.flags id root added ranges (map (chosen_by t) b.news) new.starting) (to_shown s l x)
    ∙ (λ i. record (brought (shown l s) ask.flags id root added ranges (chosen i) new.starting) { begins = begins i; startup = startup i }))

-- ---- taken in

record OpenKeeps (l m : Lists) : Type 0 where
  pub harts : m.harts ≡ l.harts
  pub heads : m.heads ≡ l.heads
  pub few : l.next ≤ 2 ^ 62 → m.next ≤ 2 ^ 62

open_keeps : (hart flags : ℕ) (answer : OpenAnswer) (choices : List (List Choice)) (l m : Lists) → OpensAs l hart flags answer choices m → OpenKeeps l m
open_keeps hart flags (opens.Done id root added ranges) choices l m b =
    let is = b.is (record empty_state { namespaces = m.namespaces }) refl in
    record { harts = ap (λ (y : Lists). y.harts) is; heads = ap (λ (y : Lists). y.heads) is; few = λ low. omega (arith, b.few) }
open_keeps hart flags opens.Absent choices l m is =
    record { harts = ap (λ (y : Lists). y.harts) is; heads = ap (λ (y : Lists). y.heads) is; few = λ low. omega (arith, ap (λ (y : Lists). y.next) is, low) }
open_keeps hart flags (opens.Refused fault) choices l m is =
    record { harts = ap (λ (y : Lists). y.harts) is; heads = ap (λ (y : Lists). y.heads) is; few = λ low. omega (arith, ap (λ (y : Lists). y.next) is, low) }

pub open_harts : (hart flags : ℕ) (answer : OpenAnswer) (choices : List (List Choice)) (l m : Lists) → OpensAs l hart flags answer choices m → m.harts ≡ l.harts
open_harts hart flags answer choices l m is = (open_keeps hart flags answer choices l m is).harts

pub open_few : (hart flags : ℕ) (answer : OpenAnswer) (choices : List (List Choice)) (l m : Lists) → OpensAs l hart flags answer choices m → l.next ≤ 2 ^ 62 → m.next ≤ 2 ^ 62
open_few hart flags answer choices l m is = (open_keeps hart flags answer choices l m is).few

module _ (push : PushLaw) (finalised : FinalisedLaw) (order : OrderLaw) (next : NextStarts) (stay : StartsStay) (suffices : NewEdgesSuffice) (begins : OpeningBegins) where
  pub open_taken : (past : List Event) (hart : ℕ) (ask : OpenAsk) (answer : OpenAnswer) (choices : List (List Choice)) (l m n : Lists) → Shows past l
      → MayFollow l.harts past (events.Open hart ask answer) → ChosenFor past ask choices answer → OpensAs l hart ask.flags answer choices m → n ≡ with_head m
      → Shows (past ++ events.Open hart ask answer ∷ []) n
  open_taken past hart ask (opens.Done id root added ranges) choices l m n x may are b noted_is =
      let kept : OpenKeeps l m = open_keeps hart ask.flags (opens.Done id root added ranges) choices l m b in
      let starting : AreStarting (after (past ++ events.Open hart ask (opens.Done id root added ranges) ∷ [])) m.starting =
      starting_opened suffices begins stay (machine_of l.harts) may.setting past hart id root ask added ranges l.starting m.starting may.machine x.lawful may.may x.starting b.starts in
      subst (Shows (past ++ events.Open hart ask (opens.Done id root added ranges) ∷ [])) (sym noted_is)
      (shown_with push past (events.Open hart ask (opens.Done id root added ranges)) l m x may kept.harts kept.heads
      (brought_shown (after past) hart id root ask added ranges choices l m x.state are b) starting)
  open_taken past hart ask opens.Absent choices l m n x may are is noted_is = taken push finalised order next stay past (events.Open hart ask opens.Absent) l m n x may tt is noted_is
  open_taken past hart ask (opens.Refused fault) choices l m n x may are is noted_is = taken push finalised order next stay past (events.Open hart ask (opens.Refused fault)) l m n x may tt is noted_is
