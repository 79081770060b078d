-- The keeper's record stays as it has to be.
use Rattle.std.proofs.Common.{◌≡◌, ◌≢◌, ◌⊎◌, ⊎_elim, inl, inr, ℕ, zero, suc, ◌+◌, ◌-◌, ◌<◌, ◌≤◌, Bool, true, false, List, [], ◌∷◌, ◌++◌, length, length-append, length-set, map, drop, append-nil, None, Some, refl, sym, ap, subst, ◌∙◌, append_assoc, arith}
use mathlib.Core.Logic.{dite}
use native.Mathlib.Decide.{ℕ_discrete}
use Rattle.std.specs.List.{Contains, slice_get}
use Rattle.std.proofs.lemmas.Bool.{false≢true}
use Rattle.std.proofs.lemmas.List.Elements.{Contains-append_cases, Contains-append_left}
use Rattle.history_event.specs.declared.event.CloseAnswer.TheVariants as closes
use Rattle.history_event.specs.declared.event.Event.{Event}
use Rattle.history_event.specs.declared.event.Event.TheVariants as events
use Rattle.history_event.specs.declared.event.OpenAnswer.TheVariants as opens
use Rattle.history_event.specs.declared.event.SymAnswer.TheVariants as syms
use Rattle.word_rule.specs.declared.entry.Entry.{Entry}
use Rattle.word_rule.specs.declared.entry.Grant.{Grant}
use Rattle.word_rule.specs.declared.view.Fate.{Fate}
use Rattle.word_rule.specs.declared.view.Fate.TheVariants.{Lost as LostFate}
use Rattle.word_rule.specs.declared.view.KeeperView.{KeeperView}
use Rattle.word_rule.specs.declared.view.Kept.{Kept}
use Rattle.word_rule.specs.declared.view.Loss.{Loss}
use Rattle.word_rule.specs.declared.view.Row.{Row}
use Rattle.word_rule.specs.declared.view.Settled.{Settled}
use Rattle.word_rule.specs.Allowed.{IsLost, IsOf, IsSlot}
use Rattle.word_rule.specs.KeeperSteps.{handed, not_found, with_row}
use Rattle.word_rule.specs.Layout.{harts_at_most, place_of}
use Rattle.word_rule.specs.Slots.{IsGrant}
use Rattle.word_rule.specs.Views.{IsLong, kept_at, row_of}
use Rattle.word_rule.specs.Lemmas.Heeding.{row_else, row_here}
use Rattle.word_rule.specs.Lemmas.KeeperCalls.{map_long, map_row}
use Rattle.word_steps.specs.Knowing.{counted}
use Rattle.slot_bind.specs.Rows.{handed_over, row_with}
use Rattle.history_state.specs.After.{after}
use Rattle.history_state.specs.Legal.{Legal}
use Rattle.history_state.specs.Objects.{is_startup}
use Rattle.history_state.specs.Setting.{Setting}
use Rattle.history_state.specs.State.{State}
use Rattle.history_state.specs.Step.{die, initialise, loaded, lower, step}
use Rattle.history_state.specs.Lemmas.Calling.{startup_is_past}
use Rattle.history_state.specs.Lemmas.History.{after_push, legal_push}
use Rattle.history_state.specs.Lemmas.Lists.{none_in, only_in}
use Rattle.history_calls.specs.Laws.{hart_of}
use Rattle.hart_trails.specs.Owners.{AreOfHarts}
use Rattle.hart_trails.specs.Trails.{is_granting}
use Rattle.word_holds.specs.Shared.{IsOfState}
use Rattle.kept_words.specs.Gone.{HaveGone}
use Rattle.kept_words.specs.Handed.{IsIssued, event_numbers, own_numbers}
use Rattle.kept_words.specs.Keeping.{AlikeKept, AnsweredKept, AwaitedIsAlike, IsAlike, QuietKept}
use Rattle.kept_words.specs.Kept.{AreKept, AreRows, HaveFates, IsFateEvent, LostHaveSeen, ShowsLoss, WereSettled}
use Rattle.kept_words.specs.Staying.{IsGrantEvent, SameGrants, leaves_memory, number_by, number_in}
use Rattle.kept_words.proofs.Gone.{gone_beside, leaves_none}
use Rattle.kept_words.proofs.Handed.{answered_stays, handed_stays, issued_stays}
use Rattle.kept_words.proofs.Seen.{seen_on}
use Rattle.kept_words.proofs.Staying.{events_stay, stands_back, states_stay}
use Rattle.kept_words.proofs.Values.{settled_beside}

-- ---- a longer journal

pub front_at : {X : Type 0} (xs ys : List X) (n : ℕ) (x : X) → slice_get xs n ≡ Some x → slice_get (xs ++ ys) n ≡ Some x
front_at {X} [] ys n x e = absurd (let no : None ≡ Some x = e in cc)
front_at {X} (z ∷ xs) ys zero x e = e
front_at {X} (z ∷ xs) ys (suc n) x e = front_at xs ys n x e

front_same : {X : Type 0} (xs ys : List X) (n : ℕ) → n < length xs → slice_get (xs ++ ys) n ≡ slice_get xs n
front_same {X} [] ys n low = absurd (omega (arith, low))
front_same {X} (z ∷ xs) ys zero low = refl
front_same {X} (z ∷ xs) ys (suc n) low = front_same xs ys n (omega (arith, low))

pub some_in : {X : Type 0} (xs : List X) (x : X) → Contains xs x → 0 < length xs
some_in {X} [] x there = let low : there.0 < 0 = there.1 in absurd (omega (arith, low))
some_in {X} (z ∷ xs) x there = omega arith

pub later_event : (journal more : List Event) (m : ℕ) (g : Grant) → IsGrantEvent journal m g → IsGrantEvent (journal ++ more) m g
later_event journal more m g x = record {
  number = x.number;
  owner = x.owner;
  slot = x.slot;
  choice = x.choice;
  at = front_at journal more (g.entry.number - 1) _ x.at;
  some = x.some;
}

pub later_number : (journal more : List Event) (m : ℕ) (g : Grant) → IsGrantEvent journal m g → number_in (journal ++ more) m g ≡ number_in journal m g
later_number journal more m g x = ap number_by (front_at journal more (g.entry.number - 1) _ x.at ∙ sym x.at)

pub counted_number : (journal more : List Event) (m : ℕ) (g : Grant) → 0 < length journal → g.entry.number ≤ length journal → number_in (journal ++ more) m g ≡ number_in journal m g
counted_number journal more m g some low = ap number_by (front_same journal more (g.entry.number - 1) (omega (arith, some, low)))

-- ---- rows

was_grant : (r s : Row) → s.pending ≡ r.pending → s.settled ≡ r.settled → (g : Grant) → IsGrant s g → IsGrant r g
was_grant r s pending settled g (inl waits) = inl (sym pending ∙ waits)
was_grant r s pending settled g (inr done) = inr (done.0, subst (λ (all : List Settled). Contains all (record { grant = g; fate = done.0 })) settled done.1)

pub was_lost : (r s : Row) → s.settled ≡ r.settled → (g : Grant) → IsLost s g → IsLost r g
was_lost r s settled g there = subst (λ (all : List Settled). Contains all (record { grant = g; fate = LostFate })) settled there

-- no event that settles a grant
abbrev pub SettlesNone : List Event → Type 0
SettlesNone more = (n : ℕ) (f : Fate) (e : Event) → Contains more e → IsFateEvent n f e → ⊥

-- the fates stay over a longer journal that settles none
pub fates_on : (k l : KeeperView) (more : List Event) → l.events ≡ k.events ++ more → SettlesNone more → ((m : ℕ) → (row_of l m).pending ≡ (row_of k m).pending)
    → ((m : ℕ) → (row_of l m).settled ≡ (row_of k m).settled) → l.losses ≡ k.losses → HaveFates k → HaveFates l
fates_on k l more longer none pending settled losses fates = record {
  entered = λ m g low is. subst (λ (es : List Event). IsGrantEvent es m g) (sym longer)
      (later_event k.events more m g (fates.entered m g low (was_grant (row_of k m) (row_of l m) (pending m) (settled m) g is)));
  fated = λ m g f low there.
      let was : Contains (row_of k m).settled (record { grant = g; fate = f }) = subst (λ (all : List Settled). Contains all (record { grant = g; fate = f })) (settled m) there in
      let x = fates.fated m g f low was in (
        x.0,
        subst (λ (es : List Event). Contains es x.0) (sym longer) (Contains-append_left k.events more x.0 x.1),
        subst (λ (n : ℕ). IsFateEvent n f x.0) (sym (same_number m g f low was)) x.2,
        subst (λ (all : List Loss). ShowsLoss all m g x.0) (sym losses) x.3,
      );
  known = λ n f e there is. ⊎_elim
      (λ (old : Contains k.events e).
      let x = fates.known n f e old is in (
        x.0,
        x.1,
        x.2,
        subst (λ (all : List Settled). Contains all (record { grant = x.1; fate = f })) (sym (settled x.0)) x.3,
        same_number x.0 x.1 f x.2 x.3 ∙ x.4,
        subst (λ (all : List Loss). ShowsLoss all x.0 x.1 e) (sym losses) x.5,
      ))
      (λ (new : Contains more e). absurd (none n f e new is))
      (Contains-append_cases k.events more e (subst (λ (es : List Event). Contains es e) longer there));
}
  where
    same_number : (m : ℕ) (g : Grant) (f : Fate) → m < harts_at_most → Contains (row_of k m).settled (record { grant = g; fate = f }) → number_in l.events m g ≡ number_in k.events m g
    same_number m g f low was = ap (λ (es : List Event). number_in es m g) longer ∙ later_number k.events more m g (fates.entered m g low (inr (f, was)))

-- what rows say stays over a longer journal, with the same grants and words
pub rows_on : (k l : KeeperView) (more : List Event) → l.events ≡ k.events ++ more → SettlesNone more → ((d : ℕ) → kept_at l d ≡ kept_at k d)
    → ((m : ℕ) → (row_of l m).pending ≡ (row_of k m).pending) → ((m : ℕ) → (row_of l m).settled ≡ (row_of k m).settled) → l.losses ≡ k.losses → AreRows k → AreRows l
rows_on k l more longer none words pending settled losses rows = record {
  fates = fates_on k l more longer none pending settled losses rows.fates;
  since = λ d slot.
      let was : (kept_at k d).since ≤ length k.events = rows.since d (subst (λ (y : Kept). IsSlot (λ _. y) d) (words d) slot) in
      let same : (kept_at l d).since ≡ (kept_at k d).since = ap (λ (y : Kept). y.since) (words d) in
      let long : length l.events ≡ length k.events + length more = ap length longer ∙ length-append k.events more in
      omega (arith, was, same, long);
  pending = λ m g low waits. subst (λ (y : Kept). IsOf (λ _. y) (place_of g.entry.slot) g) (sym (words (place_of g.entry.slot))) (rows.pending m g low (sym (pending m) ∙ waits));
  counted = λ m g low is. by_count m g low (was_grant (row_of k m) (row_of l m) (pending m) (settled m) g is);
  lost = λ m g low is of.
      let was : IsLost (row_of k m) g = was_lost (row_of k m) (row_of l m) (settled m) g is in
      let x = rows.lost m g low was (subst (λ (y : Kept). IsOf (λ _. y) (place_of g.entry.slot) g) (words (place_of g.entry.slot)) of) in
      let same : number_in (k.events ++ more) m g ≡ number_in k.events m g =
      counted_number k.events more m g (some_in k.events (events.Lost (number_in k.events m g) x.0) x.2) (rows.counted m g low (inr (LostFate, was))) in (
        x.0,
        ap (λ (y : Kept). y.fixed) (words (place_of g.entry.slot)) ∙ x.1,
        subst (λ (es : List Event). Contains es (events.Lost (number_in es m g) x.0)) (sym longer)
            (subst (λ (n : ℕ). Contains (k.events ++ more) (events.Lost n x.0)) (sym same)
            (Contains-append_left k.events more (events.Lost (number_in k.events m g) x.0) x.2)),
      );
}
  where
    by_count : (m : ℕ) (g : Grant) → m < harts_at_most → IsGrant (row_of k m) g → g.entry.number ≤ length l.events
    by_count m g low is =
        let few : g.entry.number ≤ length k.events = rows.counted m g low is in
        let long : length l.events ≡ length k.events + length more = ap length longer ∙ length-append k.events more in
        omega (arith, few, long)

-- a row changes, and a field of it doesn't
pub row_field : {A : Type 0} (f : Row → A) (k : KeeperView) (m : ℕ) (r : Row) → m < length k.rows → f r ≡ f (row_of k m) → (j : ℕ) → f (row_of (with_row m r k) j) ≡ f (row_of k j)
row_field {A} f k m r low same j = dite (ℕ_discrete j m)
    (λ (here : j ≡ m). subst (λ (i : ℕ). f (row_of (with_row m r k) i) ≡ f (row_of k i)) (sym here) (ap f (row_here k m r low) ∙ same))
    (λ (apart : j ≢ m). ap f (row_else k m r low j apart))

pub inside : (k : KeeperView) (h : ℕ) → IsLong k → h < harts_at_most → h < length k.rows
inside k h long low = subst (λ (n : ℕ). h < n) (sym long.1) low

-- ---- which events settle a grant

abbrev pub is_settling : Event → Bool
is_settling e = elim e [ events.Bound number ↦ true | events.Lost number saw ↦ true | _ ↦ false ]

settling_is : (n : ℕ) (f : Fate) (e : Event) → IsFateEvent n f e → is_settling e ≡ true
settling_is n f e IsFateEvent.as_won = refl
settling_is n f e (IsFateEvent.as_lost saw) = refl

pub settles_none : (e : Event) → is_settling e ≡ false → SettlesNone (e ∷ [])
settles_none e not_settling n f x there is =
    false≢true (sym not_settling ∙ ap is_settling (only_in e x there) ∙ settling_is n f x is)

pub quiet_event : (e : Event) → leaves_memory e ≡ true → is_settling e ≡ false
quiet_event (events.Open hart ask answer) leaves = refl
quiet_event (events.Close hart handle answer) leaves = refl
quiet_event (events.Unmapped hart set) leaves = refl
quiet_event (events.Grant number hart owner slot choice value) leaves = refl
quiet_event (events.Bound number) leaves = absurd (false≢true leaves)
quiet_event (events.Lost number saw) leaves = absurd (false≢true leaves)
quiet_event (events.Unresolved hart owner slot choice) leaves = refl
quiet_event (events.Sym hart ask answer) leaves = refl
quiet_event (events.Tls hart owner address) leaves = refl
quiet_event (events.Init hart object) leaves = refl
quiet_event (events.Fini hart object) leaves = refl
quiet_event (events.Wrote hart bytes) leaves = refl
quiet_event (events.Told hart fault) leaves = refl
quiet_event (events.Ended hart reason) leaves = refl

-- ---- alike

alike_grants : (k l : KeeperView) → IsAlike k l → SameGrants k l
alike_grants k l is = record {
  words = λ d. subst (λ (x : Kept). x ≡ record (kept_at k d) { fixed = x.fixed }) (sym (is.words d)) refl;
  pending = is.pending;
  settled = is.settled;
}

pub alike_kept : AlikeKept
alike_kept w begun k l is kept = record {
  few = kept.few;
  harts = is.harts ∙ kept.harts;
  long = is.long;
  legal = subst (Legal w) (sym is.events) kept.legal;
  started = ap (λ (es : List Event). is_startup (after es)) is.events ∙ kept.started;
  begins = (kept.begins.0, is.events ∙ kept.begins.1);
  own = subst (AreOfHarts w) (sym is.events) kept.own;
  words = subst (λ (es : List Event). IsOfState (after es) l (number_in es)) (sym is.events)
      (states_stay (after k.events) (after k.events) k l (number_in k.events) (number_in k.events)
      (record { role = λ a word. refl; word = λ a word roles. refl; images = refl; grants = refl }) (alike_grants k l is) (λ m g low stands. refl) kept.words);
  generation = is.generation ∙ kept.generation ∙ ap (λ (es : List Event). (after es).generation) (sym is.events);
  granted = λ m g low stands. subst (λ (es : List Event). IsGrantEvent es m g) (sym is.events) (kept.granted m g low (stands_back k l (alike_grants k l is) m g stands));
  rows = rows_on k l [] (is.events ∙ sym (append-nil k.events)) (λ n f e there settles. none_in e there) is.words is.pending is.settled is.losses kept.rows;
  seen = subst (λ (es : List Event). LostHaveSeen (after es) l) (sym is.events) (seen_on (after k.events) (after k.events) k l refl refl is.words is.settled kept.seen);
  settled = subst WereSettled (sym is.events) kept.settled;
  issued = λ h e low there. subst (λ (es : List Event). IsIssued w es h e) (sym is.events) (kept.issued h e low (subst (λ (es : List Entry). Contains es e) (is.issued h) there));
  handed = λ h low. ap event_numbers (is.issued h) ∙ kept.handed h low
      ∙ ap (λ (es : List Event). own_numbers h (length begun + 1) (drop (length begun) es)) (sym is.events);
  gone = subst (λ (es : List Event). HaveGone es l.retired) (sym is.events) (subst (HaveGone k.events) (sym is.retired) kept.gone);
}

pub awaited_is_alike : AwaitedIsAlike
awaited_is_alike k h long low = record {
  events = refl;
  generation = refl;
  harts = refl;
  long = (long.0, length-set (map not_found k.rows) h since_row ∙ map_long k.rows ∙ long.1);
  words = λ d. refl;
  issued = λ m. row_field (λ (y : Row). y.issued) quiet h since_row low_row (ap (λ (y : Row). y.issued) (map_row k.rows h)) m ∙ ap (λ (y : Row). y.issued) (sym (map_row k.rows m));
  pending = λ m. row_field (λ (y : Row). y.pending) quiet h since_row low_row (ap (λ (y : Row). y.pending) (map_row k.rows h)) m ∙ ap (λ (y : Row). y.pending) (sym (map_row k.rows m));
  settled = λ m. row_field (λ (y : Row). y.settled) quiet h since_row low_row (ap (λ (y : Row). y.settled) (map_row k.rows h)) m ∙ ap (λ (y : Row). y.settled) (sym (map_row k.rows m));
  losses = refl;
  retired = refl;
}
  where
    quiet : KeeperView
    quiet = record k { rows = map not_found k.rows }

    since_row : Row
    since_row = record (not_found (row_of k h)) { since = Some (length k.events) }

    low_row : h < length (map not_found k.rows)
    low_row = subst (λ (n : ℕ). h < n) (sym (map_long k.rows ∙ long.1)) low

-- ---- an entry more

-- the row of an entry, and the views with it: all that is kept but for what was issued stays
module _ (k : KeeperView) (h : ℕ) (entry : Entry) (long : IsLong k) (low : h < harts_at_most) where
  abbrev pub row : Row
  row = handed entry.mark (row_with entry (row_of k h))

  pub handed_long : IsLong (handed_over h entry k)
  handed_long = (long.0, length-set k.rows h row ∙ long.1)

  pub handed_pending : (m : ℕ) → (row_of (handed_over h entry k) m).pending ≡ (row_of k m).pending
  handed_pending = row_field (λ (y : Row). y.pending) k h row (inside k h long low) refl

  pub handed_settled : (m : ℕ) → (row_of (handed_over h entry k) m).settled ≡ (row_of k m).settled
  handed_settled = row_field (λ (y : Row). y.settled) k h row (inside k h long low) refl

  -- each entry that was issued was before, or is this one of this hart
  pub handed_issued : (m : ℕ) (x : Entry) → Contains (row_of (handed_over h entry k) m).issued x → Contains (row_of k m).issued x ⊎ ((m ≡ h) × (entry ≡ x))
  handed_issued m x there = dite (ℕ_discrete m h)
      (λ (same : m ≡ h). ⊎_elim
      (λ (old : Contains (row_of k h).issued x). inl (subst (λ (i : ℕ). Contains (row_of k i).issued x) (sym same) old))
      (λ (new : Contains (entry ∷ []) x). inr (same, only_in entry x new))
      (Contains-append_cases (row_of k h).issued (entry ∷ []) x
      (subst (λ (r : Row). Contains r.issued x) (row_here k h row (inside k h long low)) (subst (λ (i : ℕ). Contains (row_of (handed_over h entry k) i).issued x) same there))))
      (λ (apart : m ≢ h). inl (subst (λ (r : Row). Contains r.issued x) (row_else k h row (inside k h long low) m apart) there))

pub begun_short : (w : Setting) (begun : List Event) (k : KeeperView) → AreKept w begun k → length begun ≤ length k.events
begun_short w begun k kept =
    let whole : length k.events ≡ length begun + length kept.begins.0 = ap length kept.begins.1 ∙ length-append begun kept.begins.0 in
    omega (arith, whole)

-- an event of a hart of the machine is counted
pub own_push : (w : Setting) (events : List Event) (e : Event) (h : ℕ) → AreOfHarts w events → hart_of e ≡ Some h → h < w.machine.harts → AreOfHarts w (events ++ e ∷ [])
own_push w events e h of own low d m there is = ⊎_elim
    (λ (old : Contains events d). of d m old is)
    (λ (new : Contains (e ∷ []) d).
    let same : Some h ≡ Some m = sym own ∙ ap hart_of (only_in e d new) ∙ is in
    let hart : h ≡ m = cc in
    subst (λ (n : ℕ). n < w.machine.harts) hart low)
    (Contains-append_cases events (e ∷ []) d there)

-- one of nobody is
pub own_push_none : (w : Setting) (events : List Event) (e : Event) → AreOfHarts w events → hart_of e ≡ None → AreOfHarts w (events ++ e ∷ [])
own_push_none w events e of nobodys d m there is = ⊎_elim
    (λ (old : Contains events d). of d m old is)
    (λ (new : Contains (e ∷ []) d). let no : None ≡ Some m = sym nobodys ∙ ap hart_of (only_in e d new) ∙ is in absurd cc)
    (Contains-append_cases events (e ∷ []) d there)

-- ---- an event that leaves memory

no_grant : (e : Event) → leaves_memory e ≡ true → is_granting e ≡ false
no_grant (events.Open hart ask answer) leaves = refl
no_grant (events.Close hart handle answer) leaves = refl
no_grant (events.Unmapped hart set) leaves = refl
no_grant (events.Grant number hart owner slot choice value) leaves = absurd (false≢true leaves)
no_grant (events.Bound number) leaves = refl
no_grant (events.Lost number saw) leaves = refl
no_grant (events.Unresolved hart owner slot choice) leaves = refl
no_grant (events.Sym hart ask answer) leaves = refl
no_grant (events.Tls hart owner address) leaves = refl
no_grant (events.Init hart object) leaves = refl
no_grant (events.Fini hart object) leaves = refl
no_grant (events.Wrote hart bytes) leaves = refl
no_grant (events.Told hart fault) leaves = refl
no_grant (events.Ended hart reason) leaves = refl

-- it leaves the generation
same_generation : (s : State) (e : Event) → leaves_memory e ≡ true → (step s e).generation ≡ s.generation
unfolding loaded die lower initialise
same_generation s (events.Open hart ask (opens.Done id root added ranges)) leaves = absurd (false≢true leaves)
same_generation s (events.Open hart ask opens.Absent) leaves = refl
same_generation s (events.Open hart ask (opens.Refused fault)) leaves = refl
same_generation s (events.Close hart handle (closes.Done set)) leaves = refl
same_generation s (events.Close hart handle (closes.Refused fault)) leaves = refl
same_generation s (events.Unmapped hart set) leaves = absurd (false≢true leaves)
same_generation s (events.Grant number hart owner slot choice value) leaves = absurd (false≢true leaves)
same_generation s (events.Bound number) leaves = absurd (false≢true leaves)
same_generation s (events.Lost number saw) leaves = absurd (false≢true leaves)
same_generation s (events.Unresolved hart owner slot choice) leaves = refl
same_generation s (events.Sym hart ask (syms.Found serial index value)) leaves = refl
same_generation s (events.Sym hart ask (syms.Refused fault)) leaves = refl
same_generation s (events.Tls hart owner address) leaves = absurd (false≢true leaves)
same_generation s (events.Init hart object) leaves = refl
same_generation s (events.Fini hart object) leaves = refl
same_generation s (events.Wrote hart bytes) leaves = refl
same_generation s (events.Told hart fault) leaves = refl
same_generation s (events.Ended hart reason) leaves = refl

pub quiet_kept : QuietKept
quiet_kept w begun k h e entry kept own_low own leaves may is = record {
  few = kept.few;
  harts = kept.harts;
  long = handed_long (counted e k) h entry kept.long low;
  legal = legal_push w k.events e kept.legal may;
  started = startup_is_past k.events (e ∷ []) kept.started;
  begins = (kept.begins.0 ++ e ∷ [], ap (λ (es : List Event). es ++ e ∷ []) kept.begins.1 ∙ append_assoc begun kept.begins.0 (e ∷ []));
  own = own_push w k.events e h kept.own own own_low;
  words = subst (λ (s : State). IsOfState s (handed_over h entry (counted e k)) (number_in (k.events ++ e ∷ []))) (sym (after_push k.events e))
      (states_stay (after k.events) (step (after k.events) e) k (handed_over h entry (counted e k)) (number_in k.events) (number_in (k.events ++ e ∷ []))
      (events_stay (after k.events) e leaves) same (λ m g few stands. later_number k.events (e ∷ []) m g (kept.granted m g few stands)) kept.words);
  generation = kept.generation ∙ sym (same_generation (after k.events) e leaves) ∙ ap (λ (s : State). s.generation) (sym (after_push k.events e));
  granted = λ m g few stands. later_event k.events (e ∷ []) m g (kept.granted m g few (stands_back k (handed_over h entry (counted e k)) same m g stands));
  rows = rows_on k (handed_over h entry (counted e k)) (e ∷ []) refl (settles_none e (quiet_event e leaves)) (λ d. refl) same.pending same.settled refl kept.rows;
  seen = subst (λ (s : State). LostHaveSeen s (handed_over h entry (counted e k))) (sym (after_push k.events e))
      (seen_on (after k.events) (step (after k.events) e) k (handed_over h entry (counted e k)) (events_stay (after k.events) e leaves).images (events_stay (after k.events) e leaves).grants
      (λ d. refl) same.settled kept.seen);
  settled = settled_beside k.events e leaves kept.settled;
  issued = λ m x few there. ⊎_elim
      (λ (old : Contains (row_of k m).issued x). issued_stays w k.events (e ∷ []) m x (kept.issued m x few old))
      (λ (new : (m ≡ h) × (entry ≡ x)).
      subst (λ (i : ℕ). IsIssued w (k.events ++ e ∷ []) i x) (sym new.0)
      (IsIssued.of_event k.events [] e refl own (no_grant e leaves) (sym new.1 ∙ is)))
      (handed_issued (counted e k) h entry kept.long low m x there);
  handed = handed_stays begun k h e entry kept.long low (begun_short w begun k kept) own (ap (λ (x : Entry). x.mark) is) (ap (λ (x : Entry). x.number) is) kept.handed;
  gone = gone_beside k.events e k.retired (leaves_none (after k.events) e leaves) kept.gone;
}
  where
    low : h < harts_at_most
    low = let few : w.machine.harts ≤ harts_at_most = kept.few in omega (arith, few, own_low)

    same : SameGrants k (handed_over h entry (counted e k))
    same = record { words = λ d. refl; pending = handed_pending (counted e k) h entry kept.long low; settled = handed_settled (counted e k) h entry kept.long low }

-- ---- an answer without an event

pub answered_kept : AnsweredKept
answered_kept w begun k h entry kept own_low marks is = record {
  few = kept.few;
  harts = kept.harts;
  long = handed_long k h entry kept.long low;
  legal = kept.legal;
  started = kept.started;
  begins = kept.begins;
  own = kept.own;
  words = states_stay (after k.events) (after k.events) k (handed_over h entry k) (number_in k.events) (number_in k.events)
      (record { role = λ a word. refl; word = λ a word roles. refl; images = refl; grants = refl }) same (λ m g few stands. refl) kept.words;
  generation = kept.generation;
  granted = λ m g few stands. kept.granted m g few (stands_back k (handed_over h entry k) same m g stands);
  rows = rows_on k (handed_over h entry k) [] (sym (append-nil k.events)) (λ n f e there settles. none_in e there) (λ d. refl) same.pending same.settled refl kept.rows;
  seen = seen_on (after k.events) (after k.events) k (handed_over h entry k) refl refl (λ d. refl) same.settled kept.seen;
  settled = kept.settled;
  issued = λ m x few there. ⊎_elim
      (λ (old : Contains (row_of k m).issued x). kept.issued m x few old)
      (λ (new : (m ≡ h) × (entry ≡ x)). subst (λ (i : ℕ). IsIssued w k.events i x) (sym new.0) (subst (IsIssued w k.events h) new.1 is))
      (handed_issued k h entry kept.long low m x there);
  handed = answered_stays begun k h entry kept.long low marks kept.handed;
  gone = kept.gone;
}
  where
    low : h < harts_at_most
    low = let few : w.machine.harts ≤ harts_at_most = kept.few in omega (arith, few, own_low)

    same : SameGrants k (handed_over h entry k)
    same = record { words = λ d. refl; pending = handed_pending k h entry kept.long low; settled = handed_settled k h entry kept.long low }
