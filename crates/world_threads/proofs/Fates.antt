-- A grant stays in a history, and so does what became of it.
use Rattle.std.proofs.Common.{◌≡◌, ◌≢◌, ⊎_elim, ℕ, zero, suc, Bool, true, false, ◌&&◌, eqb, List, [], ◌∷◌, ◌++◌, length, map, take, drop, Some, refl, sym, ap, subst, ◌∙◌, append-nil, arith}
use Rattle.std.specs.Prelude.{if◌then◌else◌}
use Rattle.std.specs.List.{Contains, slice_get}
use Rattle.std.proofs.lemmas.Bool.{and_from, and_parts, eq-eqb}
use Rattle.std.proofs.lemmas.List.{take-append-drop, take_all}
use Rattle.std.proofs.lemmas.List.Elements.{Contains-append_left, Contains-append_right, Contains-push_cases}
use Rattle.ld_base.specs.declared.linking.Choice.{Choice}
use Rattle.history_event.specs.declared.event.CloseAnswer.TheVariants as closes
use Rattle.history_event.specs.declared.event.Event.{Event}
use Rattle.history_event.specs.declared.event.Event.TheVariants as events
use Rattle.history_event.specs.declared.event.OpenAnswer.TheVariants as opens
use Rattle.history_event.specs.declared.event.SymAnswer.TheVariants as syms
use Rattle.history_event.specs.declared.state.Granting.{Granting}
use Rattle.history_event.specs.declared.state.Standing.{Standing}
use Rattle.history_event.specs.declared.state.Standing.TheVariants.{Bound, Lost, Open}
use Rattle.history_state.specs.After.{after, after_from}
use Rattle.history_state.specs.Allowed.{Allowed}
use Rattle.history_state.specs.Grants.{is_open}
use Rattle.history_state.specs.Legal.{Legal}
use Rattle.history_state.specs.Setting.{Setting}
use Rattle.history_state.specs.Slots.{IsOpenGrant}
use Rattle.history_state.specs.State.{State}
use Rattle.history_state.specs.Step.{die, initialise, loaded, lower, settled_as, step, unmap}
use Rattle.history_state.specs.Lemmas.History.{after_push, after_take, one_behind, take_next}
use Rattle.history_state.specs.Lemmas.Lists.{at_in, here, in_map, none_in}
use Rattle.history_state.specs.Lemmas.Standing.{is_open_of, open_is}
use Rattle.history_state.specs.Lemmas.Tidy.{in_at, was_settled}

-- ---- an event more

-- the same grant, and as it stood unless it was open
record Stays (g q : Granting) : Type 0 where
  pub number : q.number ≡ g.number
  pub owner : q.owner ≡ g.owner
  pub slot : q.slot ≡ g.slot
  pub value : q.value ≡ g.value
  pub standing : g.standing ≢ Open → q.standing ≡ g.standing

itself : (g : Granting) → Stays g g
itself g = record { number = refl; owner = refl; slot = refl; value = refl; standing = λ shut. refl }

further : (g q r : Granting) → Stays g q → Stays q r → Stays g r
further g q r a b = record {
  number = b.number ∙ a.number;
  owner = b.owner ∙ a.owner;
  slot = b.slot ∙ a.slot;
  value = b.value ∙ a.value;
  standing = λ shut. b.standing (λ on. shut (sym (a.standing shut) ∙ on)) ∙ a.standing shut;
}

abbrev StaysIn : List Granting → Granting → Type 0
StaysIn grants g = (q : Granting) × Contains grants q × Stays g q

settled_stays : (number : ℕ) (standing : Standing) (grants : List Granting) (g : Granting) → Contains grants g → StaysIn (map (settled_as number standing) grants) g
settled_stays number standing grants g there =
    (settled_as number standing g, in_map (settled_as number standing) grants g there, by (eqb g.number number && is_open g) refl)
  where
    by : (t : Bool) → (eqb g.number number && is_open g) ≡ t → Stays g (if t then record g { standing = standing } else g)
    by true e =
        let on : g.standing ≡ Open = open_is g.standing (and_parts (eqb g.number number) (is_open g) e).1 in
        record { number = refl; owner = refl; slot = refl; value = refl; standing = λ shut. absurd (shut on) }
    by false e = itself g

step_stays : (s : State) (e : Event) (g : Granting) → Contains s.grants g → StaysIn (step s e).grants g
unfolding loaded die lower unmap initialise
step_stays s (events.Open hart ask (opens.Done id root added ranges)) g there = (g, there, itself g)
step_stays s (events.Open hart ask opens.Absent) g there = (g, there, itself g)
step_stays s (events.Open hart ask (opens.Refused fault)) g there = (g, there, itself g)
step_stays s (events.Close hart handle (closes.Done set)) g there = (g, there, itself g)
step_stays s (events.Close hart handle (closes.Refused fault)) g there = (g, there, itself g)
step_stays s (events.Unmapped hart set) g there = (g, there, itself g)
step_stays s (events.Grant number hart owner slot choice value) g there = (g, Contains-append_left s.grants _ g there, itself g)
step_stays s (events.Bound number) g there = settled_stays number Bound s.grants g there
step_stays s (events.Lost number saw) g there = settled_stays number (Lost saw) s.grants g there
step_stays s (events.Unresolved hart owner slot choice) g there = (g, there, itself g)
step_stays s (events.Sym hart ask (syms.Found serial index value)) g there = (g, there, itself g)
step_stays s (events.Sym hart ask (syms.Refused fault)) g there = (g, there, itself g)
step_stays s (events.Tls hart owner address) g there = (g, there, itself g)
step_stays s (events.Init hart object) g there = (g, there, itself g)
step_stays s (events.Fini hart object) g there = (g, there, itself g)
step_stays s (events.Wrote hart bytes) g there = (g, there, itself g)
step_stays s (events.Told hart fault) g there = (g, there, itself g)
step_stays s (events.Ended hart reason) g there = (g, there, itself g)

-- ---- more events

stays : (past more : List Event) (g : Granting) → Contains (after past).grants g → StaysIn (after (past ++ more)).grants g
stays past [] g there = subst (λ (es : List Event). StaysIn (after es).grants g) (sym (append-nil past)) (g, there, itself g)
stays past (e ∷ rest) g there =
    let one = subst (λ (s : State). StaysIn s.grants g) (sym (after_push past e)) (step_stays (after past) e g there) in
    let all = subst (λ (es : List Event). StaysIn (after es).grants one.0) (one_behind past e rest) (stays (past ++ e ∷ []) rest one.0 one.1) in
    (all.0, all.1, further g one.0 all.0 one.2 all.2)

-- what a journal's event left stays to its end
stays_behind : (journal : List Event) (k : ℕ) (e : Event) (g : Granting) → slice_get journal k ≡ Some e → Contains (step (after (take k journal)) e).grants g
    → StaysIn (after journal).grants g
stays_behind journal k e g at there =
    subst (λ (es : List Event). StaysIn (after es).grants g) (take-append-drop (suc k) journal)
    (stays (take (suc k) journal) (drop (suc k) journal) g (subst (λ (s : State). Contains s.grants g) (sym (after_take journal k e at)) there))

-- ---- which events they come from

-- the grant of a grant's event
pub record WasGrantedAs (journal : List Event) (number value : ℕ) (g : Granting) : Type 0 where
  pub there : Contains (after journal).grants g
  pub number_is : g.number ≡ number
  pub value_is : g.value ≡ value

pub granted_there : (journal : List Event) (k number hart owner slot value : ℕ) (choice : Choice) → slice_get journal k ≡ Some (events.Grant number hart owner slot choice value)
    → (g : Granting) × WasGrantedAs journal number value g
granted_there journal k number hart owner slot value choice at =
    let new : Granting = record { number = number; hart = hart; owner = owner; slot = slot; choice = choice; value = value; standing = Open } in
    let old : List Granting = (after (take k journal)).grants in
    let last = stays_behind journal k (events.Grant number hart owner slot choice value) new at (Contains-append_right old (new ∷ []) new (here new [])) in
    (last.0, record { there = last.1; number_is = last.2.number; value_is = last.2.value })

-- the grant with a number stands so
pub record StandsAs (journal : List Event) (number : ℕ) (standing : Standing) (g : Granting) : Type 0 where
  pub there : Contains (after journal).grants g
  pub number_is : g.number ≡ number
  pub stands : g.standing ≡ standing

settles : (number : ℕ) (standing : Standing) (g : Granting) → g.number ≡ number → g.standing ≡ Open → settled_as number standing g ≡ record g { standing = standing }
settles number standing g is on =
    ap (λ (t : Bool). if t then record g { standing = standing } else g)
    (and_from (eqb g.number number) (is_open g) (eq-eqb g.number number is) (is_open_of g.standing on))

settled_there : (journal : List Event) (k number : ℕ) (standing : Standing) (e : Event) (was : Granting) → slice_get journal k ≡ Some e
    → (step (after (take k journal)) e).grants ≡ map (settled_as number standing) (after (take k journal)).grants
    → IsOpenGrant (after (take k journal)) number was → standing ≢ Open → (g : Granting) × StandsAs journal number standing g
settled_there journal k number standing e was at is open_yet shut =
    let now : Granting = record was { standing = standing } in
    let there : Contains (map (settled_as number standing) (after (take k journal)).grants) now =
    subst (Contains (map (settled_as number standing) (after (take k journal)).grants)) (settles number standing was open_yet.numbered open_yet.open_yet)
    (in_map (settled_as number standing) (after (take k journal)).grants was open_yet.there) in
    let last = stays_behind journal k e now at (subst (λ (gs : List Granting). Contains gs now) (sym is) there) in
    (last.0, record { there = last.1; number_is = last.2.number ∙ open_yet.numbered; stands = last.2.standing shut })

module _ (w : Setting) (journal : List Event) (legal : Legal w journal) where
  allowed : (k : ℕ) (e : Event) → slice_get journal k ≡ Some e → Allowed w (take k journal) e
  unfolding Legal
  allowed = legal

  pub bound_there : (number : ℕ) → Contains journal (events.Bound number) → (g : Granting) × StandsAs journal number Bound g
  bound_there number there =
      let at = in_at journal (events.Bound number) there in
      let may = allowed at.0 (events.Bound number) at.1 in
      settled_there journal at.0 number Bound (events.Bound number) may.grant at.1 refl may.is (λ on. let no : Bound ≡ Open = on in cc)

  pub lost_there : (number saw : ℕ) → Contains journal (events.Lost number saw) → (g : Granting) × StandsAs journal number (Lost saw) g
  lost_there number saw there =
      let at = in_at journal (events.Lost number saw) there in
      let may = allowed at.0 (events.Lost number saw) at.1 in
      settled_there journal at.0 number (Lost saw) (events.Lost number saw) may.grant at.1 refl may.is (λ on. let no : Lost saw ≡ Open = on in cc)

-- ---- a grant that is bound has its event

abbrev BoundBefore : List Event → State → Type 0
BoundBefore journal s = (g : Granting) → Contains s.grants g → g.standing ≡ Bound → Contains journal (events.Bound g.number)

bound_by : (journal : List Event) (s : State) (e : Event) → Contains journal e → BoundBefore journal s → BoundBefore journal (step s e)
unfolding loaded die lower unmap initialise
bound_by journal s (events.Open hart ask (opens.Done id root added ranges)) in_it before = before
bound_by journal s (events.Open hart ask opens.Absent) in_it before = before
bound_by journal s (events.Open hart ask (opens.Refused fault)) in_it before = before
bound_by journal s (events.Close hart handle (closes.Done set)) in_it before = before
bound_by journal s (events.Close hart handle (closes.Refused fault)) in_it before = before
bound_by journal s (events.Unmapped hart set) in_it before = before
bound_by journal s (events.Grant number hart owner slot choice value) in_it before = λ g there bound. ⊎_elim
    (λ (old : Contains s.grants g). before g old bound)
    (λ (new : record { number = number; hart = hart; owner = owner; slot = slot; choice = choice; value = value; standing = Open } ≡ g).
    absurd (let no : Open ≡ Bound = ap (λ (q : Granting). q.standing) new ∙ bound in cc))
    (Contains-push_cases s.grants _ g there)
bound_by journal s (events.Bound number) in_it before = λ g there bound.
    let was = was_settled number Bound s.grants g there in ⊎_elim
    (λ same. subst (λ (n : ℕ). Contains journal (events.Bound n)) was.2.number_is (before was.0 was.1 (sym same ∙ bound)))
    (λ now. subst (λ (n : ℕ). Contains journal (events.Bound n)) (sym now.0 ∙ was.2.number_is) in_it)
    was.2.how
bound_by journal s (events.Lost number saw) in_it before = λ g there bound.
    let was = was_settled number (Lost saw) s.grants g there in ⊎_elim
    (λ same. subst (λ (n : ℕ). Contains journal (events.Bound n)) was.2.number_is (before was.0 was.1 (sym same ∙ bound)))
    (λ now. absurd (let no : Lost saw ≡ Bound = sym now.2 ∙ bound in cc))
    was.2.how
bound_by journal s (events.Unresolved hart owner slot choice) in_it before = before
bound_by journal s (events.Sym hart ask (syms.Found serial index value)) in_it before = before
bound_by journal s (events.Sym hart ask (syms.Refused fault)) in_it before = before
bound_by journal s (events.Tls hart owner address) in_it before = before
bound_by journal s (events.Init hart object) in_it before = before
bound_by journal s (events.Fini hart object) in_it before = before
bound_by journal s (events.Wrote hart bytes) in_it before = before
bound_by journal s (events.Told hart fault) in_it before = before
bound_by journal s (events.Ended hart reason) in_it before = before

bound_up_to : (journal : List Event) (k : ℕ) → BoundBefore journal (after (take k journal))
unfolding after_from
bound_up_to journal zero = λ g there bound. absurd (none_in g there)
bound_up_to journal (suc k) = ⊎_elim
    (λ (h : (e : Event) × (slice_get journal k ≡ Some e)).
    subst (BoundBefore journal) (sym (after_take journal k h.0 h.1)) (bound_by journal (after (take k journal)) h.0 (at_in journal k h.0 h.1) (bound_up_to journal k)))
    (λ (h : take (suc k) journal ≡ take k journal). subst (λ (es : List Event). BoundBefore journal (after es)) (sym h) (bound_up_to journal k))
    (take_next journal k)

pub bound_event : (journal : List Event) (g : Granting) → Contains (after journal).grants g → g.standing ≡ Bound → Contains journal (events.Bound g.number)
bound_event journal = subst (λ (es : List Event). BoundBefore journal (after es)) (take_all (length journal) journal (omega arith)) (bound_up_to journal (length journal))
