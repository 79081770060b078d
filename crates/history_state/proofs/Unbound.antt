-- No grant is bound of a slot that got its value when its object was loaded.
use Rattle.std.proofs.Common.{◌≡◌, ⊎_elim, ℕ, ◌<◌, ◌≤◌, Bool, true, false, not, eqb, List, ◌++◌, map, Option, None, refl, sym, ap, subst, ◌∙◌, arith}
use Rattle.std.specs.List.{Contains, filter, find, slice_get}
use Rattle.std.specs.Option.{option_and_then}
use Rattle.std.proofs.lemmas.Bool.{eqb-true, ne_eqb}
use Rattle.std.proofs.lemmas.List.Elements.{Contains-push_cases}
use Rattle.history_event.specs.declared.event.CloseAnswer.TheVariants as closes
use Rattle.history_event.specs.declared.event.Event.{Event}
use Rattle.history_event.specs.declared.event.Event.TheVariants as events
use Rattle.history_event.specs.declared.event.OpenAnswer.TheVariants as opens
use Rattle.history_event.specs.declared.event.SymAnswer.TheVariants as syms
use Rattle.history_event.specs.declared.state.Chosen.{Chosen}
use Rattle.history_event.specs.declared.state.Granting.{Granting}
use Rattle.history_event.specs.declared.state.Standing.TheVariants as standings
use Rattle.history_state.specs.State.{State}
use Rattle.history_state.specs.After.{after}
use Rattle.history_state.specs.Allowed.{AllowedIn}
use Rattle.history_state.specs.Bound.{chosen_of}
use Rattle.history_state.specs.Grants.{is_open}
use Rattle.history_state.specs.Laws.{GrantsAreTidy}
use Rattle.history_state.specs.Legal.{Lawful}
use Rattle.history_state.specs.Objects.{has}
use Rattle.history_state.specs.Setting.{Machine, Setting}
use Rattle.history_state.specs.Slots.{MayBind}
use Rattle.history_state.specs.Step.{binds, die, initialise, loaded, lower, seen_after, settled_as, step, unmap}
use Rattle.history_state.specs.Lemmas.History.{by_lawful}
use Rattle.history_state.specs.Lemmas.Lists.{from_map, none_in}
use Rattle.history_state.specs.Lemmas.Brought.{LoadLaws, arrived_by}
use Rattle.history_state.specs.Lemmas.Lookups.{find_front, find_kept, find_less}
use Rattle.history_state.specs.Lemmas.Steps.{good_after}
use Rattle.history_state.specs.Lemmas.Tidy.{one_number, tidy_after, was_settled}

-- ---- the value at load, in a list

abbrev at_load : List Chosen → ℕ → ℕ → Option ℕ
at_load chosen owner slot = option_and_then (λ c. option_and_then (λ v. v) (slice_get c.values slot)) (find (λ c. eqb c.owner owner) chosen)

abbrev Unbound : List Granting → List Chosen → Type 0
Unbound grants chosen = (g : Granting) → Contains grants g → g.standing ≡ standings.Bound → at_load chosen g.owner g.slot ≡ None

-- of an object that is unmapped nothing is recorded
less_chosen : (chosen : List Chosen) (set : List ℕ) (owner slot : ℕ) → at_load chosen owner slot ≡ None → at_load (filter (λ c. not (has set c.owner)) chosen) owner slot ≡ None
less_chosen chosen set owner slot none = by (has set owner) refl
  where
    by : (b : Bool) → has set owner ≡ b → at_load (filter (λ c. not (has set c.owner)) chosen) owner slot ≡ None
    by true e = ap (λ (found : Option Chosen). option_and_then (λ c. option_and_then (λ v. v) (slice_get c.values slot)) found)
        (find_less (λ (c : Chosen). eqb c.owner owner) (λ c. not (has set c.owner)) chosen (λ c there is. ap (λ (n : ℕ). not (has set n)) (eqb-true c.owner owner is) ∙ ap not e))
    by false e = ap (λ (found : Option Chosen). option_and_then (λ c. option_and_then (λ v. v) (slice_get c.values slot)) found)
        (find_kept (λ (c : Chosen). eqb c.owner owner) (λ c. not (has set c.owner)) chosen (λ c there is. ap (λ (n : ℕ). not (has set n)) (eqb-true c.owner owner is) ∙ ap not e)) ∙ none

-- what an opening records is of other owners
more_chosen : (chosen more : List Chosen) (owner slot : ℕ) → ((c : Chosen) → Contains more c → eqb c.owner owner ≡ false) → at_load chosen owner slot ≡ None → at_load (chosen ++ more) owner slot ≡ None
more_chosen chosen more owner slot other none =
    ap (λ (found : Option Chosen). option_and_then (λ c. option_and_then (λ v. v) (slice_get c.values slot)) found) (find_front (λ (c : Chosen). eqb c.owner owner) chosen more other) ∙ none

unbound_bound : (m : Machine) (past : List Event) → Lawful m past → (number : ℕ) → MayBind (after past) number → Unbound (after past).grants (after past).chosen
    → Unbound (map (settled_as number standings.Bound) (after past).grants) (after past).chosen
unbound_bound m past lawful number may unbound q there bound =
    let was = was_settled number standings.Bound (after past).grants q there in
    ap (λ (n : ℕ). at_load (after past).chosen n q.slot) (sym was.2.owner) ∙ ap (at_load (after past).chosen was.0.owner) (sym was.2.slot) ∙ ⊎_elim
    (λ (same : q.standing ≡ was.0.standing). unbound was.0 was.1 (sym same ∙ bound))
    (λ (now : (was.0.number ≡ number) × (is_open was.0 ≡ true) × (q.standing ≡ standings.Bound)).
    let one : may.grant ≡ was.0 = one_number (after past).grants (tidy_after m past lawful) may.grant was.0 may.is.there was.1 (may.is.numbered ∙ sym now.0) in
    subst (λ (g : Granting). at_load (after past).chosen g.owner g.slot ≡ None) one may.lazy)
    was.2.how

unbound_lost : (number saw : ℕ) (grants : List Granting) (chosen : List Chosen) → Unbound grants chosen → Unbound (map (settled_as number (standings.Lost saw)) grants) chosen
unbound_lost number saw grants chosen unbound q there bound =
    let was = was_settled number (standings.Lost saw) grants q there in
    ap (λ (n : ℕ). at_load chosen n q.slot) (sym was.2.owner) ∙ ap (at_load chosen was.0.owner) (sym was.2.slot) ∙ ⊎_elim
    (λ (same : q.standing ≡ was.0.standing). unbound was.0 was.1 (sym same ∙ bound))
    (λ (now : (was.0.number ≡ number) × (is_open was.0 ≡ true) × (q.standing ≡ standings.Lost saw)). absurd (let d : standings.Lost saw ≡ standings.Bound = sym now.2 ∙ bound in cc))
    was.2.how

unbound_step : LoadLaws → (m : Machine) (w : Setting) (past : List Event) (e : Event) → Lawful m past → AllowedIn w past (after past) e → Unbound (after past).grants (after past).chosen
    → Unbound (step (after past) e).grants (step (after past) e).chosen
unfolding loaded die lower unmap initialise
unbound_step laws m w past (events.Open hart ask (opens.Done id root added ranges)) lawful may unbound = λ g there bound.
    let s : State = after past in
    let good = good_after laws m past lawful in
    let came = arrived_by laws w (after past) good hart ask id root added ranges may in
    more_chosen (after past).chosen _ g.owner g.slot
    (λ c new.
    let by = from_map (chosen_of (loaded (after past) hart ask id root added ranges) (seen_after (after past) ask id root added) (binds (after past) ask)) added c new in
    let low : g.owner < (after past).next = good.grants_low g there in
    let high : (after past).next ≤ by.0.serial = (came.fresh by.0 by.1).0 in
    let owner : by.0.serial ≡ c.owner = ap (λ (k : Chosen). k.owner) by.2 in
    ne_eqb c.owner g.owner (λ (same : c.owner ≡ g.owner). omega (arith, low, high, owner, same)))
    (unbound g there bound)
unbound_step laws m w past (events.Open hart ask opens.Absent) lawful may unbound = unbound
unbound_step laws m w past (events.Open hart ask (opens.Refused fault)) lawful may unbound = unbound
unbound_step laws m w past (events.Close hart handle (closes.Done set)) lawful may unbound = unbound
unbound_step laws m w past (events.Close hart handle (closes.Refused fault)) lawful may unbound = unbound
unbound_step laws m w past (events.Unmapped hart set) lawful may unbound = λ g there bound. less_chosen (after past).chosen set g.owner g.slot (unbound g there bound)
unbound_step laws m w past (events.Grant number hart owner slot choice value) lawful may unbound = λ g there bound. ⊎_elim
    (λ (old : Contains (after past).grants g). unbound g old bound)
    (λ (e : record { number = number; hart = hart; owner = owner; slot = slot; choice = choice; value = value; standing = standings.Open } ≡ g).
    absurd (let d : standings.Open ≡ standings.Bound = ap (λ (q : Granting). q.standing) e ∙ bound in cc))
    (Contains-push_cases (after past).grants _ g there)
unbound_step laws m w past (events.Bound number) lawful may unbound = unbound_bound m past lawful number may unbound
unbound_step laws m w past (events.Lost number saw) lawful may unbound = unbound_lost number saw (after past).grants (after past).chosen unbound
unbound_step laws m w past (events.Unresolved hart owner slot choice) lawful may unbound = unbound
unbound_step laws m w past (events.Sym hart ask (syms.Found serial index value)) lawful may unbound = unbound
unbound_step laws m w past (events.Sym hart ask (syms.Refused fault)) lawful may unbound = unbound
unbound_step laws m w past (events.Tls hart owner address) lawful may unbound = unbound
unbound_step laws m w past (events.Init hart object) lawful may unbound = unbound
unbound_step laws m w past (events.Fini hart object) lawful may unbound = unbound
unbound_step laws m w past (events.Wrote hart bytes) lawful may unbound = unbound
unbound_step laws m w past (events.Told hart fault) lawful may unbound = unbound
unbound_step laws m w past (events.Ended hart reason) lawful may unbound = unbound

pub grants_tidy : LoadLaws → (m : Machine) (journal : List Event) → Lawful m journal → GrantsAreTidy (after journal)
grants_tidy laws m journal lawful =
    let tidy = tidy_after m journal lawful in
    record {
      numbered = tidy.numbered;
      one_bound = tidy.one_bound;
      one_open = tidy.one_open;
      unbound = by_lawful m (λ s. Unbound s.grants s.chosen) (λ g there. absurd (none_in g there)) (λ w past e same past_lawful unbound may. unbound_step laws m w past e past_lawful may unbound) journal lawful;
    }
