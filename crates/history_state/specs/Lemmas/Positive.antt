-- Serials begin at 1: those of each loading, and of what was initialised; and no more objects are initialised than were loaded.
use Rattle.std.proofs.Common.{◌≡◌, ⊎_elim, ℕ, suc, ◌+◌, ◌-◌, ◌<◌, ◌≤◌, Bool, true, false, eqb, List, [], ◌∷◌, map, length, Some, refl, sym, subst, arith}
use Rattle.std.specs.List.{AllByRecursion, Contains, IsDistinct, list_any, slice_get}
use Rattle.std.proofs.lemmas.Bool.{eqb-true}
use Rattle.std.proofs.lemmas.List.Elements.{Contains-append_cases, Contains-push_cases}
use Rattle.std.proofs.lemmas.Map.Steps.{length-le_from_distinct_below}
use Rattle.ld_base.specs.declared.linking.Loaded.{Loaded}
use Rattle.history_event.specs.declared.event.CloseAnswer.TheVariants as closes
use Rattle.history_event.specs.declared.event.Event.{Event}
use Rattle.history_event.specs.declared.event.Event.TheVariants as events
use Rattle.history_event.specs.declared.event.OpenAnswer.TheVariants as opens
use Rattle.history_event.specs.declared.event.SymAnswer.TheVariants as syms
use Rattle.history_event.specs.declared.state.Loading.{Loading}
use Rattle.history_state.specs.State.{State}
use Rattle.history_state.specs.After.{after}
use Rattle.history_state.specs.Allowed.{AllowedIn, MayInitialise}
use Rattle.history_state.specs.Legal.{Lawful}
use Rattle.history_state.specs.Objects.{serial_of}
use Rattle.history_state.specs.Setting.{Machine, Setting}
use Rattle.history_state.specs.Step.{die, initialise, loaded, loading_of, lower, step, unmap}
use Rattle.history_state.specs.Lemmas.History.{by_lawful}
use Rattle.history_state.specs.Lemmas.Lists.{any_in, first_or_later, from_map, has_not, here, later, none_in, only_in}
use Rattle.history_state.specs.Lemmas.Brought.{LoadLaws}
use Rattle.history_state.specs.Lemmas.Finalised.{IsLeft, finalised_once}
use Rattle.history_state.specs.Lemmas.Good.{Core}
use Rattle.history_state.specs.Lemmas.Initialised.{initialised_once, of_loading}
use Rattle.history_state.specs.Lemmas.Serials.{in_order_after}
use Rattle.history_state.specs.Lemmas.Steps.{Law, by_law}
use Rattle.history_state.specs.Lemmas.Tidy.{in_at}

-- ---- loadings

abbrev Positive : Core → Type 0
Positive c = (l : Loading) (d : ℕ) → Contains c.loadings l → Contains l.serials d → 1 ≤ d

new_loading : (hart : ℕ) (added : List Loaded) (l : Loading) (d : ℕ) → Contains (loading_of hart added) l → Contains l.serials d → Contains (map serial_of added) d
new_loading hart [] l d h i = absurd (none_in l h)
new_loading hart (a ∷ rest) l d h i = subst (λ (k : Loading). Contains k.serials d) (sym (only_in _ l h)) i

positive_law : Law Positive
unfolding loaded die lower unmap initialise
positive_law = record {
  starts = λ l d h. absurd (none_in l h);
  opens = λ w s hart ask id root added ranges good old opens came l d h i. ⊎_elim
      (λ (was : Contains s.loadings l). old l d was i)
      (λ (new : Contains (loading_of hart added) l).
      let at = from_map serial_of added d (new_loading hart added l d new i) in
      let from : s.next ≤ at.0.serial = (came.fresh at.0 at.1).0 in
      let first : 1 ≤ s.next = good.positive in
      let is : at.0.serial ≡ d = at.2 in
      omega (arith, from, first, is))
      (Contains-append_cases s.loadings (loading_of hart added) l h);
  closes = λ s hart handle set good old closes. old;
  unmaps = λ s hart set good old may. old;
  grants = λ s number hart owner slot choice value good old may. old;
  settles = λ s number standing good old shut. old;
  initialises = λ s object good old. old;
}

-- ---- what was initialised

-- a serial that was given
abbrev pub Given : State → ℕ → Type 0
Given s d = (1 ≤ d) × (d < s.next)

-- an object that is next was loaded
pub next_given : LoadLaws → (m : Machine) (past : List Event) → Lawful m past → (hart object : ℕ) → MayInitialise (after past) hart object → Given (after past) object
next_given laws m past lawful hart object may = (
  (by_law laws Positive positive_law m past lawful).1 may.loading object may.there (of_loading (after past) hart object may),
  (in_order_after laws m past lawful).low may.loading object may.there (of_loading (after past) hart object may),
)

abbrev AllGiven : State → Type 0
AllGiven s = (d : ℕ) → Contains s.inits d → Given s d

given_step : LoadLaws → (m : Machine) (w : Setting) (past : List Event) (e : Event) → Lawful m past → AllowedIn w past (after past) e → AllGiven (after past) → AllGiven (step (after past) e)
unfolding loaded die lower unmap initialise
given_step laws m w past (events.Open hart ask (opens.Done id root added ranges)) lawful may given = λ d h. let old = given d h in let low : 1 ≤ d = old.0 in let high : d < (after past).next = old.1 in (low, omega (arith, high))
given_step laws m w past (events.Open hart ask opens.Absent) lawful may given = given
given_step laws m w past (events.Open hart ask (opens.Refused fault)) lawful may given = given
given_step laws m w past (events.Close hart handle (closes.Done set)) lawful may given = given
given_step laws m w past (events.Close hart handle (closes.Refused fault)) lawful may given = given
given_step laws m w past (events.Unmapped hart set) lawful may given = given
given_step laws m w past (events.Grant number hart owner slot choice value) lawful may given = given
given_step laws m w past (events.Bound number) lawful may given = given
given_step laws m w past (events.Lost number saw) lawful may given = given
given_step laws m w past (events.Unresolved hart owner slot choice) lawful may given = given
given_step laws m w past (events.Sym hart ask (syms.Found serial index value)) lawful may given = given
given_step laws m w past (events.Sym hart ask (syms.Refused fault)) lawful may given = given
given_step laws m w past (events.Tls hart owner address) lawful may given = given
given_step laws m w past (events.Init hart object) lawful may given = λ d h. ⊎_elim
    (λ (i : Contains (after past).inits d). given d i)
    (λ (e : object ≡ d). subst (Given (after past)) e (next_given laws m past lawful hart object may))
    (Contains-push_cases (after past).inits object d h)
given_step laws m w past (events.Fini hart object) lawful may given = given
given_step laws m w past (events.Wrote hart bytes) lawful may given = given
given_step laws m w past (events.Told hart fault) lawful may given = given
given_step laws m w past (events.Ended hart reason) lawful may given = given

pub all_given : LoadLaws → (m : Machine) (journal : List Event) → Lawful m journal → AllGiven (after journal)
all_given laws m journal lawful = by_lawful m AllGiven (λ d h. absurd (none_in d h)) (λ w past e same past_lawful given may. given_step laws m w past e past_lawful may given) journal lawful

-- ---- how many there are

-- no two of the numbers are one
abbrev AreOnce : List ℕ → Type 0
AreOnce xs = (i j d : ℕ) → slice_get xs i ≡ Some d → slice_get xs j ≡ Some d → i ≡ j

differs : (x : ℕ) (ys : List ℕ) → (Contains ys x → ⊥) → AllByRecursion (λ y. eqb x y ≡ false) ys
differs x [] out = tt
differs x (y ∷ ys) out = (by (eqb x y) refl, differs x ys (λ h. out (later_in h)))
  where
    later_in : Contains ys x → Contains (y ∷ ys) x
    later_in h = later y ys x h

    by : (t : Bool) → eqb x y ≡ t → t ≡ false
    by true e = absurd (out (subst (λ (z : ℕ). Contains (y ∷ ys) z) (sym (eqb-true x y e)) (here y ys)))
    by false e = refl

distinct : (xs : List ℕ) → AreOnce xs → IsDistinct eqb xs
unfolding IsDistinct
distinct [] once = tt
distinct (x ∷ xs) once = (differs x xs not_again, distinct xs (λ i j d a b. let e : suc i ≡ suc j = once (suc i) (suc j) d a b in omega (arith, e)))
  where
    not_again : Contains xs x → ⊥
    not_again h = let at = in_at xs x h in let e : 0 ≡ suc at.0 = once 0 (suc at.0) x refl at.1 in omega (arith, e)

-- numbers from 1 on below a bound, with one number more that isn't among them, are fewer than the bound
pub fewer : (xs : List ℕ) (x n : ℕ) → AreOnce xs → (Contains xs x → ⊥) → ((d : ℕ) → Contains xs d → (1 ≤ d) × (d < n)) → 1 ≤ x → x < n → length xs + 1 ≤ n - 1
unfolding IsDistinct
fewer xs x n once out all low high =
    let counted : length (0 ∷ x ∷ xs) ≤ n = length-le_from_distinct_below (0 ∷ x ∷ xs) n apart within in
    omega (arith, counted)
  where
    not_zero : Contains (x ∷ xs) 0 → ⊥
    not_zero h = ⊎_elim
        (λ (e : x ≡ 0). let least : 1 ≤ x = low in omega (arith, e, least))
        (λ (i : Contains xs 0). let least : 1 ≤ 0 = (all 0 i).0 in omega (arith, least))
        (first_or_later x xs 0 h)

    apart : IsDistinct eqb (0 ∷ x ∷ xs)
    apart = (differs 0 (x ∷ xs) not_zero, (differs x xs out, distinct xs once))

    within : (q : ℕ) → list_any (eqb q) (0 ∷ x ∷ xs) ≡ true → q < n
    within q e =
        let at = any_in (eqb q) (0 ∷ x ∷ xs) e in
        let same : q ≡ at.0 = eqb-true q at.0 at.2 in
        ⊎_elim
        (λ (z : 0 ≡ at.0). let more : x < n = high in omega (arith, z, same, more))
        (λ (i : Contains (x ∷ xs) at.0). ⊎_elim
        (λ (z : x ≡ at.0). let more : x < n = high in omega (arith, z, same, more))
        (λ (j : Contains xs at.0). let less : at.0 < n = (all at.0 j).1 in omega (arith, same, less))
        (first_or_later x xs at.0 i))
        (first_or_later 0 (x ∷ xs) at.0 at.1)

-- before an object is initialised, fewer are than were loaded
pub fewer_inits : LoadLaws → (m : Machine) (past : List Event) → Lawful m past → (hart object : ℕ) → MayInitialise (after past) hart object
    → length (after past).inits + 1 ≤ (after past).next - 1
fewer_inits laws m past lawful hart object may =
    let given = next_given laws m past lawful hart object may in
    fewer (after past).inits object (after past).next (initialised_once laws m past lawful).once may.next.may.undone (all_given laws m past lawful) given.0 given.1

-- and before one is finalised, fewer were
pub fewer_finis : LoadLaws → (m : Machine) (past : List Event) → Lawful m past → (object : ℕ) → IsLeft (after past) object
    → length (after past).finis + 1 ≤ (after past).next - 1
fewer_finis laws m past lawful object left =
    let final = finalised_once m past lawful in
    let given = all_given laws m past lawful object left.initialised in
    fewer (after past).finis object (after past).next final.once (has_not (after past).finis object left.unfinished)
    (λ d h. all_given laws m past lawful d (final.initialised d h)) given.0 given.1
