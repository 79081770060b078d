-- The least open grant that touches a set.
use Rattle.std.proofs.Common.{◌≡◌, ◌⊎◌, inl, inr, ⊎_elim, ℕ, suc, ◌+◌, ◌<◌, ◌≤◌, ◌||◌, Bool, true, false, cond, List, [], ◌∷◌, get_or, Some, None, refl, sym, ap, subst, ◌∙◌, arith}
use Rattle.std.specs.List.{All, AllPairs, Contains, filter, find, list_any, slice_get}
use Rattle.std.proofs.lemmas.Bool.{or_parts, true≢false}
use Rattle.std.proofs.lemmas.List.Elements.{All-contains}
use Rattle.std.proofs.lemmas.List.Kept.{AllPairs-filter}
use Rattle.std.proofs.lemmas.Option.{slice_get-get_or}
use Rattle.history_event.specs.declared.state.Granting.{Granting}
use Rattle.history_state.specs.Allowed.{IsUngranted}
use Rattle.history_state.specs.Grants.{is_open, is_open_standing, target_of}
use Rattle.history_state.specs.Laws.{GrantsAreTidy}
use Rattle.history_state.specs.Objects.{has}
use Rattle.history_state.specs.State.{State}
use Rattle.history_state.specs.Lemmas.Lists.{any_in, first_or_later, found_in, from_filter, has_in, has_not, in_any, in_filter, in_has, not_found}
use Rattle.history_calls.specs.Waiting.{IsHeldBy, Touches}
use Rattle.close_mark.specs.UnmapSteps.Touched.{is_touching}
use Rattle.history_state.specs.Lemmas.Standing.{open_is}

abbrev Before : Granting → Granting → Type 0
Before g h = g.number < h.number

pairs_head : (x : Granting) (xs : List Granting) → AllPairs Before (x ∷ xs) → All (Before x) xs
pairs_head x xs pairs k d within = pairs 0 (suc k) d (omega arith) (omega arith)

pairs_tail : (x : Granting) (xs : List Granting) → AllPairs Before (x ∷ xs) → AllPairs Before xs
pairs_tail x xs pairs i j d lt within = pairs (suc i) (suc j) d (omega arith) (omega arith)

-- the first that passes a test has the least number of those that do
first_least : (p : Granting → Bool) (xs : List Granting) (g other : Granting) → AllPairs Before xs → find p xs ≡ Some g → Contains xs other → p other ≡ true → g.number ≤ other.number
first_least p [] g other rising found inside is = absurd (let d : None ≡ Some g = found in cc)
first_least p (x ∷ xs) g other rising found inside is =
    by (p x) refl found (λ f there. first_least p xs g other (pairs_tail x xs rising) f there is) (first_or_later x xs other inside)
  where
    by : (b : Bool) → p x ≡ b → cond b (Some x) (find p xs) ≡ Some g → (find p xs ≡ Some g → Contains xs other → g.number ≤ other.number) → (x ≡ other) ⊎ Contains xs other → g.number ≤ other.number
    by true e f again at =
        let same : x.number ≡ g.number = (let one : x ≡ g = cc in ap (λ (k : Granting). k.number) one) in
        ⊎_elim
        (λ (first : x ≡ other). let number : x.number ≡ other.number = ap (λ (k : Granting). k.number) first in omega (arith, same, number))
        (λ (later : Contains xs other). let lt : x.number < other.number = All-contains (Before x) xs other (pairs_head x xs rising) later in omega (arith, same, lt))
        at
    by false e f again at = ⊎_elim
        (λ (first : x ≡ other). absurd (true≢false (sym is ∙ sym (ap p first) ∙ e)))
        (λ (later : Contains xs other). again f later)
        at

rising : (grants : List Granting) → ((k : ℕ) (g : Granting) → slice_get grants k ≡ Some g → g.number ≡ k + 1) → AllPairs Before grants
rising grants numbered i j d lt within =
    let a : (get_or grants i d).number ≡ i + 1 = numbered i (get_or grants i d) (slice_get-get_or grants i d (omega (arith, lt, within))) in
    let b : (get_or grants j d).number ≡ j + 1 = numbered j (get_or grants j d) (slice_get-get_or grants j d within) in
    omega (arith, a, b, lt)

-- ---- touching

touches : (set : List ℕ) (g : Granting) → is_touching set g ≡ true → Touches g set
touches set g is = by (has set g.owner) refl is
  where
    by : (b : Bool) → has set g.owner ≡ b → (b || list_any (has set) (target_of g.choice)) ≡ true → Touches g set
    by true e f = (g.owner, has_in set g.owner e, inl refl)
    by false e f = let at = any_in (has set) (target_of g.choice) f in (at.0, has_in set at.0 at.2, inr at.1)

touching : (set : List ℕ) (g : Granting) → Touches g set → is_touching set g ≡ true
touching set g (d, inside, named) = by (is_touching set g) refl
  where
    none : is_touching set g ≡ false → ⊥
    none e = let parts = or_parts (has set g.owner) (list_any (has set) (target_of g.choice)) e in ⊎_elim
        (λ (owner : g.owner ≡ d). has_not set g.owner parts.0 (subst (Contains set) (sym owner) inside))
        (λ (target : Contains (target_of g.choice) d). true≢false (sym (in_any (has set) (target_of g.choice) d target (in_has set d inside)) ∙ parts.1))
        named

    by : (b : Bool) → is_touching set g ≡ b → is_touching set g ≡ true
    by true e = e
    by false e = absurd (none e)

pub held_by_first : (s : State) (set : List ℕ) (g : Granting) → GrantsAreTidy s → find (is_touching set) (filter is_open s.grants) ≡ Some g → IsHeldBy s set g.number
held_by_first s set g tidy found =
    let at = found_in (is_touching set) (filter is_open s.grants) g found in
    let was = from_filter is_open s.grants g at.0 in
    record {
      grant = g;
      is = record { there = was.0; numbered = refl; open_yet = open_is g.standing was.1 };
      touches = touches set g at.1;
      least = λ other there standing named.
          first_least (is_touching set) (filter is_open s.grants) g other (AllPairs-filter Before is_open s.grants (rising s.grants tidy.numbered)) found
          (in_filter is_open s.grants other there (ap is_open_standing standing)) (touching set other named);
    }

pub none_holds : (s : State) (set : List ℕ) → find (is_touching set) (filter is_open s.grants) ≡ None → IsUngranted s set
none_holds s set none g d there standing inside =
    let free : is_touching set g ≡ false = not_found (is_touching set) (filter is_open s.grants) g none (in_filter is_open s.grants g there (ap is_open_standing standing)) in
    (λ owner. true≢false (sym (touching set g (d, inside, inl owner)) ∙ free), λ target. true≢false (sym (touching set g (d, inside, inr target)) ∙ free))
