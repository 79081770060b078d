-- What holds of every opening.
use Rattle.std.proofs.Common.{◌≡◌, ℕ, zero, suc, ◌+◌, Bool, true, false, ◌||◌, cond, eqb, List, [], ◌∷◌, ◌++◌, map, take, drop, length, Option, Some}
use Rattle.std.proofs.Common.{None, refl, sym, ap, subst, ◌∙◌, arith}
use Rattle.std.specs.List.{find, flat_map, list_any, slice_get}
use Rattle.std.specs.Option.{option_map}
use Rattle.std.proofs.lemmas.Bool.{eq-eqb, eqb-true, true≢false}
use Rattle.std.proofs.lemmas.List.{append_assoc, length-append}
use Rattle.std.proofs.lemmas.Option.{none-some}
use Rattle.ld_base.specs.declared.linking.Loaded.{Loaded}
use Rattle.scope_rule.specs.declared.arrival.Arrival.{Arrival}
use Rattle.scope_rule.specs.Load.{Brings, Load, Walk, asks, needed_by, preload_of, record_of, records, records_of, shares}
use Rattle.scope_rule.specs.Loads.{IsFound}
use Rattle.scope_rule.specs.Opening.{opened}
use Rattle.scope_rule.specs.declared.namespace.Namespace.{Namespace}
use Rattle.history_state.specs.Flags.{is_global}
use Rattle.history_state.specs.Objects.{has_id}
use Rattle.history_state.specs.State.{empty_namespace}
use Rattle.history_state.specs.Lemmas.Lists.{any_in, not_found}
use Rattle.history_state.specs.Step.{changed_at, loaded, namespace_before, with_namespace}
use Rattle.history_calls.specs.OpeningLaws.{FoundByName, OpeningsSeeTheStateAfter, names_of}

none_of : (a b : Bool) → (a || b) ≡ false → (a ≡ false) × (b ≡ false)
none_of true b none = absurd (true≢false none)
none_of false b none = (refl, none)

-- ---- the namespace of an opening

-- a change keeps the number
abbrev Keeps : (Namespace → Namespace) → Type 0
Keeps change = (id : ℕ) (ns : Namespace) → has_id id (change ns) ≡ has_id id ns

module _ (id : ℕ) (change : Namespace → Namespace) (keeps : Keeps change) where
  abbrev or_empty : Option Namespace → Namespace
  or_empty found = elim found [ Some ns ↦ ns | None ↦ empty_namespace id ]

  first_by : (ns : Namespace) (rest : List Namespace) (t : Bool) → has_id id ns ≡ t
      → find (has_id id) (map (changed_at id change) rest) ≡ option_map change (find (has_id id) rest)
      → find (has_id id) (map (changed_at id change) (ns ∷ rest)) ≡ option_map change (find (has_id id) (ns ∷ rest))
  first_by ns rest true is later =
      let here : has_id id (changed_at id change ns) ≡ true = ap (λ (t : Bool). has_id id (cond t (change ns) ns)) is ∙ keeps id ns ∙ is in
      ap (λ (t : Bool). cond t (Some (changed_at id change ns)) (find (has_id id) (map (changed_at id change) rest))) here
      ∙ ap (λ (t : Bool). Some (cond t (change ns) ns)) is
      ∙ sym (ap (λ (t : Bool). option_map change (cond t (Some ns) (find (has_id id) rest))) is)
  first_by ns rest false is later =
      let here : has_id id (changed_at id change ns) ≡ false = ap (λ (t : Bool). has_id id (cond t (change ns) ns)) is ∙ is in
      ap (λ (t : Bool). cond t (Some (changed_at id change ns)) (find (has_id id) (map (changed_at id change) rest))) here
      ∙ later
      ∙ sym (ap (λ (t : Bool). option_map change (cond t (Some ns) (find (has_id id) rest))) is)

  found_changed : (all : List Namespace) → find (has_id id) (map (changed_at id change) all) ≡ option_map change (find (has_id id) all)
  found_changed [] = refl
  found_changed (ns ∷ rest) = first_by ns rest (has_id id ns) refl (found_changed rest)

  -- where a number stands it is found
  some_found : (all : List Namespace) → list_any (has_id id) all ≡ true → (found : Option Namespace) → find (has_id id) all ≡ found
      → option_map change found ≡ Some (change (or_empty found))
  some_found all some (Some ns) is = refl
  some_found all some None is =
      let there = any_in (has_id id) all some in
      absurd (true≢false (sym there.2 ∙ not_found (has_id id) all there.0 is there.1))

  -- and else the one behind all others
  last_by : (ns : Namespace) (rest : List Namespace) (x : Namespace) (t : Bool) → has_id id ns ≡ t → t ≡ false
      → find (has_id id) (rest ++ x ∷ []) ≡ cond (has_id id x) (Some x) None → find (has_id id) (ns ∷ rest ++ x ∷ []) ≡ cond (has_id id x) (Some x) None
  last_by ns rest x t is none later =
      ap (λ (b : Bool). cond b (Some ns) (find (has_id id) (rest ++ x ∷ []))) (is ∙ none) ∙ later

  last_found : (all : List Namespace) (x : Namespace) → list_any (has_id id) all ≡ false → find (has_id id) (all ++ x ∷ []) ≡ cond (has_id id x) (Some x) None
  last_found [] x none = refl
  last_found (ns ∷ rest) x none =
      let parts = none_of (has_id id ns) (list_any (has_id id) rest) none in
      last_by ns rest x (has_id id ns) refl parts.0 (last_found rest x parts.1)

  none_found : (all : List Namespace) → list_any (has_id id) all ≡ false → find (has_id id) all ≡ None
  none_found [] none = refl
  none_found (ns ∷ rest) none =
      let parts = none_of (has_id id ns) (list_any (has_id id) rest) none in
      ap (λ (b : Bool). cond b (Some ns) (find (has_id id) rest)) parts.0 ∙ none_found rest parts.1

  namespace_found : (all : List Namespace) (t : Bool) → list_any (has_id id) all ≡ t
      → find (has_id id) (with_namespace id change all) ≡ Some (change (or_empty (find (has_id id) all)))
  namespace_found all true some =
      ap (λ (t : Bool). find (has_id id) (cond t (map (changed_at id change) all) (all ++ change (empty_namespace id) ∷ []))) some
      ∙ found_changed all ∙ some_found all some (find (has_id id) all) refl
  namespace_found all false none =
      let own : has_id id (change (empty_namespace id)) ≡ true = keeps id (empty_namespace id) ∙ eq-eqb id id refl in
      ap (λ (t : Bool). find (has_id id) (cond t (map (changed_at id change) all) (all ++ change (empty_namespace id) ∷ []))) none
      ∙ last_found all (change (empty_namespace id)) none
      ∙ ap (λ (t : Bool). cond t (Some (change (empty_namespace id))) None) own
      ∙ ap (λ (found : Option Namespace). Some (change (or_empty found))) (sym (none_found all none))

pub openings_see : OpeningsSeeTheStateAfter
unfolding loaded
openings_see s hart id root ask added ranges = (
  opened (namespace_before s id) added root (is_global ask.flags),
  namespace_found id (λ ns. opened ns added root (is_global ask.flags)) (λ i ns. refl) s.namespaces (list_any (has_id id) s.namespaces) refl,
  refl,
)

-- ---- what names found

in_front : {X : Type 0} (xs ys : List X) (k : ℕ) (x : X) → slice_get xs k ≡ Some x → slice_get (xs ++ ys) k ≡ Some x
in_front [] ys k x at = absurd (none-some x at)
in_front (y ∷ xs) ys zero x at = at
in_front (y ∷ xs) ys (suc k) x at = in_front xs ys k x at

behind : {X : Type 0} (xs ys : List X) (k p : ℕ) (x : X) → p ≡ k + length xs → slice_get ys k ≡ Some x → slice_get (xs ++ ys) p ≡ Some x
behind {X} [] ys k p x is at = let same : k ≡ p = omega (arith, is) in subst (λ (n : ℕ). slice_get ys n ≡ Some x) same at
behind (y ∷ xs) ys k zero x is at = absurd (omega (arith, is))
behind (y ∷ xs) ys k (suc p) x is at = behind xs ys k p x (omega (arith, is)) at

of_take : {X : Type 0} (n : ℕ) (xs : List X) (k : ℕ) (x : X) → slice_get (take n xs) k ≡ Some x → slice_get xs k ≡ Some x
of_take zero xs k x at = absurd (none-some x at)
of_take (suc n) [] k x at = at
of_take (suc n) (y ∷ xs) zero x at = at
of_take (suc n) (y ∷ xs) (suc k) x at = of_take n xs k x at

of_drop : {X : Type 0} (n : ℕ) (xs : List X) (k p : ℕ) (x : X) → p ≡ k + n → slice_get (drop n xs) k ≡ Some x → slice_get xs p ≡ Some x
of_drop {X} zero xs k p x is at = let same : k ≡ p = omega (arith, is) in subst (λ (n : ℕ). slice_get xs n ≡ Some x) same at
of_drop (suc n) [] k p x is at = absurd (none-some x at)
of_drop (suc n) (y ∷ xs) k zero x is at = absurd (omega (arith, is))
of_drop (suc n) (y ∷ xs) k (suc p) x is at = of_drop n xs k p x (omega (arith, is)) at

-- the names of an object at a place, where these come before those of the first one
abbrev names_with : List (List ℕ) → ℕ → Loaded → List (List ℕ)
names_with front place o = cond (eqb place 0) front [] ++ o.object.needed

abbrev no_names : List (List ℕ)
no_names = []

none_either : (t : Bool) → cond t no_names no_names ≡ no_names
none_either true = refl
none_either false = refl

later_place : (j : ℕ) (t : Bool) → eqb (suc j) 0 ≡ t → t ≡ false
later_place j true is = let same = eqb-true (suc j) 0 is in absurd (omega (arith, same))
later_place j false is = refl

-- a name that is asked for, and what stands at the same place
record Stands (names : List (List ℕ)) (serials : List ℕ) (name : List ℕ) (serial : ℕ) : Type 0 where
  pub place : ℕ
  pub asked : slice_get names place ≡ Some name
  pub found : slice_get serials place ≡ Some serial

shares_stand : (front : List (List ℕ)) (serials : List ℕ) (arrivals : List Arrival) (hart : ℕ) (deep : Bool) (next j k serial : ℕ) (o : Loaded) (name : List ℕ)
    → slice_get (records hart deep next arrivals (shares (length front) serials arrivals)) j ≡ Some o → slice_get (names_with front j o) k ≡ Some name
    → slice_get o.found k ≡ Some serial → Stands (front ++ flat_map needed_by arrivals) serials name serial
shares_stand front serials [] hart deep next j k serial o name at named found = absurd (none-some o at)
shares_stand front serials (a ∷ rest) hart deep next zero k serial o name at named found =
    let same : record_of hart deep next a (take (length front + length a.object.needed) serials) ≡ o = cc in
    let own : slice_get (front ++ a.object.needed) k ≡ Some name =
    subst (λ (x : Loaded). slice_get (front ++ x.object.needed) k ≡ Some name) (sym same) named in
    let share : slice_get (take (length front + length a.object.needed) serials) k ≡ Some serial =
    subst (λ (x : Loaded). slice_get x.found k ≡ Some serial) (sym same) found in
    record {
      place = k;
      asked = subst (λ (names : List (List ℕ)). slice_get names k ≡ Some name) (append_assoc front a.object.needed (flat_map needed_by rest))
          (in_front (front ++ a.object.needed) (flat_map needed_by rest) k name own);
      found = of_take (length front + length a.object.needed) serials k serial share;
    }
shares_stand front serials (a ∷ rest) hart deep next (suc j) k serial o name at named found =
    let more : Stands (flat_map needed_by rest) (drop (length front + length a.object.needed) serials) name serial =
    shares_stand [] (drop (length front + length a.object.needed) serials) rest hart deep (next + 1) j k serial o name at
    (subst (λ (xs : List (List ℕ)). slice_get (xs ++ o.object.needed) k ≡ Some name) (sym (none_either (eqb j 0)))
    (subst (λ (t : Bool). slice_get (cond t front no_names ++ o.object.needed) k ≡ Some name) (later_place j (eqb (suc j) 0) refl) named)) found in
    let long : length (front ++ a.object.needed) ≡ length front + length a.object.needed = length-append front a.object.needed in
    record {
      place = more.place + (length front + length a.object.needed);
      asked = subst (λ (names : List (List ℕ)). slice_get names (more.place + (length front + length a.object.needed)) ≡ Some name)
          (append_assoc front a.object.needed (flat_map needed_by rest))
          (behind (front ++ a.object.needed) (flat_map needed_by rest) more.place (more.place + (length front + length a.object.needed)) name (ap (λ
          (n : ℕ). more.place + n) (sym long)) more.asked);
      found = of_drop (length front + length a.object.needed) serials more.place (more.place + (length front + length a.object.needed)) serial refl more.found;
    }

one_more : (n : ℕ) → suc n ≡ n + 1
one_more n = omega arith

-- the load's own name comes before all
of_asks : (load : Load) (arrivals : List Arrival) (place : ℕ) (name : List ℕ) (o : Arrival) (rest : List Arrival) → arrivals ≡ o ∷ rest
    → slice_get (preload_of load ++ flat_map needed_by arrivals) place ≡ Some name → slice_get (asks load arrivals) (suc place) ≡ Some name
of_asks load arrivals place name o rest are at =
    subst (λ (all : List Arrival). slice_get (preload_of load ++ flat_map needed_by all) place ≡ Some name
    → slice_get (asks load all) (suc place) ≡ Some name) (sym are) (λ h. h) at

abbrev pub NamesFind : Type 0
NamesFind = (load : Load) (w : Walk) → Brings load w → (place serial : ℕ) → slice_get w.found place ≡ Some serial → IsFound load w place serial

found_by_name_in : (load : Load) (deep : Bool) (w : Walk) (arrivals : List Arrival) → w.arrivals ≡ arrivals → (j k serial : ℕ) (o : Loaded) (name : List ℕ)
    → slice_get (records_of load deep w) j ≡ Some o → slice_get (names_of load j o) k ≡ Some name → slice_get o.found k ≡ Some serial
    → (place : ℕ) × (slice_get (asks load w.arrivals) place ≡ Some name) × (slice_get w.found place ≡ Some serial)
found_by_name_in load deep w [] are j k serial o name at named found =
    absurd (none-some o (subst (λ (all : List Arrival). slice_get (records load.hart deep load.next all (shares (length (preload_of load))
    (drop 1 w.found) all)) j ≡ Some o) are at))
found_by_name_in load deep w (a ∷ rest) are j k serial o name at named found =
    let x = shares_stand (preload_of load) (drop 1 w.found) w.arrivals load.hart deep load.next j k serial o name at named found in
    (suc x.place, of_asks load w.arrivals x.place name a rest are x.asked, of_drop 1 w.found x.place (suc x.place) serial (one_more x.place) x.found)

pub found_by_name : NamesFind → FoundByName
found_by_name law load deep w brings j k serial o name at named found =
    let x = found_by_name_in load deep w w.arrivals refl j k serial o name at named found in
    (x.0, x.1, law load w brings x.0 serial x.2)
