-- Places of objects whose serials follow one another.
use Rattle.std.proofs.Common.{◌≡◌, ⊎_elim, ℕ, zero, suc, ◌+◌, ◌-◌, ◌<◌, ◌≤◌, not, eqb, List, [], ◌∷◌, map, length, get_or, Some, None, refl, sym, ap, subst, ◌∙◌, arith}
use Rattle.std.specs.List.{Contains, filter, slice_get}
use Rattle.std.proofs.lemmas.List.Elements.{Contains-append_cases}
use Rattle.std.proofs.lemmas.Option.{get_or_from_slice_get}
use Rattle.ld_base.specs.declared.linking.Loaded.{Loaded}
use Rattle.history_graph.specs.declared.graph.Edge.{Edge}
use Rattle.history_graph.specs.Initialised.{InitOrder, program_last}
use Rattle.history_state.specs.Objects.{serial_of}
use Rattle.history_state.specs.Lemmas.Lists.{at_in, first_or_later, from_filter, from_map, none_in}
use Rattle.link_images.specs.ObjectFunctions.Rooms.{AreInRow, IsPlace}

-- ---- what is read of a list

pub in_at : {X : Type 0} (xs : List X) (x : X) → Contains xs x → (k : ℕ) × (slice_get xs k ≡ Some x)
in_at [] x h = absurd (none_in x h)
in_at {X} (y ∷ ys) x h = ⊎_elim
    (λ (e : y ≡ x). (0, ap (λ (z : X). Some z) e))
    (λ (i : Contains ys x). let rest = in_at ys x i in (suc rest.0, rest.1))
    (first_or_later y ys x h)

pub read_at : {X : Type 0} (xs : List X) (k : ℕ) (d : X) → k < length xs → slice_get xs k ≡ Some (get_or xs k d)
read_at [] k d lt = absurd (omega (arith, lt))
read_at (y ∷ ys) zero d lt = refl
read_at (y ∷ ys) (suc k) d lt = read_at ys k d (omega (arith, lt))

pub below_at : {X : Type 0} (xs : List X) (k : ℕ) (x : X) → slice_get xs k ≡ Some x → k < length xs
below_at {X} [] k x e = absurd (let d : None ≡ Some x = e in cc)
below_at (y ∷ ys) zero x e = omega arith
below_at (y ∷ ys) (suc k) x e = let lt = below_at ys k x e in omega (arith, lt)

pub read_is : {X : Type 0} (xs : List X) (k : ℕ) (x r : X) → slice_get xs k ≡ Some x → r ≡ get_or xs k r → r ≡ x
read_is xs k x r at is = is ∙ get_or_from_slice_get xs k x r at

-- ---- objects in a row

pub record Placed (objects : List Loaded) (serial from : ℕ) : Type 0 where
  pub low : from ≤ serial
  pub place : IsPlace objects serial (serial - from)
  pub inside : serial - from < length objects

pub placed : (objects : List Loaded) (serial : ℕ) (first : Loaded) → AreInRow objects → Contains (map serial_of objects) serial → first ≡ get_or objects 0 first → Placed objects serial first.serial
placed objects serial first row member is =
    let found = from_map serial_of objects serial member in
    let at = in_at objects found.0 found.1 in
    let lt : at.0 < length objects = below_at objects at.0 found.0 at.1 in
    let start : slice_get objects 0 ≡ Some first = read_at objects 0 first (omega (arith, lt)) ∙ ap (λ (o : Loaded). Some o) (sym is) in
    let on : found.0.serial ≡ first.serial + at.0 = row at.0 first found.0 start at.1 in
    let own : found.0.serial ≡ serial = found.2 in
    let same : at.0 ≡ serial - first.serial = omega (arith, on, own) in
    record {
      low = omega (arith, on, own);
      place = record { of = found.0; at = subst (λ (k : ℕ). slice_get objects k ≡ Some found.0) same at.1; is = own };
      inside = omega (arith, same, lt);
    }

-- ---- members of an order

in_serials : (serials : List ℕ) (d : ℕ) → Contains (program_last (Some 1) serials) d → Contains serials d
in_serials serials d h = ⊎_elim
    (λ (a : Contains (filter (λ o. not (eqb o 1)) serials) d). (from_filter (λ o. not (eqb o 1)) serials d a).0)
    (λ (b : Contains (filter (λ o. eqb o 1) serials) d). (from_filter (λ o. eqb o 1) serials d b).0)
    (Contains-append_cases (filter (λ o. not (eqb o 1)) serials) (filter (λ o. eqb o 1) serials) d h)

pub ordered_in : (edges : List Edge) (serials order : List ℕ) → InitOrder edges (program_last (Some 1) serials) order → (d : ℕ) → Contains order d → Contains serials d
ordered_in edges serials order is d h =
    let at = in_at order d h in
    let next = is.each at.0 d at.1 in
    in_serials serials d (at_in (program_last (Some 1) serials) next.place d next.stands)
