-- A list that leads to itself, and the part of an order from a number on.
use Rattle.std.proofs.Common.{◌≡◌, ℕ, zero, suc, ◌<◌, ◌≤◌, nat_le, true, false, ◌⊎◌, inl, inr}
use Rattle.std.proofs.Common.{List, [], ◌∷◌, ◌++◌, length, take, refl, sym, ap, ◌∙◌, arith}
use Rattle.std.proofs.Math.Seq.{take-append_seam}
use Rattle.std.proofs.lemmas.Bool.{cases_Bool, cases_lt}
use Rattle.std.proofs.lemmas.Grind.{flat_map-append, common_steps}
use Rattle.std.proofs.lemmas.List.{take_all}
use Rattle.std.proofs.lemmas.List.Elements.{filter-append}
use Rattle.std.specs.List.{flat_map}
use Rattle.scope_rule.specs.Breadth.{has, extend, order_to}
use Rattle.scope_rule.specs.Lemmas.Orders.{extend_append, extend_is, lacking}
use Rattle.scope_rule.specs.Loads.{new_of, Begins}

-- ---- a list that leads to itself

-- the first elements, and what the elements lead to
abbrev pub reach : (ℕ → List ℕ) → List ℕ → List ℕ → List ℕ
reach f first xs = extend first (flat_map f xs)

-- a list leads to itself, and each front of it to more than it has
pub record IsQueue (f : ℕ → List ℕ) (first all : List ℕ) : Type 0 where
  pub whole : all ≡ reach f first all
  pub grows : (k : ℕ) → k < length all → k < length (reach f first (take k all))

begins_take : (front all : List ℕ) → Begins front all → take (length front) all ≡ front
begins_take front all b = ap (take (length front)) b.1 ∙ take-append_seam front b.0

-- a front that is as long is the list
begins_all : (front all : List ℕ) → Begins front all → length all ≤ length front → front ≡ all
begins_all front all b le = sym (begins_take front all b) ∙ take_all (length front) all le

reach_more : (f : ℕ → List ℕ) (first xs ys : List ℕ) → Begins (reach f first xs) (reach f first (xs ++ ys))
reach_more f first xs ys = (
  lacking (reach f first xs) (flat_map f ys),
  ap (extend first) (flat_map-append f xs ys) ∙ extend_append first (flat_map f xs) (flat_map f ys) ∙ extend_is (reach f first xs) (flat_map f ys),
)

module _ (f : ℕ → List ℕ) (first all : List ℕ) (q : IsQueue f first all) where
  order_begins : (n : ℕ) → Begins (order_to f first n) all
  order_begins zero = (lacking first (flat_map f all), q.whole ∙ extend_is first (flat_map f all))
  order_begins (suc n) =
      let b = order_begins n in
      let next = reach_more f first (order_to f first n) b.0 in
      (next.0, q.whole ∙ ap (reach f first) b.1 ∙ next.1)

  -- each level adds an element, until all are there
  order_grows : (n : ℕ) → (n ≤ length (order_to f first n)) ⊎ (length all ≤ length (order_to f first n))
  order_grows zero = inl (omega arith)
  order_grows (suc n) =
      let order : List ℕ = order_to f first n in
      let b : Begins order all = order_begins n in
      elim (cases_lt (length order) (length all)) [
        | inl lt ↦
            let more : length order < length (reach f first order) = rw (begins_take order all b) at (q.grows (length order) lt) in
            elim (order_grows n) [ inl long ↦ inl (omega arith) | inr done ↦ absurd (omega arith) ]
        | inr done ↦
            let same : reach f first order ≡ all = ap (reach f first) (begins_all order all b done) ∙ sym q.whole in
            inr (rw same (omega arith))
      ]

  pub queue_order : (n : ℕ) → length all ≤ n → order_to f first n ≡ all
  queue_order n le = begins_all (order_to f first n) all (order_begins n) (elim (order_grows n) [ inl long ↦ omega arith | inr done ↦ done ])

-- ---- the part of a list from a number on

new_has : (next x : ℕ) (xs : List ℕ) → nat_le next x ≡ true → has (new_of next xs) x ≡ has xs x
new_has next x [] new = refl
new_has next x (y ∷ ys) new = grind (arith, common_steps, new_has next x ys new)

new_extend_one : (next x : ℕ) (a : List ℕ) → new_of next (extend a (x ∷ [])) ≡ extend (new_of next a) (new_of next (x ∷ []))
new_extend_one next x a = grind (arith, common_steps, new_has next x a, filter-append (nat_le next) a (x ∷ []))

-- the new part of an order is an order of the new parts
pub new_extend : (next : ℕ) (a xs : List ℕ) → new_of next (extend a xs) ≡ extend (new_of next a) (new_of next xs)
new_extend next a [] = refl
new_extend next a (x ∷ xs) =
    let one : List ℕ = new_of next (x ∷ []) in
    ap (new_of next) (extend_append a (x ∷ []) xs)
    ∙ new_extend next (extend a (x ∷ [])) xs
    ∙ ap (λ (l : List ℕ). extend l (new_of next xs)) (new_extend_one next x a)
    ∙ sym (ap (extend (new_of next a)) (filter-append (nat_le next) (x ∷ []) xs) ∙ extend_append (new_of next a) one (new_of next xs))

pub new_flat : (next : ℕ) (f : ℕ → List ℕ) (xs : List ℕ) → flat_map (λ s. new_of next (f s)) xs ≡ new_of next (flat_map f xs)
new_flat next f [] = refl
new_flat next f (x ∷ xs) = ap (λ (l : List ℕ). new_of next (f x) ++ l) (new_flat next f xs) ∙ sym (filter-append (nat_le next) (f x) (flat_map f xs))

-- where old ones lead to nothing, what is led to by the new part is all
flat_new : (next : ℕ) (f : ℕ → List ℕ) → ((s : ℕ) → nat_le next s ≡ false → f s ≡ []) → (xs : List ℕ) → flat_map f (new_of next xs) ≡ flat_map f xs
flat_new next f none [] = refl
flat_new next f none (x ∷ xs) =
    elim (cases_Bool (nat_le next x)) [
      | inl new ↦ rw new (ap (λ (l : List ℕ). f x ++ l) (flat_new next f none xs))
      | inr old ↦ rw (old, none x old) (flat_new next f none xs)
    ]

-- so the new part of each order is the order of what leads to new ones
pub new_order : (next : ℕ) (f : ℕ → List ℕ) (first : List ℕ) → ((s : ℕ) → nat_le next s ≡ false → new_of next (f s) ≡ []) → (n : ℕ)
    → new_of next (order_to f first n) ≡ order_to (λ s. new_of next (f s)) (new_of next first) n
new_order next f first none zero = refl
new_order next f first none (suc n) =
    let g = λ (s : ℕ). new_of next (f s) in
    let order : List ℕ = order_to f first n in
    new_extend next first (flat_map f order)
    ∙ ap (extend (new_of next first)) (sym (new_flat next f order) ∙ sym (flat_new next g none order) ∙ ap (flat_map g) (new_order next f first none n))
