-- Openings that bring nothing to owners that stand apart.
use Rattle.std.proofs.Common.{◌≡◌, ℕ, zero, suc, Bool, true, false, cond, List, [], ◌∷◌, ◌++◌, length, refl, sym, ap, eq-eqb, ◌∙◌}
use Rattle.std.specs.Prelude.{◌==◌, ◌||◌, not, flat_map, Option, Some, None}
use Rattle.std.specs.List.{list_all, list_any}
use Rattle.std.proofs.lemmas.Bool.{and_parts, eqb-true, or_parts, true≢false}
use Rattle.ld_base.specs.declared.linking.Loaded.{Loaded}
use Rattle.scope_rule.specs.Breadth.{breadth, extend, has, order_to}
use Rattle.scope_rule.specs.Lemmas.Orders.{breadth_grows}
use Rattle.scope_rule.specs.Loading.{found_of, object_of, with_serial}
use Rattle.scope_rule.specs.Seen.{Seen}
use Rattle.scope_lists.specs.Brought.{brought_to}
use Rattle.scope_lists.specs.Owners.{leads_elsewhere}

or_second : (a b : Bool) → b ≡ true → (a || b) ≡ true
or_second true b e = refl
or_second false b e = e

not_true : (a : Bool) → not a ≡ true → a ≡ false
not_true true e = absurd (true≢false (sym e))
not_true false e = refl

module _ (owners : List ℕ) where
  -- none of a list is an owner
  abbrev HasNone : List ℕ → Type 0
  HasNone xs = (x : ℕ) → has xs x ≡ true → has owners x ≡ false

  nothing : HasNone []
  nothing x there = absurd (true≢false (sym there))

  one_more : (y : ℕ) (ys : List ℕ) → has owners y ≡ false → HasNone ys → HasNone (y ∷ ys)
  one_more y ys none rest x there = by (y == x) refl there
    where
      by : (own : Bool) → (y == x) ≡ own → (own || has ys x) ≡ true → has owners x ≡ false
      by true same e = ap (has owners) (sym (eqb-true y x same)) ∙ none
      by false other later = rest x later

  first_none : (y : ℕ) (ys : List ℕ) → HasNone (y ∷ ys) → has owners y ≡ false
  first_none y ys none = none y (ap (λ b. b || has ys y) (eq-eqb y y refl))

  rest_none : (y : ℕ) (ys : List ℕ) → HasNone (y ∷ ys) → HasNone ys
  rest_none y ys none x there = none x (or_second (y == x) (has ys x) there)

  both_none : (a b : List ℕ) → HasNone a → HasNone b → HasNone (a ++ b)
  both_none [] b first second = second
  both_none (y ∷ ys) b first second = one_more y (ys ++ b) (first_none y ys first) (both_none ys b (rest_none y ys first) second)

  extended_none : (a xs : List ℕ) → HasNone a → HasNone xs → HasNone (extend a xs)
  extended_none a [] first second = first
  extended_none a (y ∷ ys) first second =
      let more : HasNone (a ++ y ∷ []) = both_none a (y ∷ []) first (one_more y [] (first_none y ys second) nothing) in
      by (y == 0 || has a y) (extended_none a ys first (rest_none y ys second)) (extended_none (a ++ y ∷ []) ys more (rest_none y ys second))
    where
      by : (there : Bool) → HasNone (extend a ys) → HasNone (extend (a ++ y ∷ []) ys) → HasNone (cond there (extend a ys) (extend (a ++ y ∷ []) ys))
      by true old new = old
      by false old new = new

  each_none : (f : ℕ → List ℕ) → ((z : ℕ) → has owners z ≡ false → HasNone (f z)) → (xs : List ℕ) → HasNone xs → HasNone (flat_map f xs)
  each_none f leads [] none = nothing
  each_none f leads (y ∷ ys) none = both_none (f y) (flat_map f ys) (leads y (first_none y ys none)) (each_none f leads ys (rest_none y ys none))

  order_none : (f : ℕ → List ℕ) (first : List ℕ) → ((z : ℕ) → has owners z ≡ false → HasNone (f z)) → HasNone first → (n : ℕ) → HasNone (order_to f first n)
  order_none f first leads none zero = none
  order_none f first leads none (suc n) = extended_none first (flat_map f (order_to f first n)) none (each_none f leads (order_to f first n) (order_none f first leads none n))

  -- ---- what objects lead to that aren't owners

  none_any : (xs : List ℕ) → list_any (λ x. has owners x) xs ≡ false → HasNone xs
  none_any [] none = nothing
  none_any (y ∷ ys) none = (let parts = or_parts (has owners y) (list_any (λ x. has owners x) ys) none in one_more y ys parts.0 (none_any ys parts.1))

  leads_none : (o : Loaded) → leads_elsewhere owners o ≡ true → has owners o.serial ≡ false → HasNone o.found
  leads_none o leads other =
      let any : Bool = list_any (λ x. has owners x) o.found in
      none_any o.found (not_true any (sym (ap (λ b. b || not any) other) ∙ leads))

  abbrev found_on : Option Loaded → List ℕ
  found_on o = elim o [ Some x ↦ x.found | None ↦ [] ]

  found_none : (objects : List Loaded) → list_all (leads_elsewhere owners) objects ≡ true → (z : ℕ) → has owners z ≡ false → HasNone (found_on (with_serial objects z))
  found_none [] all z other = nothing
  found_none (o ∷ rest) all z other =
      let parts = and_parts (leads_elsewhere owners o) (list_all (leads_elsewhere owners) rest) all in
      by (o.serial == z) refl parts.0 (found_none rest parts.1 z other)
    where
      by : (own : Bool) → (o.serial == z) ≡ own → leads_elsewhere owners o ≡ true → HasNone (found_on (with_serial rest z)) → HasNone (found_on (cond own (Some o) (with_serial rest z)))
      by true same leads later = leads_none o leads (ap (has owners) (eqb-true o.serial z same) ∙ other)
      by false differs leads later = later

  leads_nowhere : (s : Seen) → list_all (leads_elsewhere owners) s.objects ≡ true → (z : ℕ) → has owners z ≡ false → HasNone (found_of s z)
  leads_nowhere s all z other = by (z == 0)
    where
      by : (linker : Bool) → HasNone (cond linker [] (found_on (object_of s z)))
      by true = nothing
      by false = found_none s.objects all z other

  -- so an opening whose root isn't one brings nothing to one
  pub brings_nothing : (s : Seen) (root q : ℕ) → list_all (leads_elsewhere owners) s.objects ≡ true
      → has owners root ≡ false → has owners q ≡ true → [] ≡ brought_to (breadth s root) q
  brings_nothing s root q all other own = by (has (breadth s root) q) refl
    where
      none : HasNone (order_to (found_of s) (extend [] (root ∷ [])) (length s.objects))
      none = order_none (found_of s) (extend [] (root ∷ [])) (leads_nowhere s all) (extended_none [] (root ∷ []) nothing (one_more root [] other nothing)) (length s.objects)

      by : (there : Bool) → has (breadth s root) q ≡ there → [] ≡ cond there (breadth s root) []
      by false is = refl
      by true is = absurd (true≢false (sym own ∙ none q (ap (λ (xs : List ℕ). has xs q) (sym (breadth_grows s root)) ∙ is)))
