-- A global list that has whatever else is searched.
use Rattle.std.proofs.Common.{◌≡◌, ℕ, zero, suc, Bool, true, false, cond, List, [], ◌∷◌, ◌++◌, length, refl, sym, ap, ◌∙◌}
use Rattle.std.specs.Prelude.{◌==◌, ◌||◌, ◌&&◌, flat_map}
use Rattle.std.specs.List.{list_all}
use Rattle.std.proofs.lemmas.Bool.{and_parts, eqb-true, or_parts}
use Rattle.scope_rule.specs.Breadth.{breadth, extend, has, order_to}
use Rattle.scope_rule.specs.Lemmas.Orders.{breadth_grows}
use Rattle.scope_rule.specs.Loading.{found_of}
use Rattle.scope_rule.specs.Seen.{Seen}
use Rattle.scope_rule.specs.declared.namespace.OpenRec.{OpenRec}
use Rattle.scope_lists.specs.Brought.{brought_in, brought_to}
use Rattle.scope_lists.specs.Covering.{IsCovered}
use Rattle.scope_lists.specs.Links.{AreLinks}
use Rattle.scope_lists.specs.declared.links.Links.{Links}
use Rattle.scope_lists.proofs.Ended.{each_passes}

module _ (global : List ℕ) where
  -- each of a list is on the global list; the same, the linker's own object left out
  abbrev Inside : List ℕ → Type 0
  Inside xs = (x : ℕ) → has xs x ≡ true → has global x ≡ true

  abbrev Mostly : List ℕ → Type 0
  Mostly xs = (x : ℕ) → has xs x ≡ true → (x == 0) ≡ false → has global x ≡ true

  nothing : Inside []
  nothing x there = absurd (cc there)

  or_later : (p q : Bool) → q ≡ true → (p || q) ≡ true
  or_later true q e = refl
  or_later false q e = e

  either_list : (P : Type 0) (a b : List ℕ) (x : ℕ) → (has a x ≡ true → P) → (has b x ≡ true → P) → has (a ++ b) x ≡ true → P
  either_list P [] b x first second there = second there
  either_list P (y ∷ ys) b x first second there = by (y == x) refl (either_list P ys b x (λ e. first (or_later (y == x) (has ys x) e)) second) there
    where
      by : (own : Bool) → (y == x) ≡ own → (has (ys ++ b) x ≡ true → P) → (own || has (ys ++ b) x) ≡ true → P
      by true same later here = first (ap (λ p. p || has ys x) same)
      by false other later here = later here

  both_inside : (a b : List ℕ) → Inside a → Inside b → Inside (a ++ b)
  both_inside a b first second x there = either_list (has global x ≡ true) a b x (first x) (second x) there

  both_mostly : (a b : List ℕ) → Mostly a → Mostly b → Mostly (a ++ b)
  both_mostly a b first second x there some = either_list (has global x ≡ true) a b x (λ e. first x e some) (λ e. second x e some) there

  first_mostly : (y : ℕ) (ys : List ℕ) → Mostly (y ∷ ys) → (y == 0) ≡ false → Inside (y ∷ [])
  first_mostly y ys mostly some x there = by (y == x) refl there
    where
      by : (own : Bool) → (y == x) ≡ own → (own || false) ≡ true → has global x ≡ true
      by true same here = mostly x (ap (λ b. b || has ys x) same) (ap (λ n. n == 0) (sym (eqb-true y x same)) ∙ some)
      by false other here = absurd (cc here)

  rest_mostly : (y : ℕ) (ys : List ℕ) → Mostly (y ∷ ys) → Mostly ys
  rest_mostly y ys mostly x there some = mostly x (or_later (y == x) (has ys x) there) some

  extended_inside : (a xs : List ℕ) → Inside a → Mostly xs → Inside (extend a xs)
  extended_inside a [] first second = first
  extended_inside a (y ∷ ys) first second = by (y == 0 || has a y) refl (extended_inside a ys first (rest_mostly y ys second)) (λ more. extended_inside (a ++ y ∷ []) ys more (rest_mostly y ys second))
    where
      by : (skipped : Bool) → (y == 0 || has a y) ≡ skipped → Inside (extend a ys) → (Inside (a ++ y ∷ []) → Inside (extend (a ++ y ∷ []) ys)) → Inside (cond skipped (extend a ys) (extend (a ++ y ∷ []) ys))
      by true is old new = old
      by false is old new = new (both_inside a (y ∷ []) first (first_mostly y ys second (or_parts (y == 0) (has a y) is).0))

  each_mostly : (f : ℕ → List ℕ) → ((z : ℕ) → Mostly (f z)) → (zs : List ℕ) → Mostly (flat_map f zs)
  each_mostly f leads [] x there some = absurd (cc there)
  each_mostly f leads (z ∷ zs) x there some = both_mostly (f z) (flat_map f zs) (leads z) (each_mostly f leads zs) x there some

  order_inside : (f : ℕ → List ℕ) (first : List ℕ) → ((z : ℕ) → Mostly (f z)) → Inside first → (n : ℕ) → Inside (order_to f first n)
  order_inside f first leads inside zero = inside
  order_inside f first leads inside (suc n) = extended_inside first (flat_map f (order_to f first n)) inside (each_mostly f leads (order_to f first n))

  module _ (s : Seen) (leads : (z : ℕ) → Mostly (found_of s z)) where
    -- what leads to no other is inside where its root is
    breadth_inside : (root : ℕ) → has global root ≡ true → Inside (breadth s root)
    breadth_inside root there x inside =
        order_inside (found_of s) (extend [] (root ∷ [])) leads (extended_inside [] (root ∷ []) nothing (λ y here some. by y (root == y) refl here)) (length s.objects) x (ap (λ (xs : List ℕ). has xs x) (sym (breadth_grows s root)) ∙ inside)
      where
        by : (y : ℕ) (own : Bool) → (root == y) ≡ own → (own || false) ≡ true → has global y ≡ true
        by y true same here = ap (has global) (sym (eqb-true root y same)) ∙ there
        by y false other here = absurd (cc here)

    one_brought : (root q : ℕ) → has global root ≡ true → Inside (brought_to (breadth s root) q)
    one_brought root q there = by (has (breadth s root) q)
      where
        by : (brings : Bool) → Inside (cond brings (breadth s root) [])
        by true = breadth_inside root there
        by false = nothing

    all_brought : (opens : List OpenRec) (q : ℕ) → list_all (λ r. has global r.root) opens ≡ true → Inside (flat_map (λ r. brought_to (breadth s r.root) q) opens)
    all_brought [] q all = nothing
    all_brought (r ∷ rest) q all =
        let parts = and_parts (has global r.root) (list_all (λ x. has global x.root) rest) all in
        both_inside (brought_to (breadth s r.root) q) (flat_map (λ x. brought_to (breadth s x.root) q) rest) (one_brought r.root q parts.0) (all_brought rest q parts.1)

all_roots : (keys global : List ℕ) → ((x : ℕ) → has keys x ≡ true → has global x ≡ true) → (opens : List OpenRec) → list_all (λ r. has keys r.root) opens ≡ true → list_all (λ r. has global r.root) opens ≡ true
all_roots keys global inside [] all = refl
all_roots keys global inside (r ∷ rest) all =
    let parts = and_parts (has keys r.root) (list_all (λ x. has keys x.root) rest) all in
    ap (λ b. b && list_all (λ x. has global x.root) rest) (inside r.root parts.0) ∙ all_roots keys global inside rest parts.1

pub covers : (s : Seen) (links : Links) (keys : List ℕ) → AreLinks s links → keys ≡ extend [] s.global
    → (list_all (λ x. has keys x) links.all && list_all (λ r. has keys r.root) s.opens) ≡ true → (serial : ℕ) → has keys serial ≡ true → IsCovered s serial
covers s links keys are is all serial there x inside =
    let parts = and_parts (list_all (λ y. has keys y) links.all) (list_all (λ r. has keys r.root) s.opens) all in
    let listed : (y : ℕ) → has keys y ≡ true → has s.global y ≡ true = λ y here. extended_inside s.global [] s.global (nothing s.global) (λ z own some. own) y (ap (λ (xs : List ℕ). has xs y) (sym is) ∙ here) in
    let leads : (z : ℕ) → Mostly s.global (found_of s z) = λ z y found some. listed y (each_passes (λ q. has keys q) links.all y parts.0 (are.all z y found some)) in
    both_inside s.global (brought_in s serial) (breadth s serial) (all_brought s.global s leads s.opens serial (all_roots keys s.global listed s.opens parts.1)) (breadth_inside s.global s leads serial (listed serial there)) x inside

pub covers_none : (s : Seen) (keys : List ℕ) → keys ≡ [] → (serial : ℕ) → has keys serial ≡ true → IsCovered s serial
covers_none s keys none serial there = absurd (let no : false ≡ true = ap (λ (xs : List ℕ). has xs serial) (sym none) ∙ there in cc no)
