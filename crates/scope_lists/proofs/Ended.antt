-- Orders that have everything, so that no level adds to them.
use Rattle.std.proofs.Common.{◌≡◌, inl, inr, ℕ, ◌+◌, ◌-◌, ◌≤◌, Bool, true, false, cond, List, [], ◌∷◌, ◌++◌, drop, map, take, refl, sym, ap, ◌∙◌, eq-eqb, arith}
use Rattle.std.specs.List.{flat_map, list_all}
use Rattle.std.proofs.lemmas.Bool.{and_parts, cases_Bool, eqb-true}
use Rattle.std.specs.Prelude.{◌==◌, ◌&&◌, ◌||◌, Option, Some, None}
use Rattle.ld_base.specs.declared.linking.Loaded.{Loaded}
use Rattle.scope_rule.specs.Breadth.{extend, has, order_to}
use Rattle.scope_rule.specs.Lemmas.Orders.{Covered, covered_stays, extend_append, in_extended, level_step, stays}
use Rattle.scope_rule.specs.Loading.{found_of, object_of, with_serial}
use Rattle.scope_rule.specs.Seen.{Seen}
use Rattle.scope_lists.specs.Links.{found_once}

or_first : (a b : Bool) → a ≡ true → (a || b) ≡ true
or_first true b e = refl
or_first false b e = absurd (cc e)

or_second : (a b : Bool) → b ≡ true → (a || b) ≡ true
or_second true b e = refl
or_second false b e = e

-- ---- an order that lacks nothing of a list

abbrev HasAll : List ℕ → List ℕ → Type 0
HasAll order ys = (y : ℕ) → has ys y ≡ true → (y == 0) ≡ false → has order y ≡ true

covered : (order ys : List ℕ) → HasAll order ys → Covered order ys
covered order [] all = tt
covered order (y ∷ ys) all = (first, covered order ys (λ z there some. all z (or_second (y == z) (has ys z) there) some))
  where
    first : (y == 0 || has order y) ≡ true
    first = elim (cases_Bool (y == 0)) [
      | inl zeroth ↦ or_first (y == 0) (has order y) zeroth
      | inr other ↦ or_second (y == 0) (has order y) (all y (or_first (y == y) (has ys y) (eq-eqb y y refl)) other)
    ]

level_nothing : (f : ℕ → List ℕ) (order zs : List ℕ) → ((z : ℕ) → HasAll order (f z)) → extend order (flat_map f zs) ≡ order
level_nothing f order [] all = refl
level_nothing f order (z ∷ zs) all = extend_append order (f z) (flat_map f zs) ∙ ap (λ (o : List ℕ). extend o (flat_map f zs)) (covered_stays order (f z) (covered order (f z) (all z))) ∙ level_nothing f order zs all

-- so it is the order of all levels
pub has_levels : (f : ℕ → List ℕ) (first order : List ℕ) (n most start : ℕ) → n ≤ most → ((z : ℕ) → HasAll order (f z)) → order ≡ order_to f first n → order ≡ extend first (flat_map f (take start order)) → order ≡ order_to f first most
has_levels f first order n most start few all kept grown =
    let whole : order ≡ extend first (flat_map f order) = sym (level_nothing f order (drop start order) all) ∙ level_step f first start order grown in
    let many : (most - n) + n ≡ most = omega arith in
    stays f first n (most - n) order kept whole ∙ ap (order_to f first) many

-- ---- what any object found

lifted : (own one other : Bool) → (one ≡ true → other ≡ true) → (own || one) ≡ true → (own || other) ≡ true
lifted true one other later e = refl
lifted false one other later e = later e

in_front : (a b : List ℕ) (x : ℕ) → has a x ≡ true → has (a ++ b) x ≡ true
in_front [] b x there = absurd (cc there)
in_front (y ∷ ys) b x there = lifted (y == x) (has ys x) (has (ys ++ b) x) (λ e. in_front ys b x e) there

in_back : (a b : List ℕ) (x : ℕ) → has b x ≡ true → has (a ++ b) x ≡ true
in_back [] b x there = there
in_back (y ∷ ys) b x there = or_second (y == x) (has (ys ++ b) x) (in_back ys b x there)

abbrev found_on : Option Loaded → List ℕ
found_on o = elim o [ Some x ↦ x.found | None ↦ [] ]

among_by : (o : Loaded) (rest : List Loaded) (q x : ℕ) (own : Bool) → (x == 0) ≡ false → (has (found_on (with_serial rest q)) x ≡ true → has (flat_map found_once rest) x ≡ true)
    → has (found_on (cond own (Some o) (with_serial rest q))) x ≡ true → has (found_once o ++ flat_map found_once rest) x ≡ true
among_by o rest q x true some later here = in_front (found_once o) (flat_map found_once rest) x (in_extended [] o.found x some here)
among_by o rest q x false some later behind = in_back (found_once o) (flat_map found_once rest) x (later behind)

among_all : (objects : List Loaded) (q x : ℕ) → has (found_on (with_serial objects q)) x ≡ true → (x == 0) ≡ false → has (flat_map found_once objects) x ≡ true
among_all [] q x there some = absurd (cc there)
among_all (o ∷ rest) q x there some = among_by o rest q x (o.serial == q) some (λ e. among_all rest q x e some) there

joined : (objects : List Loaded) → flat_map (λ (xs : List ℕ). xs) (map found_once objects) ≡ flat_map found_once objects
joined [] = refl
joined (o ∷ rest) = ap (λ (ys : List ℕ). found_once o ++ ys) (joined rest)

pub all_linked : (s : Seen) (all : List ℕ) (found : List (List ℕ)) → all ≡ extend [] (flat_map (λ (xs : List ℕ). xs) found) → found ≡ map found_once s.objects → (q x : ℕ) → has (found_of s q) x ≡ true → (x == 0) ≡ false → has all x ≡ true
all_linked s all found is are q x there some = by (q == 0) there
  where
    by : (linker : Bool) → has (cond linker [] (found_on (object_of s q))) x ≡ true → has all x ≡ true
    by true none = absurd (cc none)
    by false one =
        let flat : has (flat_map (λ (xs : List ℕ). xs) found) x ≡ true = ap (λ (fs : List (List ℕ)). has (flat_map (λ (xs : List ℕ). xs) fs) x) are ∙ ap (λ (ys : List ℕ). has ys x) (joined s.objects) ∙ among_all s.objects q x one some in
        ap (λ (ys : List ℕ). has ys x) is ∙ in_extended [] (flat_map (λ (xs : List ℕ). xs) found) x some flat

-- ---- what each of a list passes

pub each_passes : (p : ℕ → Bool) (xs : List ℕ) (x : ℕ) → list_all p xs ≡ true → has xs x ≡ true → p x ≡ true
each_passes p [] x all there = absurd (cc there)
each_passes p (y ∷ ys) x all there =
    let parts = and_parts (p y) (list_all p ys) all in
    by_place (y == x) refl parts.0 (λ e. each_passes p ys x parts.1 e) there
  where
    by_place : (own : Bool) → (y == x) ≡ own → p y ≡ true → (has ys x ≡ true → p x ≡ true) → (own || has ys x) ≡ true → p x ≡ true
    by_place true same first later e = ap p (sym (eqb-true y x same)) ∙ first
    by_place false other first later e = later e

pub all_pass : (p : ℕ → Bool) (other : Bool) (xs : List ℕ) (x : ℕ) → (other && list_all p xs) ≡ true → has xs x ≡ true → p x ≡ true
all_pass p other xs x all there = each_passes p xs x (and_parts other (list_all p xs) all).1 there
