-- Parts of a value, judged.
use Rattle.std.proofs.Common.{◌≡◌, ◌≢◌, ℕ, zero, suc, ◌≤◌, ◌<◌, ◌&&◌, ◌==◌, Bool, true, false, not, nat_le, List, [], ◌∷◌, length, refl, sym, ap, ap₂, subst, ◌∙◌, arith, rules}
use Rattle.std.specs.Bool.{Decides}
use Rattle.std.specs.List.{Contains, list_all}
use Rattle.std.proofs.lemmas.Bool.{true≢false}
use Rattle.cli_words.specs.Values.{AreParts, parts_by}

abbrev Parts : Type 0
Parts = List (List ℕ)

abbrev Each : (List ℕ → Type 0) → Parts → Type 0
Each P parts = (part : List ℕ) → Contains parts part → P part

-- an element, or one of the others
each_first : (P : List ℕ → Type 0) (x : List ℕ) (xs : Parts) → P x → Each P xs → Each P (x ∷ xs)
each_first P x xs here later part (zero, less, is) = subst P is here
each_first P x xs here later part (suc k, less, is) = later part (k, omega (arith, less), is)

at_first : (P : List ℕ → Type 0) (x : List ℕ) (xs : Parts) → Each P (x ∷ xs) → P x
at_first P x xs each = each x (0, omega arith, refl)

at_later : (P : List ℕ → Type 0) (x : List ℕ) (xs : Parts) → Each P (x ∷ xs) → Each P xs
at_later P x xs each part (k, less, is) = each part (suc k, omega (arith, less), is)

split : (a b : Bool) → (a && b) ≡ true → (a ≡ true) × (b ≡ true)
split true b e = (refl, e)
split false b e = absurd (true≢false (sym e))

from_test : (P : List ℕ → Type 0) (p : List ℕ → Bool) → ((x : List ℕ) → p x ≡ true → P x) → (xs : Parts) → list_all p xs ≡ true → Each P xs
from_test P p tells [] all = λ part there. absurd (nowhere part there)
  where
    nowhere : (part : List ℕ) → Contains [] part → ⊥
    nowhere part (k, less, is) = omega (arith, less)
from_test P p tells (x ∷ xs) all =
    let both = split (p x) (list_all p xs) all in
    each_first P x xs (tells x both.0) (from_test P p tells xs both.1)

to_test : (P : List ℕ → Type 0) (p : List ℕ → Bool) → ((x : List ℕ) → P x → p x ≡ true) → (xs : Parts) → Each P xs → list_all p xs ≡ true
to_test P p tells [] each = refl
to_test P p tells (x ∷ xs) each = ap₂ (λ (a b : Bool). a && b) (tells x (at_first P x xs each)) (to_test P p tells xs (at_later P x xs each))

-- ---- the test of a part

-- it isn't empty, and no longer
abbrev pub fits : ℕ → List ℕ → Bool
fits longest part = not (length part == 0) && nat_le (length part) longest

some_tells : (x : List ℕ) → not (length x == 0) ≡ true → x ≢ []
some_tells [] some e = true≢false (sym some)
some_tells (b ∷ x) some e = let n : length (b ∷ x) ≡ 0 = ap (λ (xs : List ℕ). length xs) e in omega (arith, n)

to_some : (x : List ℕ) → x ≢ [] → not (length x == 0) ≡ true
to_some [] some = absurd (some refl)
to_some (b ∷ x) some = search (arith)

within : (longest : ℕ) (x : List ℕ) → nat_le (length x) longest ≡ true → length x ≤ longest
within longest x e = search (rules, e)

to_within : (longest : ℕ) (x : List ℕ) → length x ≤ longest → nat_le (length x) longest ≡ true
to_within longest x e = search (rules, e)

more : (n most : ℕ) → most < n → nat_le n most ≡ true → ⊥
more n most many few = let e : n ≤ most = within most n few in omega (arith, many, e)
  where
    within : (most n : ℕ) → nat_le n most ≡ true → n ≤ most
    within most n e = search (rules, e)

-- ---- parts

abbrev Whole : (byte most longest : ℕ) → List ℕ → Type 0
Whole byte most longest value = (parts : Parts) × AreParts byte most longest value parts

pub are_parts : (byte most longest : ℕ) (value : List ℕ) (count : ℕ) (b : Bool) → count ≡ length (parts_by byte value) → count ≤ most → b ≡ list_all (fits longest) (parts_by byte value)
    → Decides b (Whole byte most longest value)
are_parts byte most longest value count b counted few all = (from, to)
  where
    from : b ≡ true → Whole byte most longest value
    from passed =
        let each : list_all (fits longest) (parts_by byte value) ≡ true = sym all ∙ passed in (
          parts_by byte value,
          record {
            are = refl;
            few = subst (λ (n : ℕ). n ≤ most) counted few;
            some = from_test (λ x. x ≢ []) (fits longest) (λ x fit. some_tells x (split (not (length x == 0)) (nat_le (length x) longest) fit).0) (parts_by byte value) each;
            short = from_test (λ x. length x ≤ longest) (fits longest) (λ x fit. within longest x (split (not (length x == 0)) (nat_le (length x) longest) fit).1) (parts_by byte value) each;
          },
        )

    to : Whole byte most longest value → b ≡ true
    to (parts, are) =
        all
        ∙ to_test (λ x. (x ≢ []) × (length x ≤ longest)) (fits longest) (λ x fit. ap₂ (λ (s t : Bool). s && t) (to_some x fit.0) (to_within longest x fit.1)) (parts_by byte value)
        (λ part there.
        (let own : Contains parts part = subst (λ (ps : Parts). Contains ps part) (sym are.are) there in
        (are.some part own, are.short part own)))

pub too_many : (byte most longest : ℕ) (value : List ℕ) (count : ℕ) → count ≡ length (parts_by byte value) → most < count → Decides (nat_le count most) (Whole byte most longest value)
too_many byte most longest value count counted many = (λ few. absurd (more count most many few), to)
  where
    to : Whole byte most longest value → nat_le count most ≡ true
    to (parts, are) = let few : count ≤ most = subst (λ (n : ℕ). n ≤ most) (ap (λ (ps : Parts). length ps) are.are ∙ sym counted) are.few in absurd (omega (arith, few, many))
