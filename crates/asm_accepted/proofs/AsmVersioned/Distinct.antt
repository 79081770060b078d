-- Where each thing stands once, a thing is found at its own place.
use Rattle.std.proofs.Common.{◌≡◌, ◌∙◌, ap, sym, subst, refl, suc, ◌+◌, ◌<◌, ◌||◌, not, Bool, true, false, if◌then◌else◌, List, [], ◌∷◌, ◌++◌, length, arith, append_assoc, append-nil, length-append, inl, inr, ◌⊎◌}
use Rattle.std.specs.Prelude.{Some, None, nat_lt, position}
use Rattle.std.specs.List.{list_any, position_or_len}
use Rattle.std.proofs.lemmas.Bool.{lt-ltb}
use Rattle.asm_layout.specs.Uses.{distinct, distinct_after}

-- the parts of two lists that are one
heads : {A : Type 0} (x y : A) (xs ys : List A) → x ∷ xs ≡ y ∷ ys → x ≡ y
heads x y xs ys is = cc

tails : {A : Type 0} (x y : A) (xs ys : List A) → x ∷ xs ≡ y ∷ ys → xs ≡ ys
tails x y xs ys is = cc

-- a thing that is new, and those behind it
fresh : {A : Type 0} (same : A → A → Bool) (seen rest : List A) (x : A) (front : List A) (y : A) (back : List A)
    → ((front : List A) → rest ≡ front ++ y ∷ back → list_any (same y) ((seen ++ x ∷ []) ++ front) ≡ false)
    → list_any (same x) seen ≡ false → x ∷ rest ≡ front ++ y ∷ back → list_any (same y) (seen ++ front) ≡ false
fresh same seen rest x [] y back later none whole =
    let first : x ≡ y = heads x y rest back whole in
    ap (list_any (same y)) (append-nil seen) ∙ subst (λ z. list_any (same z) seen ≡ false) first none
fresh {A} same seen rest x (f ∷ front) y back later none whole =
    let first : x ≡ f = heads x f rest (front ++ y ∷ back) whole in
    let others = later front (tails x f rest (front ++ y ∷ back) whole) in
    ap (λ (z : A). list_any (same y) (seen ++ z ∷ front)) (sym first) ∙ ap (list_any (same y)) (sym (append_assoc seen (x ∷ []) front)) ∙ others

-- none of those before a thing is like it
new_after : {A : Type 0} (same : A → A → Bool) (seen xs front : List A) (y : A) (back : List A) → distinct_after same seen xs ≡ front ++ y ∷ back
    → list_any (same y) (seen ++ front) ≡ false
new_after same seen [] [] y back is = absurd cc
new_after same seen [] (f ∷ front) y back is = absurd cc
new_after {A} same seen (x ∷ xs) front y back is =
    let P : Bool → Type 0 = λ there. list_any (same x) seen ≡ there
    → (if there then distinct_after same seen xs else x ∷ distinct_after same (seen ++ x ∷ []) xs) ≡ front ++ y ∷ back → list_any (same y) (seen ++ front) ≡ false in
    let cases : (there : Bool) → P there = λ there. elim there as P [
      | true ↦ λ _ whole. new_after same seen xs front y back whole
      | false ↦ λ none whole. fresh same seen (distinct_after same (seen ++ x ∷ []) xs) x front y back (λ front whole. new_after same (seen ++ x ∷ []) xs front y back whole) none whole
    ] in
    cases (list_any (same x) seen) refl is

pub new_in : {A : Type 0} (same : A → A → Bool) (xs front : List A) (y : A) (back : List A) → distinct same xs ≡ front ++ y ∷ back → list_any (same y) front ≡ false
unfolding distinct
new_in same xs front y back is = new_after same [] xs front y back is

found_at : {A : Type 0} (p : A → Bool) (front : List A) (y : A) (back : List A) → list_any p front ≡ false → p y ≡ true → position_or_len p (front ++ y ∷ back) ≡ length front
found_at p [] y back none is = ap (λ b. if not b then 1 + position_or_len p back else 0) is
found_at p (x ∷ front) y back none is =
    let (other, rest) = neither (p x) (list_any p front) none in
    let more = found_at p front y back rest is in
    let one : 1 + position_or_len p (front ++ y ∷ back) ≡ suc (length front) = omega (arith, more) in
    ap (λ b. if not b then 1 + position_or_len p (front ++ y ∷ back) else 0) other ∙ one
  where
    neither : (a b : Bool) → (a || b) ≡ false → (a ≡ false) × (b ≡ false)
    neither false b is = (refl, is)
    neither true b is = absurd cc

pub own_place : {A : Type 0} (p : A → Bool) (front : List A) (y : A) (back : List A) → list_any p front ≡ false → p y ≡ true → position p (front ++ y ∷ back) ≡ Some (length front)
own_place p front y back none is =
    let at = found_at p front y back none is in
    let inside : length front < length (front ++ y ∷ back) = omega (arith, length-append front (y ∷ back)) in
    let test : nat_lt (length front) (length (front ++ y ∷ back)) ≡ true = lt-ltb (length front) (length (front ++ y ∷ back)) inside in
    ap (λ k. if nat_lt k (length (front ++ y ∷ back)) then Some k else None) at ∙ ap (λ b. if b then Some (length front) else None) test

-- a list is empty or has a last element
abbrev pub HasLast : {A : Type 0} → List A → Type 0
HasLast {A} xs = (xs ≡ []) ⊎ ((front : List A) × (last : A) × (xs ≡ front ++ last ∷ []))

pub last_one : {A : Type 0} (xs : List A) → HasLast xs
last_one [] = inl refl
last_one {A} (x ∷ xs) = elim (last_one xs) as (λ _. HasLast (x ∷ xs)) [
  | inl none ↦ inr ([], x, ap (λ (ys : List A). x ∷ ys) none)
  | inr some ↦ inr (x ∷ some.0, some.1, ap (λ (ys : List A). x ∷ ys) some.2)
]
