-- Two lists, one element of each beside one of the other.
use Rattle.std.proofs.Common.{◌≡◌, ◌∙◌, ap, subst, refl, suc, List, [], ◌∷◌, ◌++◌, length, arith}
use Rattle.std.specs.Prelude.{⊤, Some}
use Rattle.std.specs.List.{slice_get}
use Rattle.asm_laws.specs.ElfSpelled.Said.{AreSaidBy}

abbrev pub Paired : {A B : Type 0} → (A → B → Type 0) → List A → List B → Type 0
Paired R [] [] = ⊤
Paired R (x ∷ xs) (y ∷ ys) = R x y × Paired R xs ys
Paired R [] (y ∷ ys) = ⊥
Paired R (x ∷ xs) [] = ⊥

pub paired : {A B : Type 0} (R : A → B → Type 0) (xs : List A) (ys : List B) → AreSaidBy R xs ys → Paired R xs ys
paired R [] [] are = tt
paired R [] (y ∷ ys) are = let long = are.count in absurd (omega (arith, long))
paired R (x ∷ xs) [] are = let long = are.count in absurd (omega (arith, long))
paired {A} {B} R (x ∷ xs) (y ∷ ys) are = (first (are.each 0 y refl), paired R xs ys rest)
  where
    first : (z : A) × (slice_get (x ∷ xs) 0 ≡ Some z) × R z y → R x y
    first (z, is, says) = let same : z ≡ x = cc in subst (λ (w : A). R w y) same says

    rest : AreSaidBy R xs ys
    rest =
        let long = are.count in
        record {
          count = omega (arith, long);
          each = λ i z at. are.each (suc i) z at;
        }

pub split : {A B : Type 0} (R : A → B → Type 0) (xs others : List A) (ys : List B) → Paired R (xs ++ others) ys
    → (one : List B) × (other : List B) × (ys ≡ one ++ other) × Paired R xs one × Paired R others other
split R [] others ys all = ([], ys, refl, tt, all)
split R (x ∷ xs) others [] all = absurd all
split {A} {B} R (x ∷ xs) others (y ∷ ys) (first, all) =
    let (one, other, is, pairs, rest) = split R xs others ys all in
    (y ∷ one, other, ap (λ (zs : List B). y ∷ zs) is, (first, pairs), rest)

pub lengths : {A B : Type 0} (R : A → B → Type 0) (xs : List A) (ys : List B) → Paired R xs ys → length ys ≡ length xs
lengths R [] [] all = refl
lengths R [] (y ∷ ys) all = absurd all
lengths R (x ∷ xs) [] all = absurd all
lengths R (x ∷ xs) (y ∷ ys) (first, all) = ap suc (lengths R xs ys all)

-- parts that are joined
pub joined : {A : Type 0} (whole one other front back : List A) → whole ≡ one ++ other → one ≡ front → other ≡ back → whole ≡ front ++ back
joined {A} whole one other front back is first second = is ∙ ap (λ (xs : List A). xs ++ other) first ∙ ap (λ (xs : List A). front ++ xs) second

pub behind : {A : Type 0} (x y : A) (xs ys : List A) → x ≡ y → xs ≡ ys → x ∷ xs ≡ y ∷ ys
behind {A} x y xs ys first others = ap (λ (z : A). z ∷ xs) first ∙ ap (λ (zs : List A). y ∷ zs) others
