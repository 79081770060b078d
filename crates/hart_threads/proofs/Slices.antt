-- A slice whose first element was changed.
use Rattle.std.proofs.lemmas.Bool.{eqb-true, false≢true}
use Rattle.std.proofs.Common.{◌≡◌, ◌==◌, true, false, ℕ, zero, suc, ◌<◌, List, [], ◌∷◌, length, ◌++◌, append-nil, get_or, refl, sym, ap, subst, ◌∙◌, arith}
use lib.ListN.{set}

-- what holds of each element
pub each_set : {X : Type 0} (P : X → Type 0) (xs : List X) (y : X) → P y → ((k : ℕ) (d : X) → k < length xs → P (get_or xs k d))
    → (k : ℕ) (d : X) → k < length (set xs 0 y) → P (get_or (set xs 0 y) k d)
each_set P [] y here all k d low = absurd (let no : k < 0 = low in omega (arith, no))
each_set P (x ∷ xs) y here all zero d low = here
each_set P (x ∷ xs) y here all (suc k) d low = all (suc k) d low

-- the first of some
pub first_of : {X : Type 0} (xs : List X) → 0 < length xs → X
first_of [] some = absurd (let no : 0 < 0 = some in omega (arith, no))
first_of (x ∷ xs) some = x

-- it is the first
pub first_set : {X : Type 0} (xs : List X) (y d : X) → 0 < length xs → get_or (set xs 0 y) 0 d ≡ y
first_set [] y d some = absurd (let no : 0 < 0 = some in omega (arith, no))
first_set (x ∷ xs) y d some = refl

-- whatever stands for none
pub first_is : {X : Type 0} (xs : List X) (d e : X) → 0 < length xs → get_or xs 0 d ≡ get_or xs 0 e
first_is [] d e some = absurd (let no : 0 < 0 = some in omega (arith, no))
first_is (x ∷ xs) d e some = refl

-- whatever stands for none, at any place that there is
pub any_is : {X : Type 0} (xs : List X) (n : ℕ) (d e : X) → n < length xs → get_or xs n d ≡ get_or xs n e
any_is [] n d e low = absurd (let no : n < 0 = low in omega (arith, no))
any_is (x ∷ xs) zero d e low = refl
any_is (x ∷ xs) (suc n) d e low = any_is xs n d e (let more : suc n < suc (length xs) = low in omega (arith, more))

-- an element changed: it is the one at its place, and all others are as they were
pub set_cases : {X : Type 0} (P : X → Type 0) (xs : List X) (n : ℕ) (y : X) (i : ℕ) (d : X) → n < length xs → (i ≡ n → P y) → ((i ≡ n → ⊥) → P (get_or xs i d)) → P (get_or (set xs n y) i d)
set_cases P [] n y i d low here other = absurd (let no : n < 0 = low in omega (arith, no))
set_cases P (x ∷ xs) zero y zero d low here other = here refl
set_cases P (x ∷ xs) zero y (suc i) d low here other = other (λ same. let no : suc i ≡ 0 = same in omega (arith, no))
set_cases P (x ∷ xs) (suc n) y zero d low here other = other (λ same. let no : 0 ≡ suc n = same in omega (arith, no))
set_cases P (x ∷ xs) (suc n) y (suc i) d low here other =
    set_cases P xs n y i d (let more : suc n < suc (length xs) = low in omega (arith, more)) (λ same. here (ap suc same)) (λ apart. other (λ same. apart (let one : suc i ≡ suc n = same in omega (arith, one))))

-- the first element alone, and all others behind it
pub one_and : {X : Type 0} (P : X → X → X → Type 0) (xs ys runs zs : List X) (y : X) → length xs ≡ 1 → runs ≡ xs ++ ys
    → ((d : X) → P y (get_or runs 0 d) y) → ((i : ℕ) (d : X) → i < length ys → P y (get_or ys i d) (get_or zs i d))
    → (i : ℕ) (d : X) → i < length runs → P (get_or (set xs 0 y ++ zs) 0 d) (get_or runs i d) (get_or (set xs 0 y ++ zs) i d)
one_and P [] ys runs zs y one are first rest i d low = absurd (let no : 0 ≡ 1 = one in omega (arith, no))
one_and P (x ∷ x' ∷ xs) ys runs zs y one are first rest i d low = absurd (let no : suc (suc (length xs)) ≡ 1 = one in omega (arith, no))
one_and {X} P (x ∷ []) ys runs zs y one are first rest zero d low = first d
one_and {X} P (x ∷ []) ys runs zs y one are first rest (suc i) d low =
    subst (λ (rs : List X). P y (get_or rs (suc i) d) (get_or zs i d)) (sym are)
    (rest i d (let whole : length runs ≡ suc (length ys) = ap length are in let l : suc i < length runs = low in omega (arith, whole, l)))

-- and what doesn't change
pub one_same : {X Y : Type 0} (f : X → Y) (xs ys runs zs : List X) (y : X) → length xs ≡ 1 → runs ≡ xs ++ ys
    → ((d : X) → f y ≡ f (get_or runs 0 d)) → ((i : ℕ) (d : X) → f (get_or zs i d) ≡ f (get_or ys i d)) → (i : ℕ) (d : X) → f (get_or (set xs 0 y ++ zs) i d) ≡ f (get_or runs i d)
one_same f [] ys runs zs y one are first rest i d = absurd (let no : 0 ≡ 1 = one in omega (arith, no))
one_same f (x ∷ x' ∷ xs) ys runs zs y one are first rest i d = absurd (let no : suc (suc (length xs)) ≡ 1 = one in omega (arith, no))
one_same f (x ∷ []) ys runs zs y one are first rest zero d = first d
one_same {X} f (x ∷ []) ys runs zs y one are first rest (suc i) d = rest i d ∙ ap (λ (rs : List X). f (get_or rs (suc i) d)) (sym are)

-- the first of both
pub front_is : {X : Type 0} (xs ys runs : List X) → length xs ≡ 1 → runs ≡ xs ++ ys → (d e : X) → get_or runs 0 d ≡ get_or xs 0 e
front_is [] ys runs one are d e = absurd (let no : 0 ≡ 1 = one in omega (arith, no))
front_is {X} (x ∷ xs) ys runs one are d e = ap (λ (rs : List X). get_or rs 0 d) are

-- behind the first one all are as they were
pub other_set : {X : Type 0} (xs : List X) (y : X) (i : ℕ) (d : X) → 0 < i → get_or (set xs 0 y) i d ≡ get_or xs i d
other_set [] y i d some = refl
other_set (x ∷ xs) y zero d some = absurd (let no : 0 < 0 = some in omega (arith, no))
other_set (x ∷ xs) y (suc i) d some = refl

-- the first one, and those behind it
pub each_place : {X : Type 0} (P : X → Type 0) (xs : List X) → ((d : X) → P (get_or xs 0 d)) → ((k : ℕ) (d : X) → suc k < length xs → P (get_or xs (suc k) d)) → (i : ℕ) (d : X) → i < length xs → P (get_or xs i d)
each_place P xs first rest zero d low = first d
each_place P xs first rest (suc k) d low = rest k d low

-- those behind the first
pub back_is : {X : Type 0} (xs ys runs : List X) → length xs ≡ 1 → runs ≡ xs ++ ys → (k : ℕ) (d : X) → get_or runs (suc k) d ≡ get_or ys k d
back_is [] ys runs one are k d = absurd (let no : 0 ≡ 1 = one in omega (arith, no))
back_is (x ∷ x' ∷ xs) ys runs one are k d = absurd (let no : suc (suc (length xs)) ≡ 1 = one in omega (arith, no))
back_is {X} (x ∷ []) ys runs one are k d = ap (λ (rs : List X). get_or rs (suc k) d) are

pub back_count : {X : Type 0} (xs ys runs : List X) → length xs ≡ 1 → runs ≡ xs ++ ys → length runs ≡ suc (length ys)
back_count [] ys runs one are = absurd (let no : 0 ≡ 1 = one in omega (arith, no))
back_count (x ∷ x' ∷ xs) ys runs one are = absurd (let no : suc (suc (length xs)) ≡ 1 = one in omega (arith, no))
back_count (x ∷ []) ys runs one are = ap length are

-- what doesn't change where the first does
pub still_set : {X Y : Type 0} (f : X → Y) (xs : List X) (y e : X) → 0 < length xs → f y ≡ f (get_or xs 0 e) → (k : ℕ) (d : X) → f (get_or (set xs 0 y) k d) ≡ f (get_or xs k d)
still_set f [] y e some same k d = absurd (let no : 0 < 0 = some in omega (arith, no))
still_set f (x ∷ xs) y e some same zero d = same
still_set f (x ∷ xs) y e some same (suc k) d = refl

-- none, and some
pub none_at : (n : ℕ) → (n == 0) ≡ true → n ≡ 0
none_at n is = eqb-true n 0 is

pub some_at : (n : ℕ) → (n == 0) ≡ false → 0 < n
some_at zero is = absurd (false≢true (sym is))
some_at (suc n) is = omega arith

-- the first one alone begins as it does
pub first_alone : {X Y : Type 0} (f : X → List Y) (xs : List X) (i : ℕ) (d : X) → i ≡ 0 → (rest : List Y) × (f (get_or xs i d) ≡ f (get_or xs 0 d) ++ rest)
first_alone f xs i d zeroth = ([], ap (λ (n : ℕ). f (get_or xs n d)) zeroth ∙ sym (append-nil (f (get_or xs 0 d))))
