-- How many bytes records take that are all of one size.
use Rattle.std.proofs.Common.{◌≡◌, ◌∙◌, ap, sym, ℕ, ◌+◌, ◌*◌, List, [], ◌∷◌, length, flat_map, count_by, Bool, true, false, if◌then◌else◌, refl, arith, length-append}
use Rattle.std.proofs.lemmas.List.Sums.{sum_by-cons}
use Rattle.std.specs.Int.{w32, w64, to_le_bytes}
use Rattle.asm_write.specs.Values.{words, doublewords}

pub each : {X : Type 0} (f : X → List ℕ) (size : ℕ) → ((x : X) → length (f x) ≡ size) → (xs : List X) → length (flat_map f xs) ≡ size * length xs
each f size sized [] = omega arith
each f size sized (x ∷ xs) = let rest = each f size sized xs in let first = sized x in omega (arith, length-append (f x) (flat_map f xs))

chosen : (b : Bool) (bytes : List ℕ) (size : ℕ) → length bytes ≡ size → length (if b then bytes else []) ≡ size * (if b then 1 else 0)
chosen b bytes size sized =
    let none : 0 ≡ size * 0 = omega arith in
    let one : length bytes ≡ size * 1 = omega arith in
    elim b as (λ v. length (if v then bytes else []) ≡ size * (if v then 1 else 0)) [ true ↦ one | false ↦ none ]

joined : (a b size m n : ℕ) → a ≡ size * m → b ≡ size * n → a + b ≡ size * (m + n)
joined a b size m n e f = omega arith

pub some : {X : Type 0} (test : X → Bool) (f : X → List ℕ) (size : ℕ) → ((x : X) → length (f x) ≡ size) → (xs : List X)
    → length (flat_map (λ x. if test x then f x else []) xs) ≡ size * count_by test xs
some test f size sized [] = omega arith
some {X} test f size sized (x ∷ xs) =
    let rest = some test f size sized xs in
    let first = chosen (test x) (f x) size (sized x) in
    let both = length-append (if test x then f x else []) (flat_map (λ x. if test x then f x else []) xs) in
    let counted = sum_by-cons (λ (x : X). if test x then 1 else 0) x xs in
    both ∙ joined (length (if test x then f x else [])) _ size (if test x then 1 else 0) (count_by test xs) first rest ∙ ap (λ n. size * n) (sym counted)

-- words of 32 and of 64 bits
pub words_length : (numbers : List ℕ) → length (words numbers) ≡ 4 * length numbers
words_length numbers = each (to_le_bytes w32) 4 (λ number. refl) numbers

pub doublewords_length : (numbers : List ℕ) → length (doublewords numbers) ≡ 8 * length numbers
doublewords_length numbers = each (to_le_bytes w64) 8 (λ number. refl) numbers
