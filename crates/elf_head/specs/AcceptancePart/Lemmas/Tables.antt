-- What stands in a table.
use Rattle.std.proofs.Common.{◌≡◌, ◌∙◌, sym, ap, ℕ, zero, suc, ◌+◌, ◌*◌, ◌<◌, List, [], ◌∷◌, ◌++◌, length, refl, arith, inl, inr, length-append}
use Rattle.std.specs.Prelude.{Some}
use Rattle.std.specs.List.{slice_get}
use Rattle.std.proofs.Math.Nat.{eq-or-lt_of_le}
use Rattle.elf_head.specs.AcceptancePart.Lemmas.Leasts.{at_most}
use Rattle.elf_head.specs.AcceptancePart.Table.{table}

pub length-table : {X : Type 0} (at : ℕ → X) (start size n : ℕ) → length (table at start size n) ≡ n
length-table at start size zero = refl
length-table at start size (suc n) = length-append (table at start size n) (at (start + size * n) ∷ []) ∙ ap (λ k. k + 1) (length-table at start size n) ∙ past
  where
    past : n + 1 ≡ suc n
    past = omega arith

get-front : {X : Type 0} (xs ys : List X) (i : ℕ) → i < length xs → slice_get (xs ++ ys) i ≡ slice_get xs i
get-front [] ys i within = absurd (omega arith)
get-front (x ∷ xs) ys zero within = refl
get-front (x ∷ xs) ys (suc i) within = get-front xs ys i (omega arith)

get-push : {X : Type 0} (xs : List X) (y : X) → slice_get (xs ++ y ∷ []) (length xs) ≡ Some y
get-push [] y = refl
get-push (x ∷ xs) y = get-push xs y

-- each entry is what stands at its place
pub get-table : {X : Type 0} (at : ℕ → X) (start size n i : ℕ) → i < n → slice_get (table at start size n) i ≡ Some (at (start + size * i))
get-table at start size zero i within = absurd (omega arith)
get-table at start size (suc n) i within =
    elim (eq-or-lt_of_le (at_most i n within)) [
      | inl same ↦ rw same (ap (slice_get (table at start size (suc n))) (sym (length-table at start size n)) ∙ get-push (table at start size n) (at (start + size * n)))
      | inr below ↦ get-front (table at start size n) (at (start + size * n) ∷ []) i (rw length-table below) ∙ get-table at start size n i below
    ]

-- two lists with the same elements are one
pub same_elements : {X : Type 0} (xs ys : List X) → length xs ≡ length ys → ((i : ℕ) → i < length ys → slice_get xs i ≡ slice_get ys i) → xs ≡ ys
same_elements [] [] same each = refl
same_elements [] (y ∷ ys) same each = absurd (omega arith)
same_elements (x ∷ xs) [] same each = absurd (omega arith)
same_elements (x ∷ xs) (y ∷ ys) same each =
    let head : Some x ≡ Some y = each 0 (omega arith) in
    let rest : xs ≡ ys = same_elements xs ys (omega arith) (λ i within. each (suc i) (omega arith)) in
    cc
