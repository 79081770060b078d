-- The numbers in the table of registers are those of registers.
use Rattle.std.proofs.Common.{◌≡◌, ◌<◌, ℕ, List, [], ◌∷◌, true, Some, refl, inl, inr}
use Rattle.std.specs.List.{list_all}
use Rattle.std.specs.Prelude.{nat_lt}
use Rattle.std.specs.Str.{bytes_eq}
use Rattle.std.proofs.lemmas.Bool.{and_parts, cases_Bool, ltb-true}
use Rattle.std.proofs.lemmas.Option.{same_Some}
use Rattle.asm_statement.specs.AsmWords.Table.{named}
use Rattle.asm_statement.specs.AsmWords.Registers.{register_rows}

below : (word : List ℕ) (rows : List (List ℕ × ℕ)) (number : ℕ) → list_all (λ row. nat_lt row.1 32) rows ≡ true → named word rows ≡ Some number → number < 32
below word [] number all is = absurd cc
below word (row ∷ rows) number all is =
    let both = and_parts (nat_lt row.1 32) (list_all (λ other. nat_lt other.1 32) rows) all in
    elim (cases_Bool (bytes_eq word row.0)) [
      | inl here ↦ let same : row.1 ≡ number = same_Some row.1 number (rw here at is) in rw (← same) (ltb-true row.1 32 both.0)
      | inr other ↦ below word rows number both.1 (rw other at is)
    ]

pub is_register : (word : List ℕ) (number : ℕ) → named word register_rows ≡ Some number → number < 32
is_register word number is = below word register_rows number refl is
