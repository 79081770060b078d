-- Operands without the blanks around them, one by one.
use Rattle.std.proofs.Common.{◌≡◌, ℕ, ◌==◌, ◌∙◌, List, [], ◌∷◌, length, map, false, Result, Ok, Err, refl, ap, sym}
use Rattle.std.specs.Prelude.{IfOk}
use Rattle.asm_statement.specs.AsmWords.Text.{trimmed, parts_of}
use Rattle.asm_grammar.specs.Operands.{operands_of}

each_trimmed : {B : Type 0} (read : B → List ℕ) (parts : List B) → map (λ part. trimmed (read part)) parts ≡ map trimmed (map read parts)
each_trimmed read [] = refl
each_trimmed read (part ∷ parts) = ap (λ (t : List (List ℕ)). trimmed (read part) ∷ t) (each_trimmed read parts)

some_operands : (text : List ℕ) → (length text == 0) ≡ false → operands_of text ≡ map trimmed (parts_of text)
some_operands text some = rw some refl

-- the parts of a text that isn't empty are its operands, with the blanks around them
pub of_parts : {V B E : Type 0} (result : Result V E) (items : V → List B) (read : B → List ℕ) (text : List ℕ) → (length text == 0) ≡ false
    → IfOk result (λ parts. map read (items parts) ≡ parts_of text) → IfOk result (λ parts. map (λ part. trimmed (read part)) (items parts) ≡ operands_of text)
of_parts (Ok parts) items read text some are =
    each_trimmed read (items parts) ∙ ap (map trimmed) are ∙ sym (some_operands text some)
of_parts (Err fault) items read text some are = tt
