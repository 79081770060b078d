-- The words of instructions.
use Rattle.std.specs.Prelude.{◌≤ℤ◌, ◌^◌, ◌-◌, ℕ, ℤ, pos, neg_ℤ, if◌then◌else◌, List, [], ◌∷◌, map, Option, Some, None}
use Rattle.std.specs.List.{list_all}
use Rattle.rv_isa.specs.declared.instr.Instr.{Instr}
use Rattle.rv_isa.specs.Encoding.{word_of}
use Rattle.asm_layout.specs.Expansions.{Operand, Registers, Immediate, Upper, Word, Label, Code, Entry}
use Rattle.asm_layout.specs.Faults.{has_form}
use Rattle.asm_code.specs.declared.encoding.LineWords.{LineWords}
use Rattle.asm_code.specs.declared.encoding.LineWords.TheVariants as the

-- the words of a line as a list
abbrev pub word_list : LineWords → List ℕ
word_list the.Nothing = []
word_list (the.One word) = word ∷ []
word_list (the.Two first second) = first ∷ second ∷ []

-- the words of instructions that each have their form
abbrev pub encoded : List Instr → Option (List ℕ)
encoded instrs = if list_all has_form instrs then Some (map word_of instrs) else None

-- a number that is one that may be written as the operand
abbrev pub MayBe : Operand → ℤ → Type 0
MayBe Registers value = Unit {0}
MayBe (Immediate number) value = Unit {0}
MayBe (Upper number) value = (pos 0 ≤ℤ value) × (value ≤ℤ pos (2 ^ 20 - 1))
MayBe (Word number) value = (neg_ℤ (pos (2 ^ 31)) ≤ℤ value) × (value ≤ℤ pos (2 ^ 31 - 1))
MayBe (Label name) value = Unit {0}
MayBe (Code name) value = Unit {0}
MayBe (Entry kind name) value = Unit {0}

-- a number that is far from the ends of 128 bits
abbrev pub IsModest : ℤ → Type 0
IsModest number = (neg_ℤ (pos (2 ^ 100)) ≤ℤ number) × (number ≤ℤ pos (2 ^ 100))
