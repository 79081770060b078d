-- The number of an operand, or how far it is to its name.
use Rattle.std.specs.Prelude.{ℤ, pos, Option, Some}
use Rattle.asm_layout.specs.Expansions.{Operand, Registers, Immediate, Upper, Word, Label, Code, Entry}
use Rattle.asm_layout.specs.Numbers.{value_of}

abbrev pub value_at : ℤ → Operand → Option ℤ
value_at distance Registers = Some (pos 0)
value_at distance (Immediate number) = value_of number
value_at distance (Upper number) = value_of number
value_at distance (Word number) = value_of number
value_at distance (Label name) = Some distance
value_at distance (Code name) = Some distance
value_at distance (Entry kind name) = Some distance
