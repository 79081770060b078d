-- What an instruction needs, as it is lent.
use Rattle.asm_layout.specs.Expansions.{Operand, Registers, Immediate, Upper, Word, Label, Code, Entry}
use Rattle.asm_uses.specs.declared.operand.Operand.{Operand as Lent}
use Rattle.asm_uses.specs.declared.operand.Operand.TheVariants as lent

abbrev pub operand_as : Lent → Operand
operand_as lent.Registers = Registers
operand_as (lent.Immediate number) = Immediate number
operand_as (lent.Upper number) = Upper number
operand_as (lent.Word number) = Word number
operand_as (lent.Label name) = Label name.now
operand_as (lent.Code name) = Code name.now
operand_as (lent.Entry kind name) = Entry kind name.now
