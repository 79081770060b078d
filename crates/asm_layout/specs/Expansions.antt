-- What each instruction stands for, a line a variant (Unprivileged ISA 20191213, chapters 24 and 25; RISC-V Assembly Programmer's Manual,
-- "Pseudoinstructions").
use Rattle.std.specs.Prelude.{ℕ, ◌+◌, ◌*◌, ◌^◌, ℤ, pos, ◌+ℤ◌, ◌-ℤ◌, ◌*ℤ◌, Bool, true, false, List, [], ◌∷◌}
use Rattle.std.specs.Int.{w32, cast_unsigned, cast_signed, from_bool, int_rem_euclid}
use Rattle.rv_isa.specs.declared.instr.Instr.{Instr}
use Rattle.rv_isa.specs.declared.instr.Instr.TheVariants as instrs
use Rattle.rv_isa.specs.declared.operation.BranchOp.{BranchOp}
use Rattle.rv_isa.specs.declared.operation.BranchOp.TheVariants as branches
use Rattle.rv_isa.specs.declared.operation.LoadOp.TheVariants as loads
use Rattle.rv_isa.specs.declared.operation.ImmOp.TheVariants as imms
use Rattle.asm_statement.specs.declared.number.Number.{Number}
use Rattle.asm_statement.specs.declared.instruction.Width.{Width}
use Rattle.asm_statement.specs.declared.instruction.Width.TheVariants as widths
use Rattle.asm_statement.specs.declared.instruction.FenceSet.{FenceSet}
use Rattle.asm_statement.specs.declared.instruction.Fence.{Fence}
use Rattle.asm_statement.specs.declared.instruction.PlainOp.{PlainOp}
use Rattle.asm_statement.specs.declared.instruction.PlainOp.TheVariants as plains
use Rattle.asm_statement.specs.declared.instruction.ZeroBranchOp.{ZeroBranchOp}
use Rattle.asm_statement.specs.declared.instruction.ZeroBranchOp.TheVariants as zeros
use Rattle.asm_statement.specs.declared.instruction.AddressOp.{AddressOp}
use Rattle.asm_statement.specs.declared.instruction.AddressOp.TheVariants as addresses
use Rattle.asm_statement.specs.declared.instruction.UpperOp.{UpperOp}
use Rattle.asm_statement.specs.declared.instruction.UpperOp.TheVariants as uppers
use Rattle.asm_statement.specs.declared.instruction.Instruction.{Instruction}
use Rattle.asm_statement.specs.declared.instruction.Instruction.TheVariants as instructions
use Rattle.asm_layout.specs.declared.uses.GotKind.{GotKind}
use Rattle.asm_layout.specs.declared.uses.GotKind.TheVariants as gots
use Rattle.asm_layout.specs.Numbers.{fits_addi}

-- what has to be known of an instruction before it has its words
pub data Operand : Type 0 where
  -- nothing
  Registers : Operand
  -- a number that the instruction's form holds
  Immediate : Number → Operand
  -- a number of twenty bits without a sign
  Upper : Number → Operand
  -- a number of 32 bits with a sign
  Word : Number → Operand
  -- how far it is to a label
  Label : List ℕ → Operand
  -- how far it is to the code of a name, which another object may have
  Code : List ℕ → Operand
  -- how far it is to what the global offset table has of a name
  Entry : GotKind → List ℕ → Operand

-- the operand, and the instructions of the machine for its number or its distance
pub record Expansion : Type 0 where
  pub operand : Operand
  pub instrs : ℤ → List Instr

-- the two parts of a number: what twenty upper bits give, and a signed number of twelve bits
abbrev pub upper : ℤ → ℤ
upper number = (number +ℤ pos 0x800) -ℤ int_rem_euclid (number +ℤ pos 0x800) (pos 0x1000)

abbrev pub lower : ℤ → ℤ
lower number = number -ℤ upper number

-- a number as 32 bits hold it
abbrev pub wrapped : ℤ → ℤ
wrapped number = cast_signed w32 (cast_unsigned w32 number)

-- the forms of a line: one instruction that needs nothing; one; one for the upper part of a distance and one for its lower part
abbrev pub fixed : Instr → Expansion
fixed instr = record { operand = Registers; instrs = λ _. instr ∷ [] }

abbrev pub one : Operand → (ℤ → Instr) → Expansion
one operand instr = record { operand = operand; instrs = λ value. instr value ∷ [] }

abbrev pub two : Operand → ℕ → (ℤ → Instr) → Expansion
two operand rd last = record { operand = operand; instrs = λ distance. instrs.Auipc rd (upper distance) ∷ last (lower distance) ∷ [] }

-- parts of lines

abbrev pub size_of_access : Width → ℕ
size_of_access widths.Word = 4
size_of_access widths.Doubleword = 8

-- the word of a fence: its opcode, what waits, what is waited for
abbrev pub set_bits : FenceSet → ℕ
set_bits set = 8 * from_bool set.input + 4 * from_bool set.output + 2 * from_bool set.reads + from_bool set.writes

abbrev pub fence_word : Fence → ℕ
fence_word fence = 0x0f + 2 ^ 20 * set_bits fence.after + 2 ^ 24 * set_bits fence.before

abbrev pub plain_instr : PlainOp → Instr
plain_instr plains.Ecall = instrs.Ecall
plain_instr plains.Ebreak = instrs.Ebreak
plain_instr plains.Nop = instrs.Imm imms.Addi 0 0 (pos 0)
plain_instr plains.Ret = instrs.Jalr 0 1 (pos 0)

abbrev pub zero_branch : ZeroBranchOp → BranchOp
zero_branch zeros.Beqz = branches.Beq
zero_branch zeros.Bnez = branches.Bne

-- `lui` and `auipc` give the number's place among the upper bits
abbrev pub upper_instr : UpperOp → ℕ → ℤ → Instr
upper_instr uppers.Lui rd number = instrs.Lui rd (wrapped (number *ℤ pos 0x1000))
upper_instr uppers.Auipc rd number = instrs.Auipc rd (wrapped (number *ℤ pos 0x1000))

-- `li` of a number that one `addi` holds, or not
abbrev pub li_instrs : Bool → ℕ → ℤ → List Instr
li_instrs true rd number = instrs.Imm imms.Addi rd 0 number ∷ []
li_instrs false rd number = instrs.Lui rd (wrapped (upper number)) ∷ instrs.Imm imms.Addiw rd rd (lower number) ∷ []

abbrev pub address_expansion : AddressOp → ℕ → List ℕ → Expansion
address_expansion addresses.La rd name = two (Label name) rd (instrs.Imm imms.Addi rd rd)
address_expansion addresses.Lga rd name = two (Entry gots.Address name) rd (instrs.Load loads.Ld rd rd)
address_expansion addresses.LaTlsGd rd name = two (Entry gots.Pair name) rd (instrs.Imm imms.Addi rd rd)
address_expansion addresses.LaTlsIe rd name = two (Entry gots.Offset name) rd (instrs.Load loads.Ld rd rd)

-- the table: a call keeps the address behind it in ra, a tail call goes by way of t1
unfoldable pub expansion : Instruction → Expansion
expansion (instructions.Plain op) = fixed (plain_instr op)
expansion (instructions.Jump name) = one (Label name) (instrs.Jal 0)
expansion (instructions.Call name) = two (Code name) 1 (instrs.Jalr 1 1)
expansion (instructions.Tail name) = two (Code name) 6 (instrs.Jalr 0 6)
expansion (instructions.Jal rd name) = one (Label name) (instrs.Jal rd)
expansion (instructions.BranchZero op rs name) = one (Label name) (instrs.Branch (zero_branch op) rs 0)
expansion (instructions.Branch op rs1 rs2 name) = one (Label name) (instrs.Branch op rs1 rs2)
expansion (instructions.Address op rd name) = address_expansion op rd name
expansion (instructions.Upper op rd number) = one (Upper number) (upper_instr op rd)
expansion (instructions.Li rd number) = record { operand = Word number; instrs = li_instrs (fits_addi number) rd }
expansion (instructions.Load op rd rs1 number) = one (Immediate number) (instrs.Load op rd rs1)
expansion (instructions.Store op rs1 rs2 number) = one (Immediate number) (instrs.Store op rs1 rs2)
expansion (instructions.Imm op rd rs1 number) = one (Immediate number) (instrs.Imm op rd rs1)
expansion (instructions.Op op rd rs1 rs2) = fixed (instrs.Op op rd rs1 rs2)
expansion (instructions.Amo op access rd rs1 rs2) = fixed (instrs.Amo op (size_of_access access.width) rd rs1 rs2 access.aq access.rl)
expansion (instructions.Lr access rd rs1) = fixed (instrs.Lr (size_of_access access.width) rd rs1 access.aq access.rl)
expansion (instructions.Sc access rd rs1 rs2) = fixed (instrs.Sc (size_of_access access.width) rd rs1 rs2 access.aq access.rl)
expansion (instructions.Jalr rd rs1 number) = one (Immediate number) (instrs.Jalr rd rs1)
expansion (instructions.Mv rd rs) = fixed (instrs.Imm imms.Addi rd rs (pos 0))
expansion (instructions.Jr rs) = fixed (instrs.Jalr 0 rs (pos 0))
expansion (instructions.Fence fence) = fixed (instrs.Fence (fence_word fence))

abbrev pub operand_of : Instruction → Operand
operand_of instruction = (expansion instruction).operand
