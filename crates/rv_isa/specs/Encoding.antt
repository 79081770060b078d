-- The words of the instructions (Unprivileged ISA 20191213, chapter 24).
use Rattle.std.specs.Prelude.{◌≡◌, ◌≢◌, ◌⊎◌, ℕ, ◌-◌, ◌<◌, ◌^◌, ℤ, pos, neg_ℤ, ◌≤ℤ◌, ◌<ℤ◌, List, [], ◌∷◌, Option, MatchOption, ◌==◌, if◌then◌else◌}
use Rattle.std.specs.Int.{from_bool}
use Rattle.rv_isa.specs.declared.instr.Instr.{Instr}
use Rattle.rv_isa.specs.declared.instr.Instr.TheVariants.{Lui, Auipc, Jal, Jalr, Branch, Load, Store, Imm, Op, Amo, Lr, Sc, Fence, Ecall, Ebreak}
use Rattle.rv_isa.specs.Opcodes.{Upper, Number, Shift, branch_code, load_code, store_code, imm_code, reg_code, amo_code}
use Rattle.rv_isa.specs.Word.{bits, joined, part}

-- the upper twelve bits of an instruction with an immediate
abbrev pub upper_fields : Upper → ℤ → List (ℕ × ℕ)
upper_fields Number number = (12, part number 0 12) ∷ []
upper_fields (Shift width constant) number = (width, part number 0 width) ∷ (12 - width, constant) ∷ []

-- the funct3 of an atomic access of 4 or 8 bytes
abbrev pub size_code : ℕ → ℕ
size_code size = if size == 4 then 2 else 3

-- the fields of an instruction's word, the lowest first, each with its width and its value
abbrev pub fields_of : Instr → List (ℕ × ℕ)
fields_of (Lui rd number) = (7, 0x37) ∷ (5, rd) ∷ (20, part number 12 20) ∷ []
fields_of (Auipc rd number) = (7, 0x17) ∷ (5, rd) ∷ (20, part number 12 20) ∷ []
fields_of (Jal rd offset) = (7, 0x6f) ∷ (5, rd) ∷ (8, part offset 12 8) ∷ (1, part offset 11 1) ∷ (10, part offset 1 10) ∷ (1, part offset 20 1) ∷ []
fields_of (Jalr rd rs1 offset) = (7, 0x67) ∷ (5, rd) ∷ (3, 0) ∷ (5, rs1) ∷ (12, part offset 0 12) ∷ []
fields_of (Branch op rs1 rs2 offset) = (7, 0x63) ∷ (1, part offset 11 1) ∷ (4, part offset 1 4) ∷ (3, branch_code op) ∷ (5, rs1) ∷ (5, rs2) ∷
    (6, part offset 5 6) ∷ (1, part offset 12 1) ∷ []
fields_of (Load op rd rs1 offset) = (7, 0x03) ∷ (5, rd) ∷ (3, load_code op) ∷ (5, rs1) ∷ (12, part offset 0 12) ∷ []
fields_of (Store op rs1 rs2 offset) = (7, 0x23) ∷ (5, part offset 0 5) ∷ (3, store_code op) ∷ (5, rs1) ∷ (5, rs2) ∷ (7, part offset 5 7) ∷ []
fields_of (Imm op rd rs1 number) = let code = imm_code op in (7, code.0) ∷ (5, rd) ∷ (3, code.1) ∷ (5, rs1) ∷ upper_fields code.2 number
fields_of (Op op rd rs1 rs2) = let code = reg_code op in (7, code.0) ∷ (5, rd) ∷ (3, code.2) ∷ (5, rs1) ∷ (5, rs2) ∷ (7, code.1) ∷ []
fields_of (Amo op size rd rs1 rs2 aq rl) = (7, 0x2f) ∷ (5, rd) ∷ (3, size_code size) ∷ (5, rs1) ∷ (5, rs2) ∷ (1, from_bool rl) ∷ (1, from_bool aq) ∷
    (5, amo_code op) ∷ []
fields_of (Lr size rd rs1 aq rl) = (7, 0x2f) ∷ (5, rd) ∷ (3, size_code size) ∷ (5, rs1) ∷ (5, 0) ∷ (1, from_bool rl) ∷ (1, from_bool aq) ∷ (5, 2) ∷ []
fields_of (Sc size rd rs1 rs2 aq rl) = (7, 0x2f) ∷ (5, rd) ∷ (3, size_code size) ∷ (5, rs1) ∷ (5, rs2) ∷ (1, from_bool rl) ∷ (1, from_bool aq) ∷ (5, 3) ∷ []
fields_of (Fence word) = (32, word) ∷ []
fields_of Ecall = (32, 0x00000073) ∷ []
fields_of Ebreak = (32, 0x00100073) ∷ []

-- the word of an instruction
abbrev pub word_of : Instr → ℕ
word_of instr = joined (fields_of instr)

-- a signed number of so many bits
abbrev pub IsWithin : ℕ → ℤ → Type 0
IsWithin width number = (neg_ℤ (pos (2 ^ (width - 1))) ≤ℤ number) × (number <ℤ pos (2 ^ (width - 1)))

-- a signed number of so many bits whose lowest bit is 0, as the distance of a jump
abbrev pub IsDistance : ℕ → ℤ → Type 0
IsDistance width number = IsWithin width number × (part number 0 1 ≡ 0)

-- a signed number of 32 bits whose lowest twelve are 0
abbrev pub IsUpper : ℤ → Type 0
IsUpper number = IsWithin 32 number × (part number 0 12 ≡ 0)

-- an immediate that the upper twelve bits can hold
abbrev pub FitsUpper : Upper → ℤ → Type 0
FitsUpper Number number = IsWithin 12 number
FitsUpper (Shift width constant) number = (pos 0 ≤ℤ number) × (number <ℤ pos (2 ^ width))

-- the size of an atomic access, in bytes
abbrev pub IsAtomicSize : ℕ → Type 0
IsAtomicSize size = (size ≡ 4) ⊎ (size ≡ 8)

-- each immediate, each size and a fence's word is one that the instruction's form can hold
abbrev pub HasForm : Instr → Type 0
HasForm (Lui rd number) = IsUpper number
HasForm (Auipc rd number) = IsUpper number
HasForm (Jal rd offset) = IsDistance 21 offset
HasForm (Jalr rd rs1 offset) = IsWithin 12 offset
HasForm (Branch op rs1 rs2 offset) = IsDistance 13 offset
HasForm (Load op rd rs1 offset) = IsWithin 12 offset
HasForm (Store op rs1 rs2 offset) = IsWithin 12 offset
HasForm (Imm op rd rs1 number) = let code = imm_code op in FitsUpper code.2 number
HasForm (Op op rd rs1 rs2) = Unit {0}
HasForm (Amo op size rd rs1 rs2 aq rl) = IsAtomicSize size
HasForm (Lr size rd rs1 aq rl) = IsAtomicSize size
HasForm (Sc size rd rs1 rs2 aq rl) = IsAtomicSize size
HasForm (Fence word) = (word < 2 ^ 32) × (bits 0 7 word ≡ 0x0f) × (bits 12 3 word ≡ 0)
HasForm Ecall = Unit {0}
HasForm Ebreak = Unit {0}

-- each register is one of x0 to x31
abbrev pub HasRegisters : Instr → Type 0
HasRegisters (Lui rd number) = rd < 32
HasRegisters (Auipc rd number) = rd < 32
HasRegisters (Jal rd offset) = rd < 32
HasRegisters (Jalr rd rs1 offset) = (rd < 32) × (rs1 < 32)
HasRegisters (Branch op rs1 rs2 offset) = (rs1 < 32) × (rs2 < 32)
HasRegisters (Load op rd rs1 offset) = (rd < 32) × (rs1 < 32)
HasRegisters (Store op rs1 rs2 offset) = (rs1 < 32) × (rs2 < 32)
HasRegisters (Imm op rd rs1 number) = (rd < 32) × (rs1 < 32)
HasRegisters (Op op rd rs1 rs2) = (rd < 32) × (rs1 < 32) × (rs2 < 32)
HasRegisters (Amo op size rd rs1 rs2 aq rl) = (rd < 32) × (rs1 < 32) × (rs2 < 32)
HasRegisters (Lr size rd rs1 aq rl) = (rd < 32) × (rs1 < 32)
HasRegisters (Sc size rd rs1 rs2 aq rl) = (rd < 32) × (rs1 < 32) × (rs2 < 32)
HasRegisters (Fence word) = Unit {0}
HasRegisters Ecall = Unit {0}
HasRegisters Ebreak = Unit {0}

-- an instruction of RV64IMA
abbrev pub IsInstr : Instr → Type 0
IsInstr instr = HasForm instr × HasRegisters instr

-- what a word decodes to: the instruction whose word it is, or nothing where it is the word of none
abbrev pub Decodes : ℕ → Option Instr → Type 0
Decodes word decoded = MatchOption decoded ((instr : Instr) → IsInstr instr → word_of instr ≢ word) (λ instr. IsInstr instr × (word_of instr ≡ word))
