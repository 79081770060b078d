-- The instruction of a word, read field by field: a function that is the inverse of `word_of`.
use Rattle.std.specs.Prelude.{ℕ, ◌+◌, ◌-◌, ℤ, pos, List, [], ◌∷◌, Bool, true, Option, Some, None, ◌==◌, ◌&&◌, if◌then◌else◌, find}
use Rattle.std.specs.Option.{option_map, option_and_then}
use Rattle.std.specs.Int.{w32, cast_signed}
use Rattle.rv_isa.specs.declared.operation.BranchOp.{BranchOp}
use Rattle.rv_isa.specs.declared.operation.BranchOp.TheVariants.{Beq, Bne, Blt, Bge, Bltu, Bgeu}
use Rattle.rv_isa.specs.declared.operation.LoadOp.{LoadOp}
use Rattle.rv_isa.specs.declared.operation.LoadOp.TheVariants.{Lb, Lh, Lw, Ld, Lbu, Lhu, Lwu}
use Rattle.rv_isa.specs.declared.operation.StoreOp.{StoreOp}
use Rattle.rv_isa.specs.declared.operation.StoreOp.TheVariants.{Sb, Sh, Sw, Sd}
use Rattle.rv_isa.specs.declared.operation.ImmOp.{ImmOp}
use Rattle.rv_isa.specs.declared.operation.ImmOp.TheVariants.{Addi, Slti, Sltiu, Xori, Ori, Andi, Slli, Srli, Srai, Addiw, Slliw, Srliw, Sraiw}
use Rattle.rv_isa.specs.declared.operation.RegOp.{RegOp}
use Rattle.rv_isa.specs.declared.operation.RegOp.TheVariants.{Add, Sll, Slt, Sltu, Xor, Srl, Or, And, Sub, Sra, Mul, Mulh, Mulhsu, Mulhu, Div, Divu, Rem}
use Rattle.rv_isa.specs.declared.operation.RegOp.TheVariants.{Remu, Addw, Sllw, Srlw, Subw, Sraw, Mulw, Divw, Divuw, Remw, Remuw}
use Rattle.rv_isa.specs.declared.operation.AmoOp.{AmoOp}
use Rattle.rv_isa.specs.declared.operation.AmoOp.TheVariants.{Add as AmoAdd, Swap, Xor as AmoXor, Or as AmoOr, And as AmoAnd, Min, Max, Minu, Maxu}
use Rattle.rv_isa.specs.declared.instr.Instr.{Instr}
use Rattle.rv_isa.specs.declared.instr.Instr.TheVariants.{Lui, Auipc, Jal, Jalr, Branch, Load, Store, Imm, Op, Amo, Lr, Sc, Fence, Ecall, Ebreak}
use Rattle.rv_isa.specs.Opcodes.{Upper, Number, Shift, branch_code, load_code, store_code, imm_code, reg_code, amo_code}
use Rattle.rv_isa.specs.Word.{bits, joined, signed}

-- the mnemonics of a form, and the one with a code
abbrev pub branch_ops : List BranchOp
branch_ops = Beq ∷ Bne ∷ Blt ∷ Bge ∷ Bltu ∷ Bgeu ∷ []

abbrev pub branch_of : ℕ → Option BranchOp
branch_of code = find (λ op. branch_code op == code) branch_ops

abbrev pub load_ops : List LoadOp
load_ops = Lb ∷ Lh ∷ Lw ∷ Ld ∷ Lbu ∷ Lhu ∷ Lwu ∷ []

abbrev pub load_of : ℕ → Option LoadOp
load_of code = find (λ op. load_code op == code) load_ops

abbrev pub store_ops : List StoreOp
store_ops = Sb ∷ Sh ∷ Sw ∷ Sd ∷ []

abbrev pub store_of : ℕ → Option StoreOp
store_of code = find (λ op. store_code op == code) store_ops

abbrev pub amo_ops : List AmoOp
amo_ops = AmoAdd ∷ Swap ∷ AmoXor ∷ AmoOr ∷ AmoAnd ∷ Min ∷ Max ∷ Minu ∷ Maxu ∷ []

abbrev pub amo_of : ℕ → Option AmoOp
amo_of code = find (λ op. amo_code op == code) amo_ops

abbrev pub has_reg_code : ℕ → ℕ → ℕ → RegOp → Bool
has_reg_code opcode funct7 funct3 op = let code = reg_code op in (code.0 == opcode) && ((code.1 == funct7) && (code.2 == funct3))

abbrev pub reg_ops : List RegOp
reg_ops = Add ∷ Sll ∷ Slt ∷ Sltu ∷ Xor ∷ Srl ∷ Or ∷ And ∷ Sub ∷ Sra ∷ Mul ∷ Mulh ∷ Mulhsu ∷ Mulhu ∷ Div ∷ Divu ∷ Rem ∷ Remu ∷ Addw ∷ Sllw ∷ Srlw ∷ Subw ∷
    Sraw ∷ Mulw ∷ Divw ∷ Divuw ∷ Remw ∷ Remuw ∷ []

abbrev pub reg_of : ℕ → ℕ → ℕ → Option RegOp
reg_of opcode funct7 funct3 = find (has_reg_code opcode funct7 funct3) reg_ops

-- the immediates of the forms (Unprivileged ISA 20191213, "Immediate Encoding Variants")
unfoldable pub i_number : ℕ → ℤ
i_number word = signed 12 (bits 20 12 word)

unfoldable pub s_number : ℕ → ℤ
s_number word = signed 12 (joined ((5, bits 7 5 word) ∷ (7, bits 25 7 word) ∷ []))

unfoldable pub b_number : ℕ → ℤ
b_number word = signed 13 (joined ((1, 0) ∷ (4, bits 8 4 word) ∷ (6, bits 25 6 word) ∷ (1, bits 7 1 word) ∷ (1, bits 31 1 word) ∷ []))

unfoldable pub u_number : ℕ → ℤ
u_number word = cast_signed w32 (joined ((12, 0) ∷ (20, bits 12 20 word) ∷ []))

unfoldable pub j_number : ℕ → ℤ
j_number word = signed 21 (joined ((1, 0) ∷ (10, bits 21 10 word) ∷ (1, bits 20 1 word) ∷ (8, bits 12 8 word) ∷ (1, bits 31 1 word) ∷ []))

-- whether the upper twelve bits of a word are of this kind, and the immediate that they hold then
abbrev pub is_upper : Upper → ℕ → Bool
is_upper Number word = true
is_upper (Shift width constant) word = bits (20 + width) (12 - width) word == constant

abbrev pub number_of : Upper → ℕ → ℤ
number_of Number word = i_number word
number_of (Shift width constant) word = pos (bits 20 width word)

abbrev pub has_imm_code : ℕ → ℕ → ℕ → ImmOp → Bool
has_imm_code opcode funct3 word op = let code = imm_code op in (code.0 == opcode) && ((code.1 == funct3) && is_upper code.2 word)

abbrev pub imm_ops : List ImmOp
imm_ops = Addi ∷ Slti ∷ Sltiu ∷ Xori ∷ Ori ∷ Andi ∷ Slli ∷ Srli ∷ Srai ∷ Addiw ∷ Slliw ∷ Srliw ∷ Sraiw ∷ []

abbrev pub imm_of : ℕ → ℕ → ℕ → Option ImmOp
imm_of opcode funct3 word = find (has_imm_code opcode funct3 word) imm_ops

-- the size of an atomic access with this funct3
abbrev pub size_of : ℕ → Option ℕ
size_of funct3 = if funct3 == 2 then Some 4 else (if funct3 == 3 then Some 8 else None)

-- the instruction of a word with the opcode of an atomic access, once its size is known
unfoldable pub atomic_of : ℕ → ℕ → Option Instr
atomic_of word size =
    let rd = bits 7 5 word in
    let rs1 = bits 15 5 word in
    let rs2 = bits 20 5 word in
    let aq = bits 26 1 word == 1 in
    let rl = bits 25 1 word == 1 in
    let funct5 = bits 27 5 word in
    if funct5 == 2 then (if rs2 == 0 then Some (Lr size rd rs1 aq rl) else None)
    else (if funct5 == 3 then Some (Sc size rd rs1 rs2 aq rl)
    else option_map (λ op. Amo op size rd rs1 rs2 aq rl) (amo_of funct5))

-- the instruction of a word with the opcode of its form
abbrev pub load_of_word : ℕ → Option Instr
load_of_word word = option_map (λ op. Load op (bits 7 5 word) (bits 15 5 word) (i_number word)) (load_of (bits 12 3 word))

abbrev pub store_of_word : ℕ → Option Instr
store_of_word word = option_map (λ op. Store op (bits 15 5 word) (bits 20 5 word) (s_number word)) (store_of (bits 12 3 word))

abbrev pub branch_of_word : ℕ → Option Instr
branch_of_word word = option_map (λ op. Branch op (bits 15 5 word) (bits 20 5 word) (b_number word)) (branch_of (bits 12 3 word))

abbrev pub imm_of_word : ℕ → ℕ → Option Instr
imm_of_word opcode word =
    option_map (λ op. let code = imm_code op in Imm op (bits 7 5 word) (bits 15 5 word) (number_of code.2 word)) (imm_of opcode (bits 12 3 word) word)

abbrev pub reg_of_word : ℕ → ℕ → Option Instr
reg_of_word opcode word = option_map (λ op. Op op (bits 7 5 word) (bits 15 5 word) (bits 20 5 word)) (reg_of opcode (bits 25 7 word) (bits 12 3 word))

-- the instruction of a word with this opcode
unfoldable pub with_opcode : ℕ → ℕ → Option Instr
with_opcode opcode word =
    let rd = bits 7 5 word in
    let rs1 = bits 15 5 word in
    let funct3 = bits 12 3 word in
    if opcode == 0x03 then load_of_word word
    else (if opcode == 0x0f then (if funct3 == 0 then Some (Fence word) else None)
    else (if opcode == 0x13 then imm_of_word 0x13 word
    else (if opcode == 0x17 then Some (Auipc rd (u_number word))
    else (if opcode == 0x1b then imm_of_word 0x1b word
    else (if opcode == 0x23 then store_of_word word
    else (if opcode == 0x2f then option_and_then (atomic_of word) (size_of funct3)
    else (if opcode == 0x33 then reg_of_word 0x33 word
    else (if opcode == 0x37 then Some (Lui rd (u_number word))
    else (if opcode == 0x3b then reg_of_word 0x3b word
    else (if opcode == 0x63 then branch_of_word word
    else (if opcode == 0x67 then (if funct3 == 0 then Some (Jalr rd rs1 (i_number word)) else None)
    else (if opcode == 0x6f then Some (Jal rd (j_number word))
    else (if opcode == 0x73 then (if word == 0x00000073 then Some Ecall else (if word == 0x00100073 then Some Ebreak else None))
    else None)))))))))))))

-- the instruction of a word
abbrev pub instr_of : ℕ → Option Instr
instr_of word = with_opcode (bits 0 7 word) word
