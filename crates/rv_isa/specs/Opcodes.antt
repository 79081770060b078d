-- The codes of the mnemonics (Unprivileged ISA 20191213, chapter 24, "RV32/64G Instruction Set
-- Listings").
use Rattle.std.specs.Prelude.{ℕ}
use Rattle.rv_isa.specs.declared.operation.BranchOp.{BranchOp}
use Rattle.rv_isa.specs.declared.operation.BranchOp.TheVariants.{Beq, Bne, Blt, Bge, Bltu, Bgeu}
use Rattle.rv_isa.specs.declared.operation.LoadOp.{LoadOp}
use Rattle.rv_isa.specs.declared.operation.LoadOp.TheVariants.{Lb, Lh, Lw, Ld, Lbu, Lhu, Lwu}
use Rattle.rv_isa.specs.declared.operation.StoreOp.{StoreOp}
use Rattle.rv_isa.specs.declared.operation.StoreOp.TheVariants.{Sb, Sh, Sw, Sd}
use Rattle.rv_isa.specs.declared.operation.ImmOp.{ImmOp}
use Rattle.rv_isa.specs.declared.operation.ImmOp.TheVariants.{Addi, Slti, Sltiu, Xori, Ori, Andi, Slli, Srli, Srai, Addiw, Slliw, Srliw, Sraiw}
use Rattle.rv_isa.specs.declared.operation.RegOp.{RegOp}
use Rattle.rv_isa.specs.declared.operation.RegOp.TheVariants.{Add, Sll, Slt, Sltu, Xor, Srl, Or, And, Sub, Sra, Mul, Mulh, Mulhsu, Mulhu, Div, Divu, Rem}
use Rattle.rv_isa.specs.declared.operation.RegOp.TheVariants.{Remu, Addw, Sllw, Srlw, Subw, Sraw, Mulw, Divw, Divuw, Remw, Remuw}
use Rattle.rv_isa.specs.declared.operation.AmoOp.{AmoOp}
use Rattle.rv_isa.specs.declared.operation.AmoOp.TheVariants.{Add as AmoAdd, Swap, Xor as AmoXor, Or as AmoOr, And as AmoAnd, Min, Max, Minu, Maxu}

-- the funct3 of a branch (RV32I)
abbrev pub branch_code : BranchOp → ℕ
branch_code Beq = 0
branch_code Bne = 1
branch_code Blt = 4
branch_code Bge = 5
branch_code Bltu = 6
branch_code Bgeu = 7

-- the funct3 of a load (RV32I, RV64I)
abbrev pub load_code : LoadOp → ℕ
load_code Lb = 0
load_code Lh = 1
load_code Lw = 2
load_code Ld = 3
load_code Lbu = 4
load_code Lhu = 5
load_code Lwu = 6

-- the funct3 of a store (RV32I, RV64I)
abbrev pub store_code : StoreOp → ℕ
store_code Sb = 0
store_code Sh = 1
store_code Sw = 2
store_code Sd = 3

-- what the upper twelve bits of an immediate's instruction hold: the immediate, or a shift of so
-- many bits with a constant above it
pub data Upper : Type 0 where
  Number : Upper
  Shift : ℕ → ℕ → Upper

-- the opcode, the funct3 and the upper bits of arithmetic with an immediate (RV32I, RV64I)
abbrev pub imm_code : ImmOp → ℕ × ℕ × Upper
imm_code Addi = (0x13, 0, Number)
imm_code Slti = (0x13, 2, Number)
imm_code Sltiu = (0x13, 3, Number)
imm_code Xori = (0x13, 4, Number)
imm_code Ori = (0x13, 6, Number)
imm_code Andi = (0x13, 7, Number)
imm_code Slli = (0x13, 1, Shift 6 0)
imm_code Srli = (0x13, 5, Shift 6 0)
imm_code Srai = (0x13, 5, Shift 6 0x10)
imm_code Addiw = (0x1b, 0, Number)
imm_code Slliw = (0x1b, 1, Shift 5 0)
imm_code Srliw = (0x1b, 5, Shift 5 0)
imm_code Sraiw = (0x1b, 5, Shift 5 0x20)

-- the opcode, the funct7 and the funct3 of arithmetic with two registers (RV32I, RV64I, RV32M, RV64M)
abbrev pub reg_code : RegOp → ℕ × ℕ × ℕ
reg_code Add = (0x33, 0, 0)
reg_code Sll = (0x33, 0, 1)
reg_code Slt = (0x33, 0, 2)
reg_code Sltu = (0x33, 0, 3)
reg_code Xor = (0x33, 0, 4)
reg_code Srl = (0x33, 0, 5)
reg_code Or = (0x33, 0, 6)
reg_code And = (0x33, 0, 7)
reg_code Sub = (0x33, 0x20, 0)
reg_code Sra = (0x33, 0x20, 5)
reg_code Mul = (0x33, 1, 0)
reg_code Mulh = (0x33, 1, 1)
reg_code Mulhsu = (0x33, 1, 2)
reg_code Mulhu = (0x33, 1, 3)
reg_code Div = (0x33, 1, 4)
reg_code Divu = (0x33, 1, 5)
reg_code Rem = (0x33, 1, 6)
reg_code Remu = (0x33, 1, 7)
reg_code Addw = (0x3b, 0, 0)
reg_code Sllw = (0x3b, 0, 1)
reg_code Srlw = (0x3b, 0, 5)
reg_code Subw = (0x3b, 0x20, 0)
reg_code Sraw = (0x3b, 0x20, 5)
reg_code Mulw = (0x3b, 1, 0)
reg_code Divw = (0x3b, 1, 4)
reg_code Divuw = (0x3b, 1, 5)
reg_code Remw = (0x3b, 1, 6)
reg_code Remuw = (0x3b, 1, 7)

-- the funct5 of an atomic memory operation (RV32A, RV64A)
abbrev pub amo_code : AmoOp → ℕ
amo_code AmoAdd = 0
amo_code Swap = 1
amo_code AmoXor = 4
amo_code AmoOr = 8
amo_code AmoAnd = 12
amo_code Min = 16
amo_code Max = 20
amo_code Minu = 24
amo_code Maxu = 28
