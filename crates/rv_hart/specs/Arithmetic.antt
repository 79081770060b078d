-- What the integer instructions compute, on registers of 64 bits (Unprivileged ISA 20191213,
-- sections 2.4, 5.2, 7.1, 7.2 and 8.4).
use Rattle.std.specs.Prelude.{ℕ, ◌+◌, ◌-◌, ◌*◌, ◌/◌, ◌%◌, ◌^◌, ℤ, negsuc, bit_and, bit_or, bit_xor, int_lt, int_div, int_rem, nat_lt, ◌==◌, if◌then◌else◌}
use Rattle.std.specs.Int.{Width, w32, w64, w128, cast_signed, cast_unsigned, from_bool, int_shr}
use Rattle.rv_isa.specs.declared.operation.RegOp.{RegOp}
use Rattle.rv_isa.specs.declared.operation.RegOp.TheVariants.{Add, Sll, Slt, Sltu, Xor, Srl, Or, And, Sub, Sra, Mul, Mulh, Mulhsu, Mulhu, Div, Divu, Rem}
use Rattle.rv_isa.specs.declared.operation.RegOp.TheVariants.{Remu, Addw, Sllw, Srlw, Subw, Sraw, Mulw, Divw, Divuw, Remw, Remuw}
use Rattle.rv_isa.specs.declared.operation.AmoOp.{AmoOp}
use Rattle.rv_isa.specs.declared.operation.AmoOp.TheVariants.{Add as AmoAdd, Swap, Xor as AmoXor, Or as AmoOr, And as AmoAnd, Min, Max, Minu, Maxu}
use Rattle.rv_isa.specs.declared.operation.ImmOp.{ImmOp}
use Rattle.rv_isa.specs.declared.operation.ImmOp.TheVariants.{Addi, Slti, Sltiu, Xori, Ori, Andi, Slli, Srli, Srai, Addiw, Slliw, Srliw, Sraiw}

-- the lowest bytes of a register
abbrev pub low_bytes : ℕ → ℕ → ℕ
low_bytes size value = value % 2 ^ (8 * size)

-- the low half of a register, and the register whose low half is this, sign-extended
abbrev pub low_word : ℕ → ℕ
low_word a = a % 2 ^ 32

abbrev pub word_result : ℕ → ℕ
word_result a = cast_unsigned w64 (cast_signed w32 (a % 2 ^ 32))

-- a number of 64 bits sign-extended to 128, and the upper half of a product of 128 bits
abbrev pub widened : ℕ → ℕ
widened a = cast_unsigned w128 (cast_signed w64 a)

abbrev pub upper_half : ℕ → ℕ
upper_half product = product % 2 ^ 128 / 2 ^ 64

-- a number shifted to the right, its sign shifted in
abbrev pub shifted_signed : Width → ℕ → ℕ → ℕ
shifted_signed w a shift = cast_unsigned w64 (int_shr (cast_signed w a) shift)

-- the number whose bits are all 1
abbrev pub all_ones : Width → ℕ
all_ones w = cast_unsigned w (negsuc 0)

-- division: where the divisor is 0 every bit of the quotient is 1, and the dividend is what remains. The one quotient that
-- overflows, that of the least number by -1, has the bits of the least number
abbrev pub quotient : Width → ℕ → ℕ → ℕ
quotient w a b = if b == 0 then all_ones w else cast_unsigned w (int_div (cast_signed w a) (cast_signed w b))

abbrev pub remainder : Width → ℕ → ℕ → ℕ
remainder w a b = if b == 0 then a else cast_unsigned w (int_rem (cast_signed w a) (cast_signed w b))

abbrev pub unsigned_quotient : Width → ℕ → ℕ → ℕ
unsigned_quotient w a b = if b == 0 then all_ones w else a / b

abbrev pub unsigned_remainder : ℕ → ℕ → ℕ
unsigned_remainder a b = if b == 0 then a else a % b

-- what arithmetic with two registers puts into rd
abbrev pub reg_result : RegOp → ℕ → ℕ → ℕ
reg_result Add a b = (a + b) % 2 ^ 64
reg_result Sub a b = (a + (2 ^ 64 - b)) % 2 ^ 64
reg_result Sll a b = a * 2 ^ (b % 64) % 2 ^ 64
reg_result Srl a b = a / 2 ^ (b % 64)
reg_result Sra a b = shifted_signed w64 a (b % 64)
reg_result Slt a b = from_bool (int_lt (cast_signed w64 a) (cast_signed w64 b))
reg_result Sltu a b = from_bool (nat_lt a b)
reg_result Xor a b = bit_xor a b
reg_result Or a b = bit_or a b
reg_result And a b = bit_and a b
reg_result Mul a b = a * b % 2 ^ 64
reg_result Mulh a b = upper_half (widened a * widened b)
reg_result Mulhsu a b = upper_half (widened a * b)
reg_result Mulhu a b = upper_half (a * b)
reg_result Div a b = quotient w64 a b
reg_result Divu a b = unsigned_quotient w64 a b
reg_result Rem a b = remainder w64 a b
reg_result Remu a b = unsigned_remainder a b
reg_result Addw a b = word_result (a + b)
reg_result Subw a b = word_result (a + (2 ^ 64 - b))
reg_result Sllw a b = word_result (a * 2 ^ (b % 32))
reg_result Srlw a b = word_result (low_word a / 2 ^ (b % 32))
reg_result Sraw a b = shifted_signed w32 (low_word a) (b % 32)
reg_result Mulw a b = word_result (a * b)
reg_result Divw a b = word_result (quotient w32 (low_word a) (low_word b))
reg_result Divuw a b = word_result (unsigned_quotient w32 (low_word a) (low_word b))
reg_result Remw a b = word_result (remainder w32 (low_word a) (low_word b))
reg_result Remuw a b = word_result (unsigned_remainder (low_word a) (low_word b))

-- the operation on two registers that an operation on a register and an immediate is, with the
-- sign-extended immediate in place of the second
abbrev pub with_registers : ImmOp → RegOp
with_registers Addi = Add
with_registers Slti = Slt
with_registers Sltiu = Sltu
with_registers Xori = Xor
with_registers Ori = Or
with_registers Andi = And
with_registers Slli = Sll
with_registers Srli = Srl
with_registers Srai = Sra
with_registers Addiw = Addw
with_registers Slliw = Sllw
with_registers Srliw = Srlw
with_registers Sraiw = Sraw

-- what arithmetic with a register and an immediate puts into rd
abbrev pub imm_result : ImmOp → ℕ → ℤ → ℕ
imm_result op a number = reg_result (with_registers op) a (cast_unsigned w64 number)

-- the size of an atomic access, as a width
abbrev pub width_of : ℕ → Width
width_of size = if size == 4 then w32 else w64

-- what an atomic memory operation makes of the old value and the register's, both of so many bytes
abbrev pub combined : AmoOp → ℕ → ℕ → ℕ → ℕ
combined AmoAdd size old value = (old + value) % 2 ^ (8 * size)
combined Swap size old value = value
combined AmoXor size old value = bit_xor old value
combined AmoOr size old value = bit_or old value
combined AmoAnd size old value = bit_and old value
combined Min size old value = if int_lt (cast_signed (width_of size) value) (cast_signed (width_of size) old) then value else old
combined Max size old value = if int_lt (cast_signed (width_of size) old) (cast_signed (width_of size) value) then value else old
combined Minu size old value = if nat_lt value old then value else old
combined Maxu size old value = if nat_lt old value then value else old
