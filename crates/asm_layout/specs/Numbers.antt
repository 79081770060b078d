-- Numbers as they are written, and what fits where (the assembler's table of directives).
use Rattle.std.specs.Prelude.{ℕ, ◌^◌, ◌-◌, ℤ, pos, neg_ℤ, Bool, true, false, ◌&&◌, int_le, Option, Some, None}
use Rattle.asm_statement.specs.declared.number.Number.{Number}
use Rattle.asm_statement.specs.declared.directive.DataSize.{DataSize}
use Rattle.asm_statement.specs.declared.directive.DataSize.TheVariants as sizes

-- the number that a sign and a magnitude make
abbrev pub signed : Bool → ℕ → ℤ
signed false magnitude = pos magnitude
signed true magnitude = neg_ℤ (pos magnitude)

-- the number; none where its magnitude is 2^64 or more, which fits nowhere
abbrev pub value_in : Bool → Option ℕ → Option ℤ
value_in is_negative None = None
value_in is_negative (Some magnitude) = Some (signed is_negative magnitude)

abbrev pub value_of : Number → Option ℤ
value_of number = value_in number.is_negative number.magnitude

-- from the least to the greatest
abbrev pub is_between : ℤ → ℤ → Option ℤ → Bool
is_between least greatest None = false
is_between least greatest (Some value) = int_le least value && int_le value greatest

abbrev pub fits : ℤ → ℤ → Number → Bool
fits least greatest number = is_between least greatest (value_of number)

-- a number of so many bits, with a sign or without one
abbrev pub fits_bits : ℕ → Number → Bool
fits_bits width number = fits (neg_ℤ (pos (2 ^ (width - 1)))) (pos (2 ^ width - 1)) number

-- how many bits a number of data has, and how many bytes
abbrev pub width_of : DataSize → ℕ
width_of sizes.Word = 32
width_of sizes.Half = 16
width_of sizes.Byte = 8

abbrev pub bytes_of : DataSize → ℕ
bytes_of sizes.Word = 4
bytes_of sizes.Half = 2
bytes_of sizes.Byte = 1

abbrev pub fits_data : DataSize → Number → Bool
fits_data size number = fits_bits (width_of size) number

-- a doubleword: with a sign or without one
abbrev pub fits_dword : Number → Bool
fits_dword number = fits_bits 64 number

-- a distance from a name: a signed number of 64 bits
abbrev pub fits_addend : Number → Bool
fits_addend number = fits (neg_ℤ (pos (2 ^ 63))) (pos (2 ^ 63 - 1)) number

-- a count of bytes: below 2^32
abbrev pub fits_count : Number → Bool
fits_count number = fits (pos 0) (pos (2 ^ 32 - 1)) number

-- so many bytes, or none where the number is no count
abbrev pub counted : Bool → Option ℕ → ℕ
counted true (Some magnitude) = magnitude
counted true None = 0
counted false magnitude = 0

abbrev pub count_of : Number → ℕ
count_of number = counted (fits_count number) number.magnitude

-- the number of `li`: a signed number of 32 bits; and of `lui` and `auipc`: 20 bits without a sign
abbrev pub fits_li : Number → Bool
fits_li number = fits (neg_ℤ (pos (2 ^ 31))) (pos (2 ^ 31 - 1)) number

abbrev pub fits_upper : Number → Bool
fits_upper number = fits (pos 0) (pos (2 ^ 20 - 1)) number

-- a number that one `addi` can hold
abbrev pub fits_addi : Number → Bool
fits_addi number = fits (neg_ℤ (pos (2 ^ 11))) (pos (2 ^ 11 - 1)) number
