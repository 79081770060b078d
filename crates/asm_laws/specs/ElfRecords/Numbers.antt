-- The fields of a record as numbers: how many bytes each has, and which numbers those hold.
use Rattle.std.specs.Prelude.{ℕ, ◌^◌, ◌<◌, ⊤, List, [], ◌∷◌, sum_by}
use Rattle.asm_write.specs.declared.field.Field.{Field}
use Rattle.asm_write.specs.declared.field.Field.TheVariants as fields

abbrev pub width : Field → ℕ
width (fields.Byte value) = 1
width (fields.Half value) = 2
width (fields.Word value) = 4
width (fields.Doubleword value) = 8

abbrev pub number : Field → ℕ
number (fields.Byte value) = value
number (fields.Half value) = value
number (fields.Word value) = value
number (fields.Doubleword value) = value

-- the field's bytes hold its number
abbrev pub Fits : Field → Type 0
Fits (fields.Byte value) = value < 2 ^ 8
Fits (fields.Half value) = value < 2 ^ 16
Fits (fields.Word value) = value < 2 ^ 32
Fits (fields.Doubleword value) = value < 2 ^ 64

abbrev pub AllFit : List Field → Type 0
AllFit [] = ⊤
AllFit (field ∷ rest) = Fits field × AllFit rest

-- how many bytes a record has
abbrev pub widths : List Field → ℕ
widths all = sum_by width all
