-- Records as little-endian fields (gABI, "Data Representation").
use Rattle.std.specs.Prelude.{ℕ, List, [], ◌∷◌, flat_map}
use Rattle.std.specs.Int.{w16, w32, w64, to_le_bytes}
use Rattle.asm_write.specs.declared.field.Field.{Field}
use Rattle.asm_write.specs.declared.field.Field.TheVariants as fields

-- the bytes of a field, the lowest first
abbrev pub field_bytes : Field → List ℕ
field_bytes (fields.Byte value) = value ∷ []
field_bytes (fields.Half value) = to_le_bytes w16 value
field_bytes (fields.Word value) = to_le_bytes w32 value
field_bytes (fields.Doubleword value) = to_le_bytes w64 value

-- the bytes of a record, field by field
unfoldable pub record_bytes : List Field → List ℕ
record_bytes all = flat_map field_bytes all
