-- Records of a version table, and the strings that they name.
use Rattle.std.specs.Prelude.{ℕ, Bool, if◌then◌else◌, List, Option, Result, Ok, Err}
use Rattle.std.specs.Option.{ok_or, option_map_or}
use Rattle.ld_base.specs.Field.{field}
use Rattle.ld_base.specs.declared.fault.NotAccepted.{NotAccepted}
use Rattle.elf_head.specs.Readable.{file_bytes}
use Rattle.elf_head.specs.DynTable.Name.{string_at}
pub use Rattle.elf_head.specs.DynTable.Tag.{value_of}
use Rattle.elf_versions.specs.Source.{Source}

-- rule 17, which the table of this tag breaks
abbrev pub bad_table : ℕ → NotAccepted
bad_table tag = record { rule = 17; number = tag }

-- what has to be there
abbrev pub wanted : {X : Type 0} → ℕ → Option X → Result X NotAccepted
wanted tag found = ok_or found (bad_table tag)

-- a value that has to pass a test
abbrev pub passing : {X : Type 0} → ℕ → (X → Bool) → X → Result X NotAccepted
passing tag test x = if test x then Ok x else Err (bad_table tag)

-- the bytes of the record of this size at an address
unfoldable pub record_at : Source → ℕ → ℕ → Result (List ℕ) NotAccepted
record_at src size at = wanted src.tag (file_bytes src.bytes src.headers at size)

-- the string at an offset of the string table
unfoldable pub named : Source → ℕ → Result (List ℕ) NotAccepted
named src offset = wanted src.tag (string_at src.strings offset)

-- how far after the record of this size at an address the next one stands, which the field at an offset tells
unfoldable pub distance : Source → ℕ → ℕ → ℕ → ℕ
distance src size offset at = option_map_or (λ r. field 4 r offset) (file_bytes src.bytes src.headers at size) 0
