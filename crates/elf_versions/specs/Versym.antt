-- The version indexes of symbols (Drepper, "ELF Symbol Versioning").
use Rattle.std.specs.Prelude.{ℕ, ◌*◌, List, [], Result, Ok}
use Rattle.std.specs.Option.{option_map_or}
use Rattle.ld_base.specs.Field.{field}
use Rattle.ld_base.specs.declared.fault.NotAccepted.{NotAccepted}
use Rattle.ld_base.specs.declared.parts.Tag.{Tag}
use Rattle.elf_head.specs.AcceptancePart.Table.{table}
use Rattle.elf_head.specs.AcceptancePart.Entries.{◌>>=◌}
use Rattle.elf_head.specs.DynTable.Tag.{last_of}
use Rattle.elf_head.specs.DynTable.TagNumbers.{dt_versym}
use Rattle.elf_versions.specs.Record.{record_at}
use Rattle.elf_versions.specs.Source.{Source}

-- a 16-bit entry for each of so many symbols; none where there is no such table
unfoldable pub versym_of : Source → List Tag → ℕ → Result (List ℕ) NotAccepted
versym_of src tags count = option_map_or (λ start. do
  part ← record_at src (2 * count) start
  Ok (table (field 2 part) 0 2 count)) (last_of tags dt_versym) (Ok [])
