-- The versions that an object defines (Drepper, "ELF Symbol Versioning": Elfxx_Verdef, Elfxx_Verdaux).
use Rattle.std.specs.Prelude.{ℕ, ◌+◌, ◌==◌, ◌&&◌, Bool, nat_lt, nat_le, List, [], Result, Ok}
use Rattle.std.specs.Option.{option_map_or}
use Rattle.ld_base.specs.Field.{field}
use Rattle.ld_base.specs.declared.fault.NotAccepted.{NotAccepted}
use Rattle.ld_base.specs.declared.object.Verdef.{Verdef}
use Rattle.ld_base.specs.declared.parts.Tag.{Tag}
use Rattle.elf_head.specs.AcceptancePart.Entries.{◌>>=◌}
use Rattle.elf_head.specs.DynTable.Tag.{last_of}
use Rattle.elf_head.specs.DynTable.TagNumbers.{dt_verdef, dt_verdefnum}
use Rattle.elf_versions.specs.Linked.{linked, is_linked}
use Rattle.elf_versions.specs.Record.{record_at, passing, named, distance, value_of}
use Rattle.elf_versions.specs.Source.{Source}

-- vd_version is 1, vd_cnt counts a name, and vd_next leads to the next record
abbrev pub is_verdef : Bool → List ℕ → Bool
is_verdef is_last r = field 2 r 0 == 1 && nat_lt 0 (field 2 r 6) && is_linked is_last (field 4 r 16)

-- the version that the record at an address defines: its name is that of the first Verdaux, to which vd_aux leads
unfoldable pub verdef_at : Source → Bool → ℕ → Result Verdef NotAccepted
verdef_at src is_last at = do
  r ← record_at src 20 at
  kept ← passing src.tag (is_verdef is_last) r
  aux ← record_at src 8 (at + field 4 r 12)
  name ← named src (field 4 aux 0)
  Ok (record { index = field 2 r 4; flags = field 2 r 2; name = name })

-- the versions of so many records from a start on
unfoldable pub verdefs_from : Source → ℕ → ℕ → Result (List Verdef) NotAccepted
verdefs_from src start count = linked (verdef_at src) (distance src 20 16) start count

-- the versions that an object defines, at most as many as there are version indexes; none where there is no such table
unfoldable pub verdefs_of : Source → List Tag → Result (List Verdef) NotAccepted
verdefs_of src tags = option_map_or (λ start. do
  count ← passing src.tag (λ n. nat_le n 32768) (value_of tags dt_verdefnum)
  verdefs_from src start count) (last_of tags dt_verdef) (Ok [])
