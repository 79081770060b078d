-- The versions that an object needs (Drepper, "ELF Symbol Versioning": Elfxx_Verneed, Elfxx_Vernaux).
use Rattle.std.specs.Prelude.{ℕ, ◌+◌, ◌%◌, ◌==◌, ◌&&◌, Bool, nat_lt, nat_le, List, [], ◌∷◌, ◌++◌, Result, Ok, sum_by}
use Rattle.std.specs.Option.{option_map_or}
use Rattle.ld_base.specs.Field.{field}
use Rattle.ld_base.specs.declared.fault.NotAccepted.{NotAccepted}
use Rattle.ld_base.specs.declared.object.Verneed.{Verneed}
use Rattle.ld_base.specs.declared.parts.Tag.{Tag}
use Rattle.elf_head.specs.AcceptancePart.Entries.{◌>>=◌}
use Rattle.elf_head.specs.DynTable.Tag.{last_of}
use Rattle.elf_head.specs.DynTable.TagNumbers.{dt_verneed, dt_verneednum}
use Rattle.elf_versions.specs.Need.{Need}
use Rattle.elf_versions.specs.Linked.{linked, is_linked}
use Rattle.elf_versions.specs.Record.{record_at, passing, named, distance, value_of}
use Rattle.elf_versions.specs.Source.{Source}

-- vn_version is 1, vn_cnt counts a version, and vn_next leads to the next record
abbrev pub is_verneed : Bool → List ℕ → Bool
is_verneed is_last r = field 2 r 0 == 1 && nat_lt 0 (field 2 r 2) && is_linked is_last (field 4 r 12)

-- the file of the record at an address, and how many versions are needed of it, from where vn_aux leads on
unfoldable pub need_at : Source → Bool → ℕ → Result Need NotAccepted
need_at src is_last at = do
  r ← record_at src 16 at
  kept ← passing src.tag (is_verneed is_last) r
  file ← named src (field 4 r 4)
  Ok (record { file = file; versions = at + field 4 r 8; count = field 2 r 2 })

-- the needs of so many records from a start on
unfoldable pub needs_from : Source → ℕ → ℕ → Result (List Need) NotAccepted
needs_from src start count = linked (need_at src) (distance src 16 12) start count

-- the version that the Vernaux at an address needs of a file; its index is vna_other without the bit 0x8000
unfoldable pub vernaux_at : Source → List ℕ → Bool → ℕ → Result Verneed NotAccepted
vernaux_at src file is_last at = do
  r ← record_at src 16 at
  kept ← passing src.tag (λ r. is_linked is_last (field 4 r 12)) r
  name ← named src (field 4 r 8)
  Ok (record { index = field 2 r 6 % 0x8000; flags = field 2 r 4; file = file; name = name })

-- the versions that are needed of one file
unfoldable pub versions_of : Source → Need → Result (List Verneed) NotAccepted
versions_of src need = linked (vernaux_at src need.file) (distance src 16 12) need.versions need.count

-- the versions that are needed of these files, file by file
abbrev pub versions_of_all : Source → List Need → Result (List Verneed) NotAccepted
versions_of_all src [] = Ok []
versions_of_all src (need ∷ needs) = do
  first ← versions_of src need
  rest ← versions_of_all src needs
  Ok (first ++ rest)

-- at most as many versions as there are version indexes
abbrev pub are_few : List Need → Bool
are_few needs = nat_le (sum_by (λ n. n.count) needs) 32768

-- the versions that so many records from a start on need
unfoldable pub verneeds_from : Source → ℕ → ℕ → Result (List Verneed) NotAccepted
verneeds_from src start count = do
  needs ← needs_from src start count
  few ← passing src.tag are_few needs
  versions_of_all src few

-- the versions that an object needs; none where there is no such table
unfoldable pub verneeds_of : Source → List Tag → Result (List Verneed) NotAccepted
verneeds_of src tags = option_map_or (λ start. do
  count ← passing src.tag (λ n. nat_le n 32768) (value_of tags dt_verneednum)
  verneeds_from src start count) (last_of tags dt_verneed) (Ok [])
