-- What the version tables of an object say, or the rule that they break.
use Rattle.std.specs.Prelude.{ℕ, List, [], length, is_some, unwrap_or, Result, Ok, Err}
use Rattle.std.specs.Option.{option_map_or}
use Rattle.ld_base.specs.declared.fault.NotAccepted.{NotAccepted}
use Rattle.ld_base.specs.declared.parts.DynParts.{DynParts}
use Rattle.ld_base.specs.declared.parts.Head.{Head}
use Rattle.ld_base.specs.declared.parts.Header.{Header}
use Rattle.ld_base.specs.declared.parts.Tag.{Tag}
use Rattle.ld_base.specs.declared.parts.Versions.{Versions}
use Rattle.elf_head.specs.Readable.{file_bytes}
use Rattle.elf_head.specs.AcceptancePart.Entries.{◌>>=◌}
use Rattle.elf_head.specs.DynTable.Tag.{last_of}
use Rattle.elf_head.specs.DynTable.TagNumbers.{dt_strtab, dt_strsz, dt_versym, dt_verdef, dt_verneed}
use Rattle.elf_versions.specs.Index.{unknown_index}
use Rattle.elf_versions.specs.Record.{value_of}
use Rattle.elf_versions.specs.Source.{Source}
use Rattle.elf_versions.specs.Verdef.{verdefs_of}
use Rattle.elf_versions.specs.Verneed.{verneeds_of}
use Rattle.elf_versions.specs.Versym.{versym_of}

-- the string table
unfoldable pub strings_of : List ℕ → List Header → List Tag → List ℕ
strings_of bytes headers tags = unwrap_or (file_bytes bytes headers (value_of tags dt_strtab) (value_of tags dt_strsz)) []

-- what the records of the table of a tag are read from
abbrev pub source_of : List ℕ → List Header → List Tag → ℕ → Source
source_of bytes headers tags tag = record { bytes = bytes; headers = headers; strings = strings_of bytes headers tags; tag = tag }

-- what the tables say, for so many symbols
unfoldable pub tables_of : List ℕ → List Header → List Tag → ℕ → Result Versions NotAccepted
tables_of bytes headers tags count = do
  versym ← versym_of (source_of bytes headers tags dt_versym) tags count
  verdefs ← verdefs_of (source_of bytes headers tags dt_verdef) tags
  verneeds ← verneeds_of (source_of bytes headers tags dt_verneed) tags
  Ok (record { has_versym = is_some (last_of tags dt_versym); versym = versym; verdefs = verdefs; verneeds = verneeds })

-- rule 18: a symbol whose version index isn't there
abbrev pub bad_index : ℕ → NotAccepted
bad_index symbol = record { rule = 18; number = symbol }

-- the versions, where each index is there
unfoldable pub with_indexes : Versions → Result Versions NotAccepted
with_indexes versions = option_map_or (λ symbol. Err (bad_index symbol)) (unknown_index versions) (Ok versions)

-- the versions of so many symbols that the tables with these entries say, or the rule that they break first
unfoldable pub versions_in : List ℕ → List Header → List Tag → ℕ → Result Versions NotAccepted
versions_in bytes headers tags count = do
  versions ← tables_of bytes headers tags count
  with_indexes versions

-- those of an object
abbrev pub versions_verdict : List ℕ → Head → DynParts → Result Versions NotAccepted
versions_verdict bytes head parts = versions_in bytes head.headers parts.tags (length parts.symbols)
