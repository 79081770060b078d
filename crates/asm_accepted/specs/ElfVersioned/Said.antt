-- What an object says of its versions (Drepper, "ELF Symbol Versioning").
use Rattle.std.specs.Prelude.{◌≡◌, ℕ, ◌%◌, if◌then◌else◌, List, [], ◌∷◌, ◌++◌, map, take, drop}
use Rattle.ld_base.specs.declared.object.Verdef.{Verdef}
use Rattle.ld_base.specs.declared.object.Verneed.{Verneed}
use Rattle.ld_base.specs.declared.parts.Versions.{Versions}
use Rattle.elf_head.specs.DynTable.Name.{IsStringAt}
use Rattle.asm_write.specs.declared.contents.Contents.{Contents}
use Rattle.asm_write.specs.declared.contents.NeedRecord.{NeedRecord}
use Rattle.asm_write.specs.declared.contents.NeededVersion.{NeededVersion}
use Rattle.asm_write.specs.declared.contents.VersionRecord.{VersionRecord}
use Rattle.asm_laws.specs.ElfSpelled.Said.{AreSaidBy}

-- an index for each symbol, 0 for the null symbol
abbrev pub said_versym : Contents → List ℕ
said_versym contents = if contents.has_versions then 0 ∷ map (λ symbol. symbol.version) contents.symbols else []

-- a version that is defined, its name being the string at its offset
pub record SaysDefined (strings : List ℕ) (version : VersionRecord) (said : Verdef) : Type 0 where
  pub index : said.index ≡ version.index
  pub flags : said.flags ≡ version.flags
  pub name : IsStringAt strings version.name said.name

-- the versions that are needed, each with its file
abbrev pub with_files : List NeedRecord → List NeededVersion → List (NeedRecord × NeededVersion)
with_files [] versions = []
with_files (file ∷ files) versions = map (λ version. (file, version)) (take file.count versions) ++ with_files files (drop file.count versions)

-- a version that is needed of a file: bit 15 of its index isn't the index's
pub record SaysNeeded (strings : List ℕ) (needed : NeedRecord × NeededVersion) (said : Verneed) : Type 0 where
  pub index : said.index ≡ needed.1.index % 0x8000
  pub flags : said.flags ≡ needed.1.flags
  pub file : IsStringAt strings needed.0.name said.file
  pub name : IsStringAt strings needed.1.name said.name

pub record SaysVersions (contents : Contents) (said : Versions) : Type 0 where
  pub has_versym : said.has_versym ≡ contents.has_versions
  pub versym : said.versym ≡ said_versym contents
  pub verdefs : AreSaidBy (SaysDefined contents.strings) contents.versions said.verdefs
  pub verneeds : AreSaidBy (SaysNeeded contents.strings) (with_files contents.files contents.needed_versions) said.verneeds
