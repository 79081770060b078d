-- The contents as they are filled in.
use Rattle.std.specs.Prelude.{ℕ, false, if◌then◌else◌, List, [], map, Option, Some, None, unwrap_or}
use Rattle.ld_base.specs.declared.object.Kind.TheVariants.{Dyn}
use Rattle.ld_base.specs.declared.parts.GnuPart.{GnuPart}
use Rattle.ld_base.specs.declared.parts.SysvPart.{SysvPart}
use Rattle.asm_write.specs.declared.contents.Contents.{Contents}
use Rattle.asm_write.specs.declared.contents.Extent.{Extent}
use Rattle.asm_write.specs.declared.contents.VersionRecord.{VersionRecord}
use Rattle.asm_write.specs.HashBuild.Hashed.{gnu_of, sysv_of}
use Rattle.sym_hash.specs.Hash.{gnu_hash, sysv_hash}
use Rattle.asm_statement.specs.declared.directive.HashKind.{HashKind}
use Rattle.asm_layout.specs.declared.uses.Exported.{Exported}
use Rattle.asm_layout.specs.Contents.{soname_offset}
use Rattle.asm_layout.specs.Tables.{has_gnu, has_sysv}
use Rattle.asm_layout.specs.Versions.{records_for}
use Rattle.asm_places.specs.AsmNeeds.Files.{AreFilesOf}
use Rattle.asm_places.specs.Counts.{ArePlacesOf}
use Rattle.asm_uses.specs.Uses.{AreUsesOf}
use Rattle.asm_contents.specs.declared.contents.Source.{Source}

-- nothing is filled in yet
abbrev pub no_extent : Extent
no_extent = record { size = 0; align = 1 }

abbrev pub blank_contents : Contents
blank_contents = record {
  kind = Dyn;
  entry = None;
  strings = [];
  soname = None;
  needed = [];
  flags = record { symbolic = false; bind_now = false; nodelete = false };
  symbols = [];
  gnu = None;
  sysv = None;
  has_versions = false;
  versions = [];
  files = [];
  needed_versions = [];
  slots = [];
  fixes = [];
  sections = record { rodata = no_extent; text = no_extent; relro = no_extent; tdata = no_extent; tbss = no_extent; «data» = no_extent; bss = no_extent };
}

-- what it is filled from is what the lines say
pub record IsSource (source : Source) : Type 0 where
  pub uses : AreUsesOf source.statements.now source.uses.now
  pub needed : AreFilesOf source.statements.now source.needed.now
  pub places : ArePlacesOf source.statements.now source.places.now

-- the tables that a source asks for
abbrev pub gnu_table : HashKind → ℕ → List Exported → Option GnuPart
gnu_table hash first sorted = if has_gnu hash then Some (gnu_of first (map (λ exported. gnu_hash exported.name) sorted)) else None

abbrev pub sysv_table : HashKind → ℕ → List Exported → Option SysvPart
sysv_table hash first sorted = if has_sysv hash then Some (sysv_of first (map (λ exported. sysv_hash exported.name) sorted)) else None

abbrev pub own_records : Option (List ℕ) → ℕ → List (List ℕ) → List VersionRecord
own_records own first names = records_for (unwrap_or own []) (unwrap_or (soname_offset own) 0) first names
