-- Which object a file is, and which rule it breaks: as relations.
use Rattle.std.specs.Prelude.{◌≡◌, ℕ, Bool, List}
use Rattle.ld_base.specs.declared.fault.NotAccepted.{NotAccepted}
use Rattle.ld_base.specs.declared.object.Object.{Object}
use Rattle.ld_base.specs.declared.parts.DynParts.{DynParts}
use Rattle.ld_base.specs.declared.parts.HashTable.{HashTable}
use Rattle.ld_base.specs.declared.parts.Head.{Head}
use Rattle.ld_base.specs.declared.parts.Versions.{Versions}
use Rattle.elf_head.specs.Verdict.{SpellsHead}
use Rattle.elf_head.specs.Verdict.{BreaksFirst as HeadBreaks}
use Rattle.elf_dynamic.specs.Verdict.{SpellsDynamic}
use Rattle.elf_dynamic.specs.Verdict.{BreaksFirst as DynamicBreaks}
use Rattle.elf_versions.specs.Spells.{SpellsVersions}
use Rattle.elf_versions.specs.Spells.{BreaksFirst as VersionsBreak}
use Rattle.sym_hash.specs.Breaks.{BreaksHash, IsHashTable}
use Rattle.elf_object.specs.Object.{with_versions}
use Rattle.elf_object.specs.Segments.{dynamic_of, relro_of, segments_of, tls_of}

-- the parts say each field
pub record Say (bytes : List ℕ) (head : Head) (parts : DynParts) (versions : Versions) (o : Object) : Type 0 where
  pub kind : o.kind ≡ head.kind
  pub entry : o.entry ≡ head.entry
  pub soname : o.soname ≡ parts.soname
  pub needed : o.needed ≡ parts.needed
  pub segments : o.segments ≡ segments_of bytes head.headers
  pub symbols : o.symbols ≡ with_versions parts.symbols versions.versym
  pub first_exported : o.first_exported ≡ parts.first_exported
  pub has_versym : o.has_versym ≡ versions.has_versym
  pub verdefs : o.verdefs ≡ versions.verdefs
  pub verneeds : o.verneeds ≡ versions.verneeds
  pub relocs : o.relocs ≡ parts.relocs
  pub plt_relocs : o.plt_relocs ≡ parts.plt_relocs
  pub pltgot : o.pltgot ≡ parts.pltgot
  pub preinit : o.preinit ≡ parts.preinit
  pub init : o.init ≡ parts.init
  pub init_array : o.init_array ≡ parts.init_array
  pub fini : o.fini ≡ parts.fini
  pub fini_array : o.fini_array ≡ parts.fini_array
  pub tls : o.tls ≡ tls_of head.headers
  pub relro : o.relro ≡ relro_of head.headers
  pub flags : o.flags ≡ parts.flags
  pub relr : o.relr ≡ parts.relr
  pub dynamic : o.dynamic ≡ dynamic_of head.headers

-- Spells: no rule is broken, and the parts of the file say the object, as the program or as another object
pub record Spells (bytes : List ℕ) (program : Bool) (o : Object) : Type 0 where
  pub head : Head
  pub parts : DynParts
  pub versions : Versions
  pub table : HashTable
  pub is_head : SpellsHead bytes head
  pub are_parts : SpellsDynamic bytes head program parts
  pub are_versions : SpellsVersions bytes head parts versions
  pub is_table : IsHashTable bytes head parts table
  pub say : Say bytes head parts versions o

-- Broken: the part that breaks a rule first; each part before it breaks none
pub data Broken (bytes : List ℕ) (program : Bool) : NotAccepted → Type 0 where
  by_head : (fault : NotAccepted) → HeadBreaks bytes fault → Broken bytes program fault
  by_dynamic : (head : Head) → SpellsHead bytes head → (fault : NotAccepted) → DynamicBreaks bytes head program fault → Broken bytes program fault
  by_versions : (head : Head) → SpellsHead bytes head → (parts : DynParts) → SpellsDynamic bytes head program parts
      → (fault : NotAccepted) → VersionsBreak bytes head parts fault → Broken bytes program fault
  by_hash : (head : Head) → SpellsHead bytes head → (parts : DynParts) → SpellsDynamic bytes head program parts
      → (versions : Versions) → SpellsVersions bytes head parts versions → (fault : NotAccepted) → BreaksHash bytes head parts fault
      → Broken bytes program fault
