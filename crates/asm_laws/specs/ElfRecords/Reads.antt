-- What a reader finds of a record: its tests pass, and each field has its number.
use Rattle.std.specs.Prelude.{◌≡◌, ℕ, ◌+◌, List, false}
use Rattle.ld_base.specs.Field.{field}
use Rattle.ld_base.specs.declared.object.Kind.{Kind}
use Rattle.elf_head.specs.Header.{table_start, entry_size, header_count}
use Rattle.elf_head.specs.Rules.{is_not_elf, is_not_class64_little, is_not_riscv, is_not_linked, needs_extension, kind_of}
use Rattle.asm_write.specs.declared.contents.NeedRecord.{NeedRecord}
use Rattle.asm_write.specs.declared.contents.NeededVersion.{NeededVersion}
use Rattle.asm_write.specs.declared.contents.VersionRecord.{VersionRecord}

-- the ELF header of an object of this kind, with this entry and so many program headers, which stand behind it
pub record ReadsHead (bytes : List ℕ) (kind : Kind) (entry headers : ℕ) : Type 0 where
  pub elf : is_not_elf bytes ≡ false
  pub class64_little : is_not_class64_little bytes ≡ false
  pub riscv : is_not_riscv bytes ≡ false
  pub linked : is_not_linked bytes ≡ false
  pub plain : needs_extension bytes ≡ false
  pub kind_is : kind_of bytes ≡ kind
  pub entry_is : field 8 bytes 24 ≡ entry
  pub start : table_start bytes ≡ 64
  pub size : entry_size bytes ≡ 56
  pub count : header_count bytes ≡ headers

-- the Verdef of a version, behind it its one Verdaux
pub record ReadsVersion (bytes : List ℕ) (at : ℕ) (version : VersionRecord) : Type 0 where
  pub is_one : field 2 bytes at ≡ 1
  pub flags : field 2 bytes (at + 2) ≡ version.flags
  pub index : field 2 bytes (at + 4) ≡ version.index
  pub names : field 2 bytes (at + 6) ≡ 1
  pub hash : field 4 bytes (at + 8) ≡ version.hash
  pub aux : field 4 bytes (at + 12) ≡ 20
  pub next : field 4 bytes (at + 16) ≡ version.next
  pub name : field 4 bytes (at + 20) ≡ version.name

-- the Verneed of a file
pub record ReadsNeed (bytes : List ℕ) (at : ℕ) (need : NeedRecord) : Type 0 where
  pub is_one : field 2 bytes at ≡ 1
  pub count : field 2 bytes (at + 2) ≡ need.count
  pub file : field 4 bytes (at + 4) ≡ need.name
  pub first : field 4 bytes (at + 8) ≡ need.first
  pub next : field 4 bytes (at + 12) ≡ need.next

-- the Vernaux of a version
pub record ReadsNeeded (bytes : List ℕ) (at : ℕ) (version : NeededVersion) : Type 0 where
  pub hash : field 4 bytes at ≡ version.hash
  pub flags : field 2 bytes (at + 4) ≡ version.flags
  pub index : field 2 bytes (at + 6) ≡ version.index
  pub name : field 4 bytes (at + 8) ≡ version.name
  pub next : field 4 bytes (at + 12) ≡ version.next
