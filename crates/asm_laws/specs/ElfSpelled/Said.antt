-- What an object says, part by part, of what it holds.
use Rattle.std.specs.Prelude.{◌≡◌, ℕ, ◌+◌, ◌*◌, ◌^◌, ◌<◌, ◌||◌, ⊤, Bool, true, false, nat_lt, List, [], ◌∷◌, ◌++◌, map, length, is_some, Option, Some, None}
use Rattle.std.specs.Prelude.{IfSome}
use Rattle.std.specs.Int.{from_bool}
use Rattle.std.specs.List.{slice_get}
use Rattle.elf_head.specs.AcceptancePart.Entries.{AreEntries}
use Rattle.elf_head.specs.DynTable.Tag.{last_of, values_of}
use Rattle.elf_head.specs.DynTable.TagNumbers.{dt_bind_now, dt_fini, dt_fini_array, dt_fini_arraysz, dt_flags, dt_flags_1, dt_gnu_hash, dt_hash, dt_init}
use Rattle.elf_head.specs.DynTable.TagNumbers.{dt_init_array, dt_init_arraysz}
use Rattle.elf_head.specs.DynTable.TagNumbers.{dt_jmprel, dt_needed, dt_pltgot, dt_pltrelsz, dt_preinit_array, dt_preinit_arraysz, dt_rela, dt_relasz, dt_relr}
use Rattle.elf_head.specs.DynTable.TagNumbers.{dt_relrsz, dt_soname}
use Rattle.elf_head.specs.DynTable.TagNumbers.{dt_strsz, dt_strtab, dt_symbolic, dt_symtab, dt_verdef, dt_verdefnum, dt_verneed, dt_verneednum, dt_versym}
use Rattle.asm_write.specs.declared.part.Part.TheVariants as parts
use Rattle.ld_base.specs.declared.object.Span.{Span}
use Rattle.ld_base.specs.declared.parts.DynParts.{DynParts}
use Rattle.ld_base.specs.declared.parts.Head.{Head}
use Rattle.ld_base.specs.declared.parts.Tag.{Tag}
use Rattle.asm_write.specs.declared.contents.Contents.{Contents}
use Rattle.asm_write.specs.declared.entries.DynamicEntry.{DynamicEntry}
use Rattle.asm_write.specs.declared.starts.Starts.{Starts}
use Rattle.asm_write.specs.Records.{header_of, told_value}
use Rattle.asm_write.specs.Sizes.{count_in, listed_count, packed_count, segments_of, name_entries, symbol_entries, flag_entries, arrays_entries}
use Rattle.asm_write.specs.Sizes.{reloc_entries, version_entries}
use Rattle.asm_write.specs.Starts.{size_in, start_in, starts_of}
use Rattle.asm_write.specs.Values.{entry_of}

-- its kind, the address of its entry, and a program header for each segment
abbrev pub said_head : Contents → Head
said_head contents = record {
  kind = contents.kind;
  entry = entry_of (starts_of contents) contents.entry;
  headers = map (header_of (starts_of contents) contents.sections) (segments_of contents);
}

-- the entries of its dynamic table before the one that ends it
abbrev pub told_entries : Contents → List DynamicEntry
told_entries contents =
    name_entries contents ++ symbol_entries contents ++ flag_entries contents.flags ++ arrays_entries contents ++ reloc_entries contents
    ++ version_entries contents

abbrev pub said_tag : Starts → DynamicEntry → Tag
said_tag starts entry = record { tag = entry.tag; value = told_value starts entry.told }

abbrev pub said_tags : Contents → List Tag
said_tags contents = map (said_tag (starts_of contents)) (told_entries contents)

-- the numbers that the dynamic table tells have 64 bits
abbrev pub AllBelow : ℕ → List ℕ → Type 0
AllBelow bound [] = ⊤
AllBelow bound (number ∷ numbers) = (number < bound) × AllBelow bound numbers

pub record TellsNumbers (contents : Contents) : Type 0 where
  pub needed : AllBelow (2 ^ 64) contents.needed
  pub soname : IfSome contents.soname (λ offset. offset < 2 ^ 64)
  pub versions : length contents.versions < 2 ^ 64
  pub files : length contents.files < 2 ^ 64

-- a number that is told where a test holds
abbrev pub told_if : Bool → ℕ → Option ℕ
told_if true number = Some number
told_if false number = None

abbrev pub span_if : Bool → ℕ → ℕ → Option Span
span_if true start size = Some (record { start = start; size = size })
span_if false start size = None

-- what the dynamic table tells of each tag
pub record IsTold (contents : Contents) (tags : List Tag) : Type 0 where
  pub needed : values_of tags dt_needed ≡ contents.needed
  pub soname : last_of tags dt_soname ≡ contents.soname
  pub gnu_hash : last_of tags dt_gnu_hash ≡ told_if (is_some contents.gnu) (start_in (starts_of contents) parts.GnuHash)
  pub hash : last_of tags dt_hash ≡ told_if (is_some contents.sysv) (start_in (starts_of contents) parts.SysvHash)
  pub strings : last_of tags dt_strtab ≡ Some (start_in (starts_of contents) parts.Strings)
  pub strings_size : last_of tags dt_strsz ≡ Some (size_in (starts_of contents) parts.Strings)
  pub symbols : last_of tags dt_symtab ≡ Some (start_in (starts_of contents) parts.Symbols)
  pub flags : last_of tags dt_flags ≡ told_if (contents.flags.symbolic
      || contents.flags.bind_now) (2 * from_bool contents.flags.symbolic + 8 * from_bool contents.flags.bind_now)
  pub more_flags : last_of tags dt_flags_1 ≡ told_if contents.flags.nodelete 8
  pub symbolic : last_of tags dt_symbolic ≡ None
  pub bind_now : last_of tags dt_bind_now ≡ None
  pub init : last_of tags dt_init ≡ None
  pub fini : last_of tags dt_fini ≡ None
  pub preinit_array : last_of tags dt_preinit_array
      ≡ told_if (nat_lt 0 (count_in contents parts.PreinitArray)) (start_in (starts_of contents) parts.PreinitArray)
  pub preinit_size : last_of tags dt_preinit_arraysz
      ≡ told_if (nat_lt 0 (count_in contents parts.PreinitArray)) (size_in (starts_of contents) parts.PreinitArray)
  pub init_array : last_of tags dt_init_array ≡ told_if (nat_lt 0 (count_in contents parts.InitArray)) (start_in (starts_of contents) parts.InitArray)
  pub init_size : last_of tags dt_init_arraysz ≡ told_if (nat_lt 0 (count_in contents parts.InitArray)) (size_in (starts_of contents) parts.InitArray)
  pub fini_array : last_of tags dt_fini_array ≡ told_if (nat_lt 0 (count_in contents parts.FiniArray)) (start_in (starts_of contents) parts.FiniArray)
  pub fini_size : last_of tags dt_fini_arraysz ≡ told_if (nat_lt 0 (count_in contents parts.FiniArray)) (size_in (starts_of contents) parts.FiniArray)
  pub rela : last_of tags dt_rela ≡ told_if (nat_lt 0 (listed_count contents)) (start_in (starts_of contents) parts.Rela)
  pub rela_size : last_of tags dt_relasz ≡ told_if (nat_lt 0 (listed_count contents)) (size_in (starts_of contents) parts.Rela)
  pub relr : last_of tags dt_relr ≡ told_if (nat_lt 0 (packed_count contents)) (start_in (starts_of contents) parts.Relr)
  pub relr_size : last_of tags dt_relrsz ≡ told_if (nat_lt 0 (packed_count contents)) (size_in (starts_of contents) parts.Relr)
  pub slots : last_of tags dt_jmprel ≡ told_if (nat_lt 0 (length contents.slots)) (start_in (starts_of contents) parts.Jmprel)
  pub slots_size : last_of tags dt_pltrelsz ≡ told_if (nat_lt 0 (length contents.slots)) (size_in (starts_of contents) parts.Jmprel)
  pub slot_words : last_of tags dt_pltgot ≡ told_if (nat_lt 0 (length contents.slots)) (start_in (starts_of contents) parts.GotPlt)
  pub versym : last_of tags dt_versym ≡ told_if contents.has_versions (start_in (starts_of contents) parts.Versym)
  pub verdef : last_of tags dt_verdef ≡ told_if (nat_lt 0 (length contents.versions)) (start_in (starts_of contents) parts.Verdef)
  pub verdef_count : last_of tags dt_verdefnum ≡ told_if (nat_lt 0 (length contents.versions)) (length contents.versions)
  pub verneed : last_of tags dt_verneed ≡ told_if (nat_lt 0 (length contents.files)) (start_in (starts_of contents) parts.Verneed)
  pub verneed_count : last_of tags dt_verneednum ≡ told_if (nat_lt 0 (length contents.files)) (length contents.files)

-- what the dynamic table says by itself: the slots' words, no function that is named alone, the arrays of functions, the flags
pub record SaysByItself (contents : Contents) (said : DynParts) : Type 0 where
  pub pltgot : said.pltgot ≡ told_if (nat_lt 0 (length contents.slots)) (start_in (starts_of contents) parts.GotPlt)
  pub init : said.init ≡ None
  pub fini : said.fini ≡ None
  pub preinit : said.preinit
      ≡ span_if (nat_lt 0 (count_in contents parts.PreinitArray)) (start_in (starts_of contents) parts.PreinitArray)
      (size_in (starts_of contents) parts.PreinitArray)
  pub init_array : said.init_array
      ≡ span_if (nat_lt 0 (count_in contents parts.InitArray)) (start_in (starts_of contents) parts.InitArray) (size_in (starts_of contents) parts.InitArray)
  pub fini_array : said.fini_array
      ≡ span_if (nat_lt 0 (count_in contents parts.FiniArray)) (start_in (starts_of contents) parts.FiniArray) (size_in (starts_of contents) parts.FiniArray)
  pub flags : said.flags ≡ contents.flags

-- each of these is said by the record of its index
abbrev pub AreSaidBy : {A B : Type 0} → (A → B → Type 0) → List A → List B → Type 0
AreSaidBy {A} Says records all = AreEntries (λ i x. (r : A) × (slice_get records i ≡ Some r) × Says r x) (length records) all
