-- What the tables of an object list, and so how many bytes its parts have (ELF-64 Object File Format 1.5; gABI, "Dynamic Section").
use Rattle.std.specs.Prelude.{ℕ, ◌+◌, ◌*◌, Bool, true, false, ◌||◌, nat_lt, if◌then◌else◌, List, [], ◌∷◌, ◌++◌, map, length, count_by}
use Rattle.std.specs.Prelude.{option_map, option_to_list, is_some}
use Rattle.std.specs.Option.{option_map_or}
use Rattle.std.specs.Int.{from_bool}
use Rattle.elf_head.specs.DynTable.TagNumbers.{dt_null, dt_needed, dt_pltrelsz, dt_pltgot, dt_hash, dt_strtab, dt_symtab, dt_rela, dt_relasz, dt_relaent, dt_strsz}
use Rattle.elf_head.specs.DynTable.TagNumbers.{dt_syment, dt_soname, dt_pltrel, dt_jmprel, dt_init_array, dt_fini_array, dt_init_arraysz, dt_fini_arraysz, dt_flags}
use Rattle.elf_head.specs.DynTable.TagNumbers.{dt_preinit_array, dt_preinit_arraysz, dt_relrsz, dt_relr, dt_relrent, dt_gnu_hash, dt_versym, dt_flags_1}
use Rattle.elf_head.specs.DynTable.TagNumbers.{dt_verdef, dt_verdefnum, dt_verneed, dt_verneednum}
use Rattle.ld_base.specs.declared.object.ObjFlags.{ObjFlags}
use Rattle.ld_base.specs.declared.parts.GnuPart.{GnuPart}
use Rattle.ld_base.specs.declared.parts.SysvPart.{SysvPart}
use Rattle.asm_write.specs.declared.contents.Contents.{Contents}
use Rattle.asm_write.specs.declared.contents.Fix.{Fix}
use Rattle.asm_write.specs.declared.contents.Way.{Way}
use Rattle.asm_write.specs.declared.contents.Way.TheVariants as ways
use Rattle.asm_write.specs.declared.entries.DynamicEntry.{DynamicEntry}
use Rattle.asm_write.specs.declared.entries.Told.TheVariants as tells
use Rattle.asm_write.specs.declared.entries.SegmentKind.{SegmentKind}
use Rattle.asm_write.specs.declared.entries.SegmentKind.TheVariants as segments
use Rattle.asm_write.specs.declared.part.Part.{Part}
use Rattle.asm_write.specs.declared.part.Part.TheVariants as parts
use Rattle.asm_write.specs.Parts.{same_part}

-- the places that the linker is told of by a relocation, those that are packed, and those of a part
abbrev pub is_listed : Way → Bool
is_listed ways.Listed = true
is_listed ways.Packed = false
is_listed ways.Plain = false

abbrev pub is_packed : Way → Bool
is_packed ways.Listed = false
is_packed ways.Packed = true
is_packed ways.Plain = false

abbrev pub has_listed : Fix → Bool
has_listed fix = is_listed fix.way

abbrev pub has_packed : Fix → Bool
has_packed fix = is_packed fix.way

abbrev pub stands_in : Part → Fix → Bool
stands_in part fix = same_part part fix.spot.part

-- how many listed places there are, how many packed ones, how many in a part
abbrev pub listed_count : Contents → ℕ
listed_count contents = count_by has_listed contents.fixes

abbrev pub packed_count : Contents → ℕ
packed_count contents = count_by has_packed contents.fixes

abbrev pub count_in : Contents → Part → ℕ
count_in contents part = count_by (stands_in part) contents.fixes

-- entries of the dynamic table
abbrev pub tells_number : ℕ → ℕ → DynamicEntry
tells_number tag number = record { tag = tag; told = tells.Number number }

abbrev pub tells_start : ℕ → Part → DynamicEntry
tells_start tag part = record { tag = tag; told = tells.Start part }

abbrev pub tells_size : ℕ → Part → DynamicEntry
tells_size tag part = record { tag = tag; told = tells.Size part }

abbrev pub where_some : Bool → List DynamicEntry → List DynamicEntry
where_some true entries = entries
where_some false entries = []

-- the libraries that are needed, and the object's own name
abbrev pub name_entries : Contents → List DynamicEntry
name_entries contents = map (tells_number dt_needed) contents.needed ++ option_to_list (option_map (tells_number dt_soname) contents.soname)

-- the hash tables, the strings, the symbols
abbrev pub symbol_entries : Contents → List DynamicEntry
symbol_entries contents =
    where_some (is_some contents.gnu) (tells_start dt_gnu_hash parts.GnuHash ∷ [])
    ++ where_some (is_some contents.sysv) (tells_start dt_hash parts.SysvHash ∷ [])
    ++ tells_start dt_strtab parts.Strings ∷ tells_size dt_strsz parts.Strings ∷ tells_start dt_symtab parts.Symbols ∷ tells_number dt_syment 24 ∷ []

-- DF_SYMBOLIC is 2, DF_BIND_NOW 8; DF_1_NODELETE is 8
abbrev pub flag_entries : ObjFlags → List DynamicEntry
flag_entries flags =
    where_some (flags.symbolic || flags.bind_now) (tells_number dt_flags (2 * from_bool flags.symbolic + 8 * from_bool flags.bind_now) ∷ [])
    ++ where_some flags.nodelete (tells_number dt_flags_1 8 ∷ [])

-- an array of functions
abbrev pub array_entries : Contents → Part → ℕ → ℕ → List DynamicEntry
array_entries contents part start size = where_some (nat_lt 0 (count_in contents part)) (tells_start start part ∷ tells_size size part ∷ [])

abbrev pub arrays_entries : Contents → List DynamicEntry
arrays_entries contents =
    array_entries contents parts.PreinitArray dt_preinit_array dt_preinit_arraysz ++ array_entries contents parts.InitArray dt_init_array dt_init_arraysz
    ++ array_entries contents parts.FiniArray dt_fini_array dt_fini_arraysz

-- the relocations: those that are listed, those that are packed, those of slots, which are RELA (7) too
abbrev pub reloc_entries : Contents → List DynamicEntry
reloc_entries contents =
    where_some (nat_lt 0 (listed_count contents)) (tells_start dt_rela parts.Rela ∷ tells_size dt_relasz parts.Rela ∷ tells_number dt_relaent 24 ∷ [])
    ++ where_some (nat_lt 0 (packed_count contents)) (tells_start dt_relr parts.Relr ∷ tells_size dt_relrsz parts.Relr ∷ tells_number dt_relrent 8 ∷ [])
    ++ where_some (nat_lt 0 (length contents.slots))
    (tells_start dt_jmprel parts.Jmprel ∷ tells_size dt_pltrelsz parts.Jmprel ∷ tells_number dt_pltrel 7 ∷ tells_start dt_pltgot parts.GotPlt ∷ [])

-- the versions
abbrev pub version_entries : Contents → List DynamicEntry
version_entries contents =
    where_some contents.has_versions (tells_start dt_versym parts.Versym ∷ [])
    ++ where_some (nat_lt 0 (length contents.versions)) (tells_start dt_verdef parts.Verdef ∷ tells_number dt_verdefnum (length contents.versions) ∷ [])
    ++ where_some (nat_lt 0 (length contents.files)) (tells_start dt_verneed parts.Verneed ∷ tells_number dt_verneednum (length contents.files) ∷ [])

-- the dynamic table, with the entry that ends it
unfoldable pub dynamic_entries : Contents → List DynamicEntry
dynamic_entries contents =
    name_entries contents ++ symbol_entries contents ++ flag_entries contents.flags ++ arrays_entries contents ++ reloc_entries contents
    ++ version_entries contents ++ tells_number dt_null 0 ∷ []

-- sizes

abbrev pub gnu_size : GnuPart → ℕ
gnu_size gnu = 16 + 8 * length gnu.bloom + 4 * length gnu.buckets + 4 * length gnu.chain

abbrev pub sysv_size : SysvPart → ℕ
sysv_size sysv = 8 + 4 * length sysv.buckets + 4 * length sysv.chain

-- the null symbol stands before the others
abbrev pub symbol_count : Contents → ℕ
symbol_count contents = 1 + length contents.symbols

abbrev pub versym_size : Contents → ℕ
versym_size contents = if contents.has_versions then 2 * symbol_count contents else 0

-- the procedure linkage table and its words: the first 32 bytes, and two doublewords, stand where a slot does
abbrev pub plt_size : ℕ → ℕ
plt_size slots = if nat_lt 0 slots then 32 + 16 * slots else 0

abbrev pub got_plt_size : ℕ → ℕ
got_plt_size slots = if nat_lt 0 slots then 16 + 8 * slots else 0

-- what the program headers are about: a segment is left out where it is empty; the first always has the headers, the third the dynamic table
abbrev pub segment_if : Bool → SegmentKind → List SegmentKind
segment_if true segment = segment ∷ []
segment_if false segment = []

abbrev pub has_run : Contents → Bool
has_run contents = nat_lt 0 (length contents.slots) || nat_lt 0 contents.sections.text.size

abbrev pub has_written : Contents → Bool
has_written contents = nat_lt 0 (length contents.slots) || nat_lt 0 contents.sections.data.size || nat_lt 0 contents.sections.bss.size

abbrev pub has_tls : Contents → Bool
has_tls contents = nat_lt 0 contents.sections.tdata.size || nat_lt 0 contents.sections.tbss.size

unfoldable pub segments_of : Contents → List SegmentKind
segments_of contents =
    (segments.Read ∷ []) ++ segment_if (has_run contents) segments.Run ++ (segments.Relocated ∷ []) ++ segment_if (has_written contents) segments.Written
    ++ (segments.Dynamic ∷ []) ++ segment_if (has_tls contents) segments.Tls ++ (segments.Relro ∷ [])

-- how many bytes a part has, but for the packed relocations; .tbss takes no room
unfoldable pub plain_size : Contents → Part → ℕ
plain_size contents parts.Head = 64 + 56 * length (segments_of contents)
plain_size contents parts.GnuHash = option_map_or gnu_size contents.gnu 0
plain_size contents parts.SysvHash = option_map_or sysv_size contents.sysv 0
plain_size contents parts.Symbols = 24 * symbol_count contents
plain_size contents parts.Strings = length contents.strings
plain_size contents parts.Versym = versym_size contents
plain_size contents parts.Verdef = 28 * length contents.versions
plain_size contents parts.Verneed = 16 * length contents.files + 16 * length contents.needed_versions
plain_size contents parts.Rela = 24 * listed_count contents
plain_size contents parts.Relr = 0
plain_size contents parts.Jmprel = 24 * length contents.slots
plain_size contents parts.Rodata = contents.sections.rodata.size
plain_size contents parts.Plt = plt_size (length contents.slots)
plain_size contents parts.Text = contents.sections.text.size
plain_size contents parts.Dynamic = 16 * length (dynamic_entries contents)
plain_size contents parts.Got = 8 * count_in contents parts.Got
plain_size contents parts.PreinitArray = 8 * count_in contents parts.PreinitArray
plain_size contents parts.InitArray = 8 * count_in contents parts.InitArray
plain_size contents parts.FiniArray = 8 * count_in contents parts.FiniArray
plain_size contents parts.Relro = contents.sections.relro.size
plain_size contents parts.Tdata = contents.sections.tdata.size
plain_size contents parts.Tbss = 0
plain_size contents parts.GotPlt = got_plt_size (length contents.slots)
plain_size contents parts.Data = contents.sections.data.size
plain_size contents parts.Bss = contents.sections.bss.size
