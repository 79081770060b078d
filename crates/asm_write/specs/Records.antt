-- The records of an object's tables, field by field (ELF-64 Object File Format 1.5; gABI; Drepper, "ELF Symbol Versioning").
use Rattle.std.specs.Prelude.{ℕ, ◌+◌, ◌-◌, ◌^◌, ◌==◌, ◌||◌, Bool, if◌then◌else◌, max, List, [], ◌∷◌, Option, Some, None, fold}
use Rattle.ld_base.specs.declared.object.Kind.{Kind}
use Rattle.ld_base.specs.declared.parts.Header.{Header}
use Rattle.ld_base.specs.declared.object.Kind.TheVariants.{Exec, Dyn}
use Rattle.asm_write.specs.declared.contents.Sections.{Sections}
use Rattle.asm_write.specs.declared.contents.Fix.{Fix}
use Rattle.asm_write.specs.declared.contents.FixKind.{FixKind}
use Rattle.asm_write.specs.declared.contents.FixKind.TheVariants as kinds
use Rattle.asm_write.specs.declared.contents.NeedRecord.{NeedRecord}
use Rattle.asm_write.specs.declared.contents.NeededVersion.{NeededVersion}
use Rattle.asm_write.specs.declared.contents.Spot.{Spot}
use Rattle.asm_write.specs.declared.contents.SymbolEntry.{SymbolEntry}
use Rattle.asm_write.specs.declared.contents.Target.{Target}
use Rattle.asm_write.specs.declared.contents.Target.TheVariants as targets
use Rattle.asm_write.specs.declared.contents.VersionRecord.{VersionRecord}
use Rattle.asm_write.specs.declared.contents.Way.{Way}
use Rattle.asm_write.specs.declared.contents.Way.TheVariants as ways
use Rattle.asm_write.specs.declared.entries.DynamicEntry.{DynamicEntry}
use Rattle.asm_write.specs.declared.entries.Told.{Told}
use Rattle.asm_write.specs.declared.entries.Told.TheVariants as tells
use Rattle.asm_write.specs.declared.entries.SegmentKind.{SegmentKind}
use Rattle.asm_write.specs.declared.entries.SegmentKind.TheVariants as segments
use Rattle.asm_write.specs.declared.field.Field.{Field}
use Rattle.asm_write.specs.declared.field.Field.TheVariants.{Byte, Half, Word, Doubleword}
use Rattle.asm_write.specs.declared.part.Part.{Part}
use Rattle.asm_write.specs.declared.starts.Starts.{Starts}
use Rattle.asm_write.specs.declared.part.Part.TheVariants as parts
use Rattle.asm_write.specs.Parts.{same_part}
use Rattle.asm_write.specs.Starts.{start_in, size_in, address_in, padding, page, wrapped}

-- the ELF header: ELFCLASS64, ELFDATA2LSB, EV_CURRENT; ET_EXEC is 2, ET_DYN 3; EM_RISCV is 243; the program headers stand behind it; no sections
abbrev pub type_of : Kind → ℕ
type_of Exec = 2
type_of Dyn = 3

unfoldable pub head_fields : Kind → ℕ → ℕ → List Field
head_fields kind entry headers =
    Byte 0x7f ∷ Byte 69 ∷ Byte 76 ∷ Byte 70 ∷ Byte 2 ∷ Byte 1 ∷ Byte 1 ∷ Byte 0 ∷ Doubleword 0
    ∷ Half (type_of kind) ∷ Half 243 ∷ Word 1 ∷ Doubleword entry ∷ Doubleword 64 ∷ Doubleword 0 ∷ Word 0
    ∷ Half 64 ∷ Half 56 ∷ Half headers ∷ Half 64 ∷ Half 0 ∷ Half 0 ∷ []

-- a thread-local place counts from where .tdata starts
abbrev pub is_tls : Part → Bool
is_tls part = same_part parts.Tdata part || same_part parts.Tbss part

abbrev pub offset_in : Starts → Spot → ℕ
offset_in starts spot = wrapped (2 ^ 64 + address_in starts spot - start_in starts parts.Tdata)

-- the value of a symbol: its address, or its offset in the thread's block; 0 where it isn't defined
abbrev pub defined_value : Starts → Spot → ℕ
defined_value starts spot = if is_tls spot.part then offset_in starts spot else address_in starts spot

abbrev pub symbol_value : Starts → Option Spot → ℕ
symbol_value starts None = 0
symbol_value starts (Some spot) = defined_value starts spot

-- SHN_UNDEF is 0; a definition stands in a section, of which this file has no headers
abbrev pub section_index : Option Spot → ℕ
section_index None = 0
section_index (Some spot) = 1

unfoldable pub symbol_fields : Starts → SymbolEntry → List Field
symbol_fields starts symbol =
    Word symbol.name ∷ Byte symbol.info ∷ Byte symbol.other ∷ Half (section_index symbol.spot)
    ∷ Doubleword (symbol_value starts symbol.spot) ∷ Doubleword symbol.size ∷ []

-- relocations: R_RISCV_64 is 2, RELATIVE 3, COPY 4, JUMP_SLOT 5, TLS_DTPMOD64 7, TLS_DTPREL64 9, TLS_TPREL64 11
abbrev pub address_type : Target → ℕ
address_type (targets.Own spot) = 3
address_type (targets.Symbol symbol) = 2

abbrev pub reloc_type : FixKind → Target → ℕ
reloc_type kinds.Address target = address_type target
reloc_type kinds.Module target = 7
reloc_type kinds.Offset target = 9
reloc_type kinds.ThreadOffset target = 11
reloc_type kinds.Copy target = 4

-- a place of the object's own goes by the null symbol
abbrev pub target_symbol : Target → ℕ
target_symbol (targets.Own spot) = 0
target_symbol (targets.Symbol symbol) = symbol

abbrev pub address_addend : Starts → Target → ℕ → ℕ
address_addend starts (targets.Own spot) addend = wrapped (address_in starts spot + addend)
address_addend starts (targets.Symbol symbol) addend = addend

abbrev pub offset_addend : Starts → Target → ℕ → ℕ
offset_addend starts (targets.Own spot) addend = wrapped (offset_in starts spot + addend)
offset_addend starts (targets.Symbol symbol) addend = addend

abbrev pub fix_addend : Starts → FixKind → Target → ℕ → ℕ
fix_addend starts kinds.Address target addend = address_addend starts target addend
fix_addend starts kinds.Module target addend = addend
fix_addend starts kinds.Offset target addend = offset_addend starts target addend
fix_addend starts kinds.ThreadOffset target addend = offset_addend starts target addend
fix_addend starts kinds.Copy target addend = addend

unfoldable pub rela_fields : Starts → Fix → List Field
rela_fields starts fix =
    Doubleword (address_in starts fix.spot) ∷ Word (reloc_type fix.kind fix.target) ∷ Word (target_symbol fix.target)
    ∷ Doubleword (fix_addend starts fix.kind fix.target fix.addend) ∷ []

-- the relocation of a slot at a place
unfoldable pub slot_fields : ℕ → ℕ → List Field
slot_fields place symbol = Doubleword place ∷ Word 5 ∷ Word symbol ∷ Doubleword 0 ∷ []

-- the word of the file at a place: the addend where no relocation has it
abbrev pub word_by : Way → ℕ → ℕ
word_by ways.Listed addend = 0
word_by ways.Packed addend = addend
word_by ways.Plain addend = addend

unfoldable pub file_word : Starts → Fix → ℕ
file_word starts fix = word_by fix.way (fix_addend starts fix.kind fix.target fix.addend)

-- the versions: vd_version is 1, vd_cnt 1, and the one name stands right behind the record
unfoldable pub version_fields : VersionRecord → List Field
version_fields version =
    Half 1 ∷ Half version.flags ∷ Half version.index ∷ Half 1 ∷ Word version.hash ∷ Word 20 ∷ Word version.next
    ∷ Word version.name ∷ Word 0 ∷ []

unfoldable pub need_fields : NeedRecord → List Field
need_fields need = Half 1 ∷ Half need.count ∷ Word need.name ∷ Word need.first ∷ Word need.next ∷ []

unfoldable pub needed_fields : NeededVersion → List Field
needed_fields version = Word version.hash ∷ Half version.flags ∷ Half version.index ∷ Word version.name ∷ Word version.next ∷ []

-- the dynamic table
abbrev pub told_value : Starts → Told → ℕ
told_value starts (tells.Number number) = number
told_value starts (tells.Start part) = start_in starts part
told_value starts (tells.Size part) = size_in starts part

unfoldable pub dynamic_fields : Starts → DynamicEntry → List Field
dynamic_fields starts entry = Doubleword entry.tag ∷ Doubleword (told_value starts entry.told) ∷ []

-- program headers: p_type PT_LOAD is 1, PT_DYNAMIC 2, PT_TLS 7, PT_GNU_RELRO 0x6474e552; p_flags PF_X is 1, PF_W 2, PF_R 4
abbrev pub header_type : SegmentKind → ℕ
header_type segments.Read = 1
header_type segments.Run = 1
header_type segments.Relocated = 1
header_type segments.Written = 1
header_type segments.Dynamic = 2
header_type segments.Tls = 7
header_type segments.Relro = 0x6474e552

abbrev pub header_flags : SegmentKind → ℕ
header_flags segments.Read = 4
header_flags segments.Run = 5
header_flags segments.Relocated = 6
header_flags segments.Written = 6
header_flags segments.Dynamic = 6
header_flags segments.Tls = 4
header_flags segments.Relro = 4

abbrev pub first_part : SegmentKind → Part
first_part segments.Read = parts.Head
first_part segments.Run = parts.Plt
first_part segments.Relocated = parts.Dynamic
first_part segments.Written = parts.GotPlt
first_part segments.Dynamic = parts.Dynamic
first_part segments.Tls = parts.Tdata
first_part segments.Relro = parts.Dynamic

-- the parts of a segment that have bytes of the file; zeros stand behind them
abbrev pub parts_with_bytes : SegmentKind → List Part
parts_with_bytes segments.Read =
    parts.Head ∷ parts.GnuHash ∷ parts.SysvHash ∷ parts.Symbols ∷ parts.Strings ∷ parts.Versym ∷ parts.Verdef ∷ parts.Verneed
    ∷ parts.Rela ∷ parts.Relr ∷ parts.Jmprel ∷ parts.Rodata ∷ []
parts_with_bytes segments.Run = parts.Plt ∷ parts.Text ∷ []
parts_with_bytes segments.Relocated =
    parts.Dynamic ∷ parts.Got ∷ parts.PreinitArray ∷ parts.InitArray ∷ parts.FiniArray ∷ parts.Relro ∷ parts.Tdata ∷ []
parts_with_bytes segments.Written = parts.GotPlt ∷ parts.Data ∷ []
parts_with_bytes segments.Dynamic = parts.Dynamic ∷ []
parts_with_bytes segments.Tls = parts.Tdata ∷ []
parts_with_bytes segments.Relro =
    parts.Dynamic ∷ parts.Got ∷ parts.PreinitArray ∷ parts.InitArray ∷ parts.FiniArray ∷ parts.Relro ∷ parts.Tdata ∷ []

-- where the last of these parts that isn't empty ends
abbrev pub end_behind : Starts → ℕ → Part → ℕ
end_behind starts end part = if size_in starts part == 0 then end else wrapped (start_in starts part + size_in starts part)

abbrev pub end_of : Starts → ℕ → List Part → ℕ
end_of starts start parts = fold (end_behind starts) start parts

abbrev pub file_end : Starts → SegmentKind → ℕ
file_end starts segment = end_of starts (start_in starts (first_part segment)) (parts_with_bytes segment)

-- how many bytes the file has: up to the last part that isn't empty
abbrev pub file_parts : List Part
file_parts =
    parts.Head ∷ parts.GnuHash ∷ parts.SysvHash ∷ parts.Symbols ∷ parts.Strings ∷ parts.Versym ∷ parts.Verdef ∷ parts.Verneed
    ∷ parts.Rela ∷ parts.Relr ∷ parts.Jmprel ∷ parts.Rodata ∷ parts.Plt ∷ parts.Text ∷ parts.Dynamic ∷ parts.Got
    ∷ parts.PreinitArray ∷ parts.InitArray ∷ parts.FiniArray ∷ parts.Relro ∷ parts.Tdata ∷ parts.GotPlt ∷ parts.Data ∷ []

unfoldable pub file_size : Starts → ℕ
file_size starts = end_of starts (start_in starts parts.Head) file_parts - start_in starts parts.Head

-- where its memory ends: .bss is of the last segment, .tbss of the block, and the pages that become read-only are whole
abbrev pub block_end : Starts → Sections → ℕ
block_end starts sections =
    wrapped (if sections.tbss.size == 0 then start_in starts parts.Tdata + sections.tdata.size
    else start_in starts parts.Tbss + sections.tbss.size)

abbrev pub page_end : ℕ → ℕ
page_end address = wrapped (address + padding address page)

abbrev pub memory_end : Starts → Sections → SegmentKind → ℕ
memory_end starts sections segments.Read = file_end starts segments.Read
memory_end starts sections segments.Run = file_end starts segments.Run
memory_end starts sections segments.Relocated = file_end starts segments.Relocated
memory_end starts sections segments.Written = end_of starts (file_end starts segments.Written) (parts.Bss ∷ [])
memory_end starts sections segments.Dynamic = file_end starts segments.Dynamic
memory_end starts sections segments.Tls = block_end starts sections
memory_end starts sections segments.Relro = page_end (file_end starts segments.Relocated)

abbrev pub header_align : Sections → SegmentKind → ℕ
header_align sections segments.Read = page
header_align sections segments.Run = page
header_align sections segments.Relocated = page
header_align sections segments.Written = page
header_align sections segments.Dynamic = 8
header_align sections segments.Tls = max sections.tdata.align sections.tbss.align
header_align sections segments.Relro = 1

-- the file has each byte as far behind its begin as the address is behind the first; p_paddr is p_vaddr
unfoldable pub header_of : Starts → Sections → SegmentKind → Header
header_of starts sections segment = let start = start_in starts (first_part segment) in record {
  kind = header_type segment;
  flags = header_flags segment;
  offset = start - start_in starts parts.Head;
  vaddr = start;
  filesz = file_end starts segment - start;
  memsz = memory_end starts sections segment - start;
  align = header_align sections segment;
}

unfoldable pub header_fields : Header → List Field
header_fields header =
    Word header.kind ∷ Word header.flags ∷ Doubleword header.offset ∷ Doubleword header.vaddr ∷ Doubleword header.vaddr
    ∷ Doubleword header.filesz ∷ Doubleword header.memsz ∷ Doubleword header.align ∷ []
