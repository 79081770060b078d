-- The object that an accepted file is, by what it was made of.
use Rattle.std.specs.Prelude.{◌≡◌, ℕ, nat_lt, if◌then◌else◌, ◌∷◌, length, Option, Some, None}
use Rattle.std.specs.Option.{option_map_or}
use Rattle.ld_base.specs.declared.object.Object.{Object}
use Rattle.ld_base.specs.declared.object.Span.{Span}
use Rattle.ld_base.specs.declared.object.Symbol.{Symbol}
use Rattle.ld_base.specs.declared.object.TlsSeg.{TlsSeg}
use Rattle.ld_base.specs.declared.parts.Header.{Header}
use Rattle.elf_dynamic.specs.Parts.{AreNamesAt, IsNameAt, IsNameOf}
use Rattle.elf_object.specs.Segments.{segments_of}
use Rattle.asm_write.specs.declared.contents.Contents.{Contents}
use Rattle.asm_write.specs.declared.contents.SectionBytes.{SectionBytes}
use Rattle.asm_write.specs.declared.contents.SymbolEntry.{SymbolEntry}
use Rattle.asm_write.specs.declared.entries.SegmentKind.{SegmentKind}
use Rattle.asm_write.specs.declared.entries.SegmentKind.TheVariants as segments
use Rattle.asm_write.specs.declared.part.Part.{Part}
use Rattle.asm_write.specs.declared.part.Part.TheVariants as parts
use Rattle.asm_write.specs.Records.{header_of}
use Rattle.asm_write.specs.Sizes.{count_in, has_tls}
use Rattle.asm_write.specs.Starts.{size_in, start_in, starts_of}
use Rattle.asm_write.specs.Values.{entry_of, object_bytes, packed_places}
use Rattle.asm_laws.specs.ElfSpelled.Said.{AreSaidBy, said_head, span_if, told_if}
use Rattle.asm_accepted.specs.ElfTabled.Tables.{null_entry, said_relocs, said_slots, said_symbol}
use Rattle.asm_accepted.specs.ElfVersioned.Said.{SaysDefined, SaysNeeded, with_files}

-- the program header of a kind
abbrev pub header_in : Contents → SegmentKind → Header
header_in contents kind = header_of (starts_of contents) contents.sections kind

-- what each thread's block is made from, the range that is read-only once it is relocated, an array of functions
abbrev pub said_tls : Contents → Option TlsSeg
said_tls contents = let h = header_in contents segments.Tls in
    if has_tls contents then Some (record { vaddr = h.vaddr; filesz = h.filesz; memsz = h.memsz; align = h.align }) else None

abbrev pub said_relro : Contents → Span
said_relro contents = let h = header_in contents segments.Relro in record { start = h.vaddr; size = h.memsz }

abbrev pub said_array : Contents → Part → Option Span
said_array contents part = span_if (nat_lt 0 (count_in contents part)) (start_in (starts_of contents) part) (size_in (starts_of contents) part)

-- a symbol with its version, 0 where there are none
abbrev pub version_of : Contents → SymbolEntry → ℕ
version_of contents entry = if contents.has_versions then entry.version else 0

pub record SaysVersioned (contents : Contents) (entry : SymbolEntry) (said : Symbol) : Type 0 where
  pub name : IsNameAt contents.strings entry.name said.name
  pub fields : said ≡ record (said_symbol (starts_of contents) entry said.name) { version = version_of contents entry }

-- field by field
pub record SaysObject (contents : Contents) (code : SectionBytes) (o : Object) : Type 0 where
  pub kind : o.kind ≡ contents.kind
  pub entry : o.entry ≡ entry_of (starts_of contents) contents.entry
  pub soname : IsNameOf contents.strings contents.soname o.soname
  pub needed : AreNamesAt contents.strings contents.needed o.needed
  pub segments : o.segments ≡ segments_of (object_bytes (starts_of contents) contents code) (said_head contents).headers
  pub symbols : AreSaidBy (SaysVersioned contents) (null_entry ∷ contents.symbols) o.symbols
  pub first_exported : o.first_exported ≡ option_map_or (λ g. g.symoffset) contents.gnu 1
  pub has_versym : o.has_versym ≡ contents.has_versions
  pub verdefs : AreSaidBy (SaysDefined contents.strings) contents.versions o.verdefs
  pub verneeds : AreSaidBy (SaysNeeded contents.strings) (with_files contents.files contents.needed_versions) o.verneeds
  pub relocs : o.relocs ≡ said_relocs contents
  pub plt_relocs : o.plt_relocs ≡ said_slots contents
  pub pltgot : o.pltgot ≡ told_if (nat_lt 0 (length contents.slots)) (start_in (starts_of contents) parts.GotPlt)
  pub preinit : o.preinit ≡ said_array contents parts.PreinitArray
  pub init : o.init ≡ None
  pub init_array : o.init_array ≡ said_array contents parts.InitArray
  pub fini : o.fini ≡ None
  pub fini_array : o.fini_array ≡ said_array contents parts.FiniArray
  pub tls : o.tls ≡ said_tls contents
  pub relro : o.relro ≡ Some (said_relro contents)
  pub flags : o.flags ≡ contents.flags
  pub relr : o.relr ≡ packed_places (starts_of contents) contents.fixes
  pub dynamic : o.dynamic ≡ start_in (starts_of contents) parts.Dynamic
