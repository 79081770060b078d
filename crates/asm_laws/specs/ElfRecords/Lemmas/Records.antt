-- Record by record: each field at its place.
use Rattle.std.proofs.Common.{◌≡◌, ◌∙◌, ap, sym, refl, ℕ, ◌+◌, ◌*◌, ◌/◌, ◌%◌, ◌^◌, ◌<◌, List, [], ◌∷◌, arith, pos, slice_index}
use Rattle.std.specs.Int.{w64, cast_signed}
use Rattle.ld_base.specs.Field.{field}
use Rattle.ld_base.specs.declared.parts.Header.{Header}
use Rattle.elf_head.specs.Header.{header_at}
use Rattle.elf_head.specs.DynTable.Reloc.{reloc_at}
use Rattle.elf_head.specs.DynTable.Symbol.{symbol_name, symbol_named}
use Rattle.elf_head.specs.DynTable.Tag.{tag_at}
use Rattle.asm_write.specs.declared.contents.Fix.{Fix}
use Rattle.asm_write.specs.declared.contents.NeedRecord.{NeedRecord}
use Rattle.asm_write.specs.declared.contents.NeededVersion.{NeededVersion}
use Rattle.asm_write.specs.declared.contents.SymbolEntry.{SymbolEntry}
use Rattle.asm_write.specs.declared.contents.VersionRecord.{VersionRecord}
use Rattle.asm_write.specs.declared.entries.DynamicEntry.{DynamicEntry}
use Rattle.asm_write.specs.declared.field.Field.TheVariants.{Byte, Half, Word, Doubleword}
use Rattle.asm_write.specs.declared.starts.Starts.{Starts}
use Rattle.asm_write.specs.Fields.{record_bytes}
use Rattle.asm_write.specs.Records.{header_fields, symbol_fields, rela_fields, slot_fields, version_fields, need_fields, needed_fields, dynamic_fields}
use Rattle.asm_write.specs.Records.{section_index, symbol_value, reloc_type, target_symbol, fix_addend, told_value}
use Rattle.asm_write.specs.Starts.{address_in}
use Rattle.asm_laws.specs.ElfRecords.Numbers.{AllFit}
use Rattle.asm_laws.specs.ElfRecords.Reads.{ReadsVersion, ReadsNeed, ReadsNeeded}
use Rattle.asm_laws.specs.ElfRecords.Standing.{StandAt}
use Rattle.asm_laws.specs.ElfRecords.Lemmas.Fields.{one_read}
use Rattle.asm_laws.specs.ElfRecords.Lemmas.Standing.{field_read}

pub header : (bytes : List ℕ) (at : ℕ) (h : Header) → AllFit (header_fields h) → StandAt bytes at (record_bytes (header_fields h)) → header_at bytes at ≡ h
unfolding field record_bytes header_fields header_at
header bytes at h (kind, (flags, (offset, (vaddr, (paddr, (filesz, (memsz, (align, _)))))))) stand =
    let part = record_bytes (header_fields h) in
    let first : at ≡ at + 0 = omega arith in
    let kind_is : field 4 bytes (at + 0) ≡ h.kind = field_read 4 bytes part at 0 stand (omega arith) ∙ one_read (Word h.kind) kind in
    let flags_is : field 4 bytes (at + 4) ≡ h.flags = field_read 4 bytes part at 4 stand (omega arith) ∙ one_read (Word h.flags) flags in
    let offset_is : field 8 bytes (at + 8) ≡ h.offset = field_read 8 bytes part at 8 stand (omega arith) ∙ one_read (Doubleword h.offset) offset in
    let vaddr_is : field 8 bytes (at + 16) ≡ h.vaddr = field_read 8 bytes part at 16 stand (omega arith) ∙ one_read (Doubleword h.vaddr) vaddr in
    let filesz_is : field 8 bytes (at + 32) ≡ h.filesz = field_read 8 bytes part at 32 stand (omega arith) ∙ one_read (Doubleword h.filesz) filesz in
    let memsz_is : field 8 bytes (at + 40) ≡ h.memsz = field_read 8 bytes part at 40 stand (omega arith) ∙ one_read (Doubleword h.memsz) memsz in
    let align_is : field 8 bytes (at + 48) ≡ h.align = field_read 8 bytes part at 48 stand (omega arith) ∙ one_read (Doubleword h.align) align in
    let kind_there = ap (field 4 bytes) first ∙ kind_is in
    rw (kind_there, flags_is, offset_is, vaddr_is, filesz_is, memsz_is, align_is) refl

pub entry : (bytes : List ℕ) (at : ℕ) (starts : Starts) (e : DynamicEntry) → AllFit (dynamic_fields starts e) → StandAt bytes at (record_bytes (dynamic_fields starts e))
    → tag_at bytes at ≡ record { tag = e.tag; value = told_value starts e.told }
unfolding field record_bytes dynamic_fields tag_at
entry bytes at starts e (tag, (value, _)) stand =
    let part = record_bytes (dynamic_fields starts e) in
    let told = told_value starts e.told in
    let first : at ≡ at + 0 = omega arith in
    let tag_is : field 8 bytes (at + 0) ≡ e.tag = field_read 8 bytes part at 0 stand (omega arith) ∙ one_read (Doubleword e.tag) tag in
    let value_is : field 8 bytes (at + 8) ≡ told = field_read 8 bytes part at 8 stand (omega arith) ∙ one_read (Doubleword told) value in
    let tag_there = ap (field 8 bytes) first ∙ tag_is in
    rw (tag_there, value_is) refl

byte_is : (bytes : List ℕ) (at value : ℕ) → field 1 bytes at ≡ value → slice_index bytes at ≡ value
unfolding field
byte_is bytes at value is = omega (arith, is)

pub symbol : (bytes : List ℕ) (at : ℕ) (starts : Starts) (s : SymbolEntry) → AllFit (symbol_fields starts s) → StandAt bytes at (record_bytes (symbol_fields starts s))
    → (symbol_name bytes at ≡ s.name)
    × ((name : List ℕ) → symbol_named bytes at name
    ≡ record { name = name; info = s.info; other = s.other; shndx = section_index s.spot; value = symbol_value starts s.spot; size = s.size; version = 0 })
unfolding field record_bytes symbol_fields
symbol bytes at starts s (name, (info, (other, (section, (value, (size, _)))))) stand =
    let part = record_bytes (symbol_fields starts s) in
    let index = section_index s.spot in
    let place = symbol_value starts s.spot in
    let first : at ≡ at + 0 = omega arith in
    let name_is : field 4 bytes (at + 0) ≡ s.name = field_read 4 bytes part at 0 stand (omega arith) ∙ one_read (Word s.name) name in
    let info_field : field 1 bytes (at + 4) ≡ s.info = field_read 1 bytes part at 4 stand (omega arith) ∙ one_read (Byte s.info) info in
    let other_field : field 1 bytes (at + 5) ≡ s.other = field_read 1 bytes part at 5 stand (omega arith) ∙ one_read (Byte s.other) other in
    let section_is : field 2 bytes (at + 6) ≡ index = field_read 2 bytes part at 6 stand (omega arith) ∙ one_read (Half index) section in
    let value_is : field 8 bytes (at + 8) ≡ place = field_read 8 bytes part at 8 stand (omega arith) ∙ one_read (Doubleword place) value in
    let size_is : field 8 bytes (at + 16) ≡ s.size = field_read 8 bytes part at 16 stand (omega arith) ∙ one_read (Doubleword s.size) size in
    let info_is = byte_is bytes (at + 4) s.info info_field in
    let other_is = byte_is bytes (at + 5) s.other other_field in
    (ap (field 4 bytes) first ∙ name_is, λ own. rw (info_is, other_is, section_is, value_is, size_is) refl)

-- r_info: the type in the lower 32 bits, the symbol in the upper
info_read : (bytes : List ℕ) (at type symbol : ℕ) → type < 2 ^ 32 → symbol < 2 ^ 32 → field 4 bytes at ≡ type → field 4 bytes (at + 4) ≡ symbol
    → (field 8 bytes at % 2 ^ 32 ≡ type) × (field 8 bytes at / 2 ^ 32 ≡ symbol)
unfolding field
info_read bytes at type symbol low high type_is symbol_is =
    let places : (at + 1 + 1 + 1 + 1 ≡ at + 4) × (at + 4 + 1 ≡ at + 5) × (at + 4 + 1 + 1 ≡ at + 6) × (at + 4 + 1 + 1 + 1 ≡ at + 7) = (omega arith, omega arith, omega arith, omega arith) in
    let whole : field 8 bytes at ≡ type + 2 ^ 32 * symbol = rw (sym type_is, sym symbol_is, places.0) (omega arith) in
    (rw whole (omega arith), rw whole (omega arith))

-- the fields of a relocation: the place, the type, the symbol, the addend
pub relocation : (bytes : List ℕ) (at place type symbol addend : ℕ) (stand : StandAt bytes at (record_bytes (Doubleword place ∷ Word type ∷ Word symbol ∷ Doubleword addend ∷ [])))
    → place < 2 ^ 64 → type < 2 ^ 32 → symbol < 2 ^ 32 → addend < 2 ^ 64
    → reloc_at bytes at ≡ record { place = place; kind = type; symbol = symbol; addend = cast_signed w64 addend }
unfolding field record_bytes reloc_at
relocation bytes at place type symbol addend stand place_fits type_fits symbol_fits addend_fits =
    let part = record_bytes (Doubleword place ∷ Word type ∷ Word symbol ∷ Doubleword addend ∷ []) in
    let first : at ≡ at + 0 = omega arith in
    let place_is : field 8 bytes (at + 0) ≡ place = field_read 8 bytes part at 0 stand (omega arith) ∙ one_read (Doubleword place) place_fits in
    let type_field : field 4 bytes (at + 8) ≡ type = field_read 4 bytes part at 8 stand (omega arith) ∙ one_read (Word type) type_fits in
    let symbol_field : field 4 bytes (at + 12) ≡ symbol = field_read 4 bytes part at 12 stand (omega arith) ∙ one_read (Word symbol) symbol_fits in
    let addend_is : field 8 bytes (at + 16) ≡ addend = field_read 8 bytes part at 16 stand (omega arith) ∙ one_read (Doubleword addend) addend_fits in
    let behind : at + 8 + 4 ≡ at + 12 = omega arith in
    let info = info_read bytes (at + 8) type symbol type_fits symbol_fits type_field (ap (field 4 bytes) behind ∙ symbol_field) in
    let place_there = ap (field 8 bytes) first ∙ place_is in
    rw (place_there, info.0, info.1, addend_is) refl

pub rela : (bytes : List ℕ) (at : ℕ) (starts : Starts) (fix : Fix) → AllFit (rela_fields starts fix) → StandAt bytes at (record_bytes (rela_fields starts fix))
    → reloc_at bytes at ≡ record {
      place = address_in starts fix.spot;
      kind = reloc_type fix.kind fix.target;
      symbol = target_symbol fix.target;
      addend = cast_signed w64 (fix_addend starts fix.kind fix.target fix.addend);
    }
unfolding rela_fields
rela bytes at starts fix (place, (type, (symbol, (addend, _)))) stand =
    relocation bytes at (address_in starts fix.spot) (reloc_type fix.kind fix.target) (target_symbol fix.target) (fix_addend starts fix.kind fix.target fix.addend) stand place type symbol addend

pub slot : (bytes : List ℕ) (at place symbol : ℕ) → AllFit (slot_fields place symbol) → StandAt bytes at (record_bytes (slot_fields place symbol))
    → reloc_at bytes at ≡ record { place = place; kind = 5; symbol = symbol; addend = pos 0 }
unfolding slot_fields
slot bytes at place symbol (place_fits, (type_fits, (symbol_fits, (addend_fits, _)))) stand = relocation bytes at place 5 symbol 0 stand place_fits type_fits symbol_fits addend_fits

pub version : (bytes : List ℕ) (at : ℕ) (v : VersionRecord) → AllFit (version_fields v) → StandAt bytes at (record_bytes (version_fields v)) → ReadsVersion bytes at v
unfolding field record_bytes version_fields
version bytes at v (one, (flags, (index, (names, (hash, (aux, (next, (name, _)))))))) stand =
    let part = record_bytes (version_fields v) in
    let first : at ≡ at + 0 = omega arith in
    let one_is : field 2 bytes (at + 0) ≡ 1 = field_read 2 bytes part at 0 stand (omega arith) ∙ one_read (Half 1) one in
    let flags_is : field 2 bytes (at + 2) ≡ v.flags = field_read 2 bytes part at 2 stand (omega arith) ∙ one_read (Half v.flags) flags in
    let index_is : field 2 bytes (at + 4) ≡ v.index = field_read 2 bytes part at 4 stand (omega arith) ∙ one_read (Half v.index) index in
    let names_is : field 2 bytes (at + 6) ≡ 1 = field_read 2 bytes part at 6 stand (omega arith) ∙ one_read (Half 1) names in
    let hash_is : field 4 bytes (at + 8) ≡ v.hash = field_read 4 bytes part at 8 stand (omega arith) ∙ one_read (Word v.hash) hash in
    let aux_is : field 4 bytes (at + 12) ≡ 20 = field_read 4 bytes part at 12 stand (omega arith) ∙ one_read (Word 20) aux in
    let next_is : field 4 bytes (at + 16) ≡ v.next = field_read 4 bytes part at 16 stand (omega arith) ∙ one_read (Word v.next) next in
    let name_is : field 4 bytes (at + 20) ≡ v.name = field_read 4 bytes part at 20 stand (omega arith) ∙ one_read (Word v.name) name in
    record {
      is_one = ap (field 2 bytes) first ∙ one_is;
      flags = flags_is;
      index = index_is;
      names = names_is;
      hash = hash_is;
      aux = aux_is;
      next = next_is;
      name = name_is;
    }

pub need : (bytes : List ℕ) (at : ℕ) (n : NeedRecord) → AllFit (need_fields n) → StandAt bytes at (record_bytes (need_fields n)) → ReadsNeed bytes at n
unfolding field record_bytes need_fields
need bytes at n (one, (count, (name, (versions, (next, _))))) stand =
    let part = record_bytes (need_fields n) in
    let first : at ≡ at + 0 = omega arith in
    let one_is : field 2 bytes (at + 0) ≡ 1 = field_read 2 bytes part at 0 stand (omega arith) ∙ one_read (Half 1) one in
    let count_is : field 2 bytes (at + 2) ≡ n.count = field_read 2 bytes part at 2 stand (omega arith) ∙ one_read (Half n.count) count in
    let name_is : field 4 bytes (at + 4) ≡ n.name = field_read 4 bytes part at 4 stand (omega arith) ∙ one_read (Word n.name) name in
    let versions_is : field 4 bytes (at + 8) ≡ n.first = field_read 4 bytes part at 8 stand (omega arith) ∙ one_read (Word n.first) versions in
    let next_is : field 4 bytes (at + 12) ≡ n.next = field_read 4 bytes part at 12 stand (omega arith) ∙ one_read (Word n.next) next in
    record { is_one = ap (field 2 bytes) first ∙ one_is; count = count_is; file = name_is; first = versions_is; next = next_is }

pub needed : (bytes : List ℕ) (at : ℕ) (n : NeededVersion) → AllFit (needed_fields n) → StandAt bytes at (record_bytes (needed_fields n)) → ReadsNeeded bytes at n
unfolding field record_bytes needed_fields
needed bytes at n (hash, (flags, (index, (name, (next, _))))) stand =
    let part = record_bytes (needed_fields n) in
    let first : at ≡ at + 0 = omega arith in
    let hash_is : field 4 bytes (at + 0) ≡ n.hash = field_read 4 bytes part at 0 stand (omega arith) ∙ one_read (Word n.hash) hash in
    let flags_is : field 2 bytes (at + 4) ≡ n.flags = field_read 2 bytes part at 4 stand (omega arith) ∙ one_read (Half n.flags) flags in
    let index_is : field 2 bytes (at + 6) ≡ n.index = field_read 2 bytes part at 6 stand (omega arith) ∙ one_read (Half n.index) index in
    let name_is : field 4 bytes (at + 8) ≡ n.name = field_read 4 bytes part at 8 stand (omega arith) ∙ one_read (Word n.name) name in
    let next_is : field 4 bytes (at + 12) ≡ n.next = field_read 4 bytes part at 12 stand (omega arith) ∙ one_read (Word n.next) next in
    record { hash = ap (field 4 bytes) first ∙ hash_is; flags = flags_is; index = index_is; name = name_is; next = next_is }
