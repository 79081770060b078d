-- The bytes of an object: those of its parts in the order of their addresses, zeros between.
use Rattle.std.specs.Prelude.{ℕ, ◌+◌, ◌-◌, ◌%◌, ◌^◌, ◌==◌, Bool, if◌then◌else◌, List, [], ◌∷◌, ◌++◌, map, filter, flat_map, fold, length, replicate}
use Rattle.std.specs.Prelude.{Option}
use Rattle.std.specs.Option.{option_map_or}
use Rattle.std.specs.Int.{w16, w32, w64, to_le_bytes}
use Rattle.ld_base.specs.declared.parts.GnuPart.{GnuPart}
use Rattle.ld_base.specs.declared.parts.SysvPart.{SysvPart}
use Rattle.asm_write.specs.declared.contents.Contents.{Contents}
use Rattle.asm_write.specs.declared.contents.Fix.{Fix}
use Rattle.asm_write.specs.declared.contents.SectionBytes.{SectionBytes}
use Rattle.asm_write.specs.declared.contents.NeedRecord.{NeedRecord}
use Rattle.asm_write.specs.declared.contents.NeededVersion.{NeededVersion}
use Rattle.asm_write.specs.declared.contents.Spot.{Spot}
use Rattle.asm_write.specs.declared.contents.SymbolEntry.{SymbolEntry}
use Rattle.asm_write.specs.declared.part.Part.{Part}
use Rattle.asm_write.specs.declared.starts.Starts.{Starts}
use Rattle.asm_write.specs.declared.part.Part.TheVariants as parts
use Rattle.asm_write.specs.Fields.{record_bytes}
use Rattle.asm_write.specs.Parts.{all_parts}
use Rattle.asm_write.specs.Records.{head_fields, header_of, header_fields, symbol_fields, rela_fields, slot_fields, file_word, version_fields}
use Rattle.asm_write.specs.Records.{need_fields, needed_fields, dynamic_fields}
use Rattle.asm_write.specs.Relr.{relr_words}
use Rattle.asm_write.specs.Sizes.{dynamic_entries, segments_of, has_listed, has_packed, stands_in}
use Rattle.asm_write.specs.Starts.{start_in, address_in, wrapped}

abbrev pub words : List ℕ → List ℕ
words numbers = flat_map (to_le_bytes w32) numbers

abbrev pub doublewords : List ℕ → List ℕ
doublewords numbers = flat_map (to_le_bytes w64) numbers

-- the headers; an object without an entry has 0 there
abbrev pub entry_of : Starts → Option Spot → ℕ
entry_of starts entry = option_map_or (address_in starts) entry 0

unfoldable pub head_bytes : Starts → Contents → List ℕ
head_bytes starts contents =
    record_bytes (head_fields contents.kind (entry_of starts contents.entry) (length (segments_of contents) % 2 ^ 16))
    ++ flat_map (λ segment. record_bytes (header_fields (header_of starts contents.sections segment))) (segments_of contents)

-- how many words there are, as a word has it
abbrev pub count_word : List ℕ → ℕ
count_word numbers = length numbers % 2 ^ 32

-- the hash tables
unfoldable pub gnu_bytes : GnuPart → List ℕ
gnu_bytes gnu = words (count_word gnu.buckets ∷ gnu.symoffset ∷ count_word gnu.bloom ∷ gnu.shift ∷ []) ++ doublewords gnu.bloom ++ words gnu.buckets
    ++ words gnu.chain

unfoldable pub sysv_bytes : SysvPart → List ℕ
sysv_bytes sysv = words (count_word sysv.buckets ∷ count_word sysv.chain ∷ []) ++ words sysv.buckets ++ words sysv.chain

-- the symbols, the null symbol first
abbrev pub null_symbol : List ℕ
null_symbol = replicate 24 0

unfoldable pub symbol_bytes : Starts → List SymbolEntry → List ℕ
symbol_bytes starts symbols = null_symbol ++ flat_map (λ symbol. record_bytes (symbol_fields starts symbol)) symbols

unfoldable pub versym_bytes : Bool → List SymbolEntry → List ℕ
versym_bytes has_versions symbols = if has_versions then 0 ∷ 0 ∷ flat_map (λ symbol. to_le_bytes w16 symbol.version) symbols else []

unfoldable pub verneed_bytes : List NeedRecord → List NeededVersion → List ℕ
verneed_bytes files versions =
    flat_map (λ need. record_bytes (need_fields need)) files ++ flat_map (λ version. record_bytes (needed_fields version)) versions

-- the relocations
abbrev pub listed_bytes : Starts → Fix → List ℕ
listed_bytes starts fix = if has_listed fix then record_bytes (rela_fields starts fix) else []

unfoldable pub rela_bytes : Starts → List Fix → List ℕ
rela_bytes starts fixes = flat_map (listed_bytes starts) fixes

abbrev pub packed_places : Starts → List Fix → List ℕ
packed_places starts fixes = map (λ fix. address_in starts fix.spot) (filter has_packed fixes)

unfoldable pub relr_bytes : Starts → List Fix → List ℕ
relr_bytes starts fixes = doublewords (relr_words (packed_places starts fixes))

abbrev pub slots_from : ℕ → List ℕ → List ℕ
slots_from place [] = []
slots_from place (symbol ∷ symbols) = record_bytes (slot_fields place symbol) ++ slots_from (wrapped (place + 8)) symbols

-- two doublewords stand before the slots
abbrev pub jmprel_bytes : Starts → List ℕ → List ℕ
jmprel_bytes starts slots = slots_from (wrapped (start_in starts parts.GotPlt + 16)) slots

-- the dynamic table
unfoldable pub dynamic_bytes : Starts → Contents → List ℕ
dynamic_bytes starts contents = flat_map (λ entry. record_bytes (dynamic_fields starts entry)) (dynamic_entries contents)

-- the words of a part that the linker fills
abbrev pub word_in : Starts → Part → Fix → List ℕ
word_in starts part fix = if stands_in part fix then to_le_bytes w64 (file_word starts fix) else []

unfoldable pub fixed_bytes : Starts → List Fix → Part → List ℕ
fixed_bytes starts fixes part = flat_map (word_in starts part) fixes

-- the slots' words: two for the linker, then the address of the table's begin for each slot
abbrev pub lazy_words : ℕ → List ℕ → List ℕ
lazy_words plt [] = []
lazy_words plt (slot ∷ slots) = to_le_bytes w64 plt ++ lazy_words plt slots

abbrev pub slot_words : ℕ → List ℕ → List ℕ
slot_words plt slots = if length slots == 0 then [] else doublewords (0 ∷ 0 ∷ []) ++ lazy_words plt slots

unfoldable pub part_bytes : Starts → Contents → SectionBytes → Part → List ℕ
part_bytes starts contents code parts.Head = head_bytes starts contents
part_bytes starts contents code parts.GnuHash = option_map_or gnu_bytes contents.gnu []
part_bytes starts contents code parts.SysvHash = option_map_or sysv_bytes contents.sysv []
part_bytes starts contents code parts.Symbols = symbol_bytes starts contents.symbols
part_bytes starts contents code parts.Strings = contents.strings
part_bytes starts contents code parts.Versym = versym_bytes contents.has_versions contents.symbols
part_bytes starts contents code parts.Verdef = flat_map (λ version. record_bytes (version_fields version)) contents.versions
part_bytes starts contents code parts.Verneed = verneed_bytes contents.files contents.needed_versions
part_bytes starts contents code parts.Rela = rela_bytes starts contents.fixes
part_bytes starts contents code parts.Relr = relr_bytes starts contents.fixes
part_bytes starts contents code parts.Jmprel = jmprel_bytes starts contents.slots
part_bytes starts contents code parts.Rodata = code.rodata
part_bytes starts contents code parts.Plt = code.plt
part_bytes starts contents code parts.Text = code.text
part_bytes starts contents code parts.Dynamic = dynamic_bytes starts contents
part_bytes starts contents code parts.Got = fixed_bytes starts contents.fixes parts.Got
part_bytes starts contents code parts.PreinitArray = fixed_bytes starts contents.fixes parts.PreinitArray
part_bytes starts contents code parts.InitArray = fixed_bytes starts contents.fixes parts.InitArray
part_bytes starts contents code parts.FiniArray = fixed_bytes starts contents.fixes parts.FiniArray
part_bytes starts contents code parts.Relro = code.relro
part_bytes starts contents code parts.Tdata = code.tdata
part_bytes starts contents code parts.Tbss = []
part_bytes starts contents code parts.GotPlt = slot_words (start_in starts parts.Plt) contents.slots
part_bytes starts contents code parts.Data = code.data
part_bytes starts contents code parts.Bss = []

-- bytes behind a file, at an offset of it; none leave it as it is
abbrev pub joined : List ℕ → ℕ → List ℕ → List ℕ
joined file offset bytes = if length bytes == 0 then file else file ++ replicate (offset - length file) 0 ++ bytes

-- a part's bytes stand as far behind the file's begin as its address is behind the first
abbrev pub join_part : Starts → Contents → SectionBytes → List ℕ → Part → List ℕ
join_part starts contents code file part = joined file (start_in starts part - start_in starts parts.Head) (part_bytes starts contents code part)

unfoldable pub object_bytes : Starts → Contents → SectionBytes → List ℕ
object_bytes starts contents code = fold (join_part starts contents code) [] all_parts
