-- The name of each symbol is a string, since its offset stands in the bytes of the table that the reader's rules are about.
use Rattle.std.proofs.Common.{◌≡◌, ◌∙◌, ap, sym, subst, refl, ℕ, zero, suc, ◌-◌, ◌*◌, Bool, List, [], ◌∷◌, length, flat_map, arith}
use Rattle.std.specs.Prelude.{Some, unwrap_or}
use Rattle.std.specs.List.{slice_get}
use Rattle.std.proofs.lemmas.Option.{slice_get_within}
use Rattle.ld_base.specs.declared.object.Span.{Span}
use Rattle.ld_base.specs.declared.parts.DynParts.{DynParts}
use Rattle.ld_base.specs.declared.parts.Tag.{Tag}
use Rattle.elf_head.specs.Readable.{file_bytes}
use Rattle.elf_head.specs.DynTable.Name.{IsStringAt}
use Rattle.elf_head.specs.DynTable.Symbol.{symbol_name}
use Rattle.elf_head.specs.DynTable.Tag.{last_of, value_of}
use Rattle.elf_head.specs.DynTable.TagNumbers.{dt_symtab}
use Rattle.elf_dynamic.specs.Breaks.{LacksSymbols}
use Rattle.elf_dynamic.specs.Parts.{IsNameAt, IsSymbolTable}
use Rattle.elf_dynamic.specs.Verdict.{SpellsDynamic, by_tables, lacks_symbols}
use Rattle.asm_write.specs.declared.contents.Contents.{Contents}
use Rattle.asm_write.specs.declared.contents.SymbolEntry.{SymbolEntry}
use Rattle.asm_write.specs.declared.part.Part.TheVariants as parts
use Rattle.asm_write.specs.declared.starts.Starts.{Starts}
use Rattle.asm_write.specs.Fields.{record_bytes}
use Rattle.asm_write.specs.Records.{symbol_fields}
use Rattle.asm_write.specs.Sizes.{segments_of, symbol_count}
use Rattle.asm_write.specs.Starts.{size_in, start_in, starts_of}
use Rattle.asm_write.specs.Values.{symbol_bytes}
use Rattle.asm_laws.specs.ElfRecords.Numbers.{AllFit}
use Rattle.asm_laws.specs.ElfRecords.Standing.{StandAt}
use Rattle.asm_laws.specs.ElfRecords.Lemmas.Records.{symbol}
use Rattle.asm_laws.specs.ElfSpelled.Said.{AreSaidBy, IsTold, said_head, said_tags}
use Rattle.asm_laws.specs.ElfSpelled.Lemmas.Bytes.{held_bytes, none_bad, table_bytes}
use Rattle.asm_laws.specs.ElfSpelled.Lemmas.Reading.{all_placed, part_read}
use Rattle.asm_laws.specs.ElfSpelled.Lemmas.Rows.{rows}
use Rattle.asm_laws.specs.ElfSpelled.Lemmas.Starting.{Apart}
use Rattle.asm_accepted.specs.ElfTabled.Tables.{SaysSymbol, SymbolsFit, null_entry}
use Rattle.asm_accepted.specs.Strings.{IsNamed}
use Rattle.asm_accepted.proofs.Naming.{symbol_string}

-- The offset of each name in the bytes of the table

module _ (starts : Starts) where
  abbrev row : SymbolEntry → List ℕ
  row entry = record_bytes (symbol_fields starts entry)

  long_row : (entry : SymbolEntry) → length (row entry) ≡ 24
  unfolding record_bytes symbol_fields
  long_row entry = refl

  whole_table : (entries : List SymbolEntry) → symbol_bytes starts entries ≡ flat_map row (null_entry ∷ entries)
  unfolding symbol_bytes record_bytes symbol_fields
  whole_table entries = refl

  null_fits : AllFit (symbol_fields starts null_entry)
  unfolding symbol_fields
  null_fits = (omega arith, (omega arith, (omega arith, (omega arith, (omega arith, (omega arith, tt))))))

  entry_fits : (entries : List SymbolEntry) → SymbolsFit starts entries → (i : ℕ) (entry : SymbolEntry) → slice_get entries i ≡ Some entry → AllFit (symbol_fields starts entry)
  entry_fits [] fit i entry is = absurd cc
  entry_fits (first ∷ entries) (fits, others) zero entry is = let same : first ≡ entry = cc in subst (λ (e : SymbolEntry). AllFit (symbol_fields starts e)) same fits
  entry_fits (first ∷ entries) (fits, others) (suc i) entry is = entry_fits entries others i entry is

  offset_at : (entries : List SymbolEntry) → SymbolsFit starts entries → (i : ℕ) (entry : SymbolEntry) → slice_get (null_entry ∷ entries) i ≡ Some entry
      → symbol_name (symbol_bytes starts entries) (24 * i) ≡ entry.name
  offset_at entries fit i entry is =
      let stands : StandAt (symbol_bytes starts entries) (24 * i) (row entry) = rw (whole_table entries) (rows row 24 long_row (null_entry ∷ entries) i entry is) in
      (symbol (symbol_bytes starts entries) (24 * i) starts entry (entry_fits (null_entry ∷ entries) (null_fits, fit) i entry is) stands).0

-- The bytes of the table, and so the names

module _ (contents : Contents) (bytes : List ℕ) (program : Bool) (said : DynParts) (same : said.tags ≡ said_tags contents) (told : IsTold contents (said_tags contents))
    (spells : SpellsDynamic bytes (said_head contents) program said) (apart : Apart) (count : length said.symbols ≡ symbol_count contents)
    (stand : StandAt bytes (start_in (starts_of contents) parts.Symbols - start_in (starts_of contents) parts.Head) (symbol_bytes (starts_of contents) contents.symbols))
    (long : length (symbol_bytes (starts_of contents) contents.symbols) ≡ size_in (starts_of contents) parts.Symbols)
    (size : size_in (starts_of contents) parts.Symbols ≡ 24 * symbol_count contents) where
  range_is : (s : Span) → IsSymbolTable said.tags (length said.symbols) s → (s.start ≡ start_in (starts_of contents) parts.Symbols) × (s.size ≡ size_in (starts_of contents) parts.Symbols)
  range_is s (start, bytes_are) = (
    start ∙ ap (λ o. unwrap_or o 0) (ap (λ (tags : List Tag). last_of tags dt_symtab) same ∙ told.symbols),
    bytes_are ∙ ap (λ n. 24 * n) count ∙ sym size,
  )

  -- a table that isn't held is refused
  is_held : ((s : Span) (r : List ℕ) → IsSymbolTable said.tags (length said.symbols) s → file_bytes bytes (said_head contents).headers s.start s.size ≡ Some r → ⊥) → ⊥
  is_held none = spells.kept 11 dt_symtab (by_tables said spells.say 11 dt_symtab (lacks_symbols (none_bad bytes (said_head contents) program said spells) (LacksSymbols.not_held (λ held.
      let (r, found) = held_bytes bytes (said_head contents).headers (value_of said.tags dt_symtab) (24 * length said.symbols) held in
      none (record { start = value_of said.tags dt_symtab; size = 24 * length said.symbols }) r (refl, refl) found))))

  table_is : spells.say.table ≡ symbol_bytes (starts_of contents) contents.symbols
  table_is =
      let start = start_in (starts_of contents) parts.Symbols in
      let part = symbol_bytes (starts_of contents) contents.symbols in
      let headers = (said_head contents).headers in
      table_bytes bytes headers (IsSymbolTable said.tags (length said.symbols)) start (size_in (starts_of contents) parts.Symbols) part spells.say.table range_is
      (λ r found. part_read bytes headers (start_in (starts_of contents) parts.Head) start (size_in (starts_of contents) parts.Symbols) part r (all_placed apart contents (segments_of contents)) stand long found)
      (λ none. absurd (is_held none)) spells.say.is_table

  pub symbols_named : spells.say.strings ≡ contents.strings → SymbolsFit (starts_of contents) contents.symbols
      → AreSaidBy (SaysSymbol (starts_of contents) contents.strings) (null_entry ∷ contents.symbols) said.symbols
      → AreSaidBy (IsNamed contents.strings) (null_entry ∷ contents.symbols) said.symbols
  symbols_named strings fit are = record {
    count = are.count;
    each = λ i s there.
        (let (entry, is, says) = are.each i s there in
        let offset : entry.name ≡ symbol_name spells.say.table (24 * i)
        = sym (offset_at (starts_of contents) contents.symbols fit i entry is) ∙ ap (λ (part : List ℕ). symbol_name part (24 * i)) (sym table_is) in
        let name = symbol_string bytes (said_head contents) program said spells i entry.name s.name (slice_get_within said.symbols i s there) offset
        (subst (λ (all : List ℕ). IsNameAt all entry.name s.name) (sym strings) says.name) in
        (entry, is, subst (λ (all : List ℕ). IsStringAt all entry.name s.name) strings name));
  }
