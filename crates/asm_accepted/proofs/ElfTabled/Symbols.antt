-- The symbols, the null symbol first.
use Rattle.std.proofs.Common.{◌≡◌, ◌∙◌, subst, refl, ℕ, zero, suc, ◌+◌, ◌*◌, ◌<◌, List, [], ◌∷◌, length, flat_map, arith}
use Rattle.std.specs.Prelude.{Some}
use Rattle.std.specs.List.{slice_get}
use Rattle.std.proofs.lemmas.Option.{slice_get_within}
use Rattle.ld_base.specs.declared.object.Symbol.{Symbol}
use Rattle.elf_dynamic.specs.Parts.{AreSymbols, IsNameAt}
use Rattle.asm_write.specs.declared.contents.SymbolEntry.{SymbolEntry}
use Rattle.asm_write.specs.declared.starts.Starts.{Starts}
use Rattle.asm_write.specs.Fields.{record_bytes}
use Rattle.asm_write.specs.Records.{symbol_fields}
use Rattle.asm_write.specs.Values.{symbol_bytes}
use Rattle.asm_laws.specs.ElfRecords.Numbers.{AllFit}
use Rattle.asm_laws.specs.ElfRecords.Standing.{StandAt}
use Rattle.asm_laws.specs.ElfRecords.Lemmas.Records.{symbol}
use Rattle.asm_laws.specs.ElfSpelled.Said.{AreSaidBy}
use Rattle.asm_laws.specs.ElfSpelled.Lemmas.Rows.{at_index, rows}
use Rattle.asm_accepted.specs.ElfTabled.Tables.{SaysSymbol, SymbolsFit, null_entry}

module _ (starts : Starts) where
  abbrev row : SymbolEntry → List ℕ
  row entry = record_bytes (symbol_fields starts entry)

  long_row : (entry : SymbolEntry) → length (row entry) ≡ 24
  unfolding record_bytes symbol_fields
  long_row entry = refl

  null_fits : AllFit (symbol_fields starts null_entry)
  unfolding symbol_fields
  null_fits = (omega arith, (omega arith, (omega arith, (omega arith, (omega arith, (omega arith, tt))))))

  each_fits : (entries : List SymbolEntry) → SymbolsFit starts entries → (i : ℕ) (entry : SymbolEntry) → slice_get entries i ≡ Some entry → AllFit (symbol_fields starts entry)
  each_fits [] fit i entry is = absurd cc
  each_fits (x ∷ entries) (first, fit) zero entry is = let same : x ≡ entry = cc in subst (λ (e : SymbolEntry). AllFit (symbol_fields starts e)) same first
  each_fits (x ∷ entries) (first, fit) (suc i) entry is = each_fits entries fit i entry is

  whole_table : (entries : List SymbolEntry) → symbol_bytes starts entries ≡ flat_map row (null_entry ∷ entries)
  unfolding symbol_bytes record_bytes symbol_fields
  whole_table entries = refl

  stands : (entries : List SymbolEntry) (i : ℕ) (entry : SymbolEntry) → slice_get (null_entry ∷ entries) i ≡ Some entry → StandAt (symbol_bytes starts entries) (24 * i) (row entry)
  stands entries i entry is =
      rw (whole_table entries) (rows row 24 long_row (null_entry ∷ entries) i entry is)

  pub symbols_read : (entries : List SymbolEntry) (strings : List ℕ) (read : List Symbol) → SymbolsFit starts entries → AreSymbols (symbol_bytes starts entries) strings (1 + length entries) read
      → AreSaidBy (SaysSymbol starts strings) (null_entry ∷ entries) read
  symbols_read entries strings read fit are =
      let bytes = symbol_bytes starts entries in
      let count : 1 + length entries ≡ length (null_entry ∷ entries) = omega arith in
      record {
        count = are.count ∙ count;
        each = λ i r at.
            (let inside : i < length (null_entry ∷ entries) = let below = slice_get_within read i r at in let long = are.count in omega (arith, below, long, count) in
            let (entry, is) = at_index (null_entry ∷ entries) i inside in
            let (named, says) = are.each i r at in
            let (name_is, fields) = symbol bytes (24 * i) starts entry (each_fits (null_entry ∷ entries) (null_fits, fit) i entry is) (stands entries i entry is) in
            (entry, is, record { name = subst (λ n. IsNameAt strings n r.name) name_is named; fields = says ∙ fields r.name }));
      }
