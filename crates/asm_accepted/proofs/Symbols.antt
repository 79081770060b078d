-- The symbols are those that the statements say, by their names and the rest of their entries.
use Rattle.std.proofs.Common.{◌≡◌, ◌∙◌, ap, refl, ℕ, ◌+◌, Bool, true, false, if◌then◌else◌, List, [], ◌∷◌, ◌++◌, length, map}
use Rattle.std.specs.List.{enumerate_from}
use Rattle.ld_base.specs.declared.object.Symbol.{Symbol}
use Rattle.elf_object.specs.Object.{with_version, with_versions}
use Rattle.asm_write.specs.declared.contents.SymbolEntry.{SymbolEntry}
use Rattle.asm_accepted.specs.ElfAccepted.Said.{SaysVersioned}
use Rattle.asm_accepted.specs.ElfTabled.Tables.{null_entry, said_symbol}
use Rattle.asm_statement.specs.declared.line.Line.{Line}
use Rattle.asm_layout.specs.declared.uses.Exported.{Exported}
use Rattle.asm_layout.specs.Contents.{contents_of, exports_at, imports_at, strings_of}
use Rattle.asm_layout.specs.Symbols.{export_entries, export_entry, import_entries, import_entry, sorted_exports}
use Rattle.asm_layout.specs.Uses.{imports}
use Rattle.asm_layout.specs.Versions.{has_versions}
use Rattle.asm_accepted.specs.AsmFields.Strings.{NamesStand, StandFrom}
use Rattle.asm_accepted.specs.AsmRecord.Record.{exported_symbol, null_symbol, starts_for, symbols_of, undefined_symbol}
use Rattle.asm_accepted.specs.Strings.{IsNamed}
use Rattle.asm_accepted.proofs.Named.{name_at, name_of_word}
use Rattle.asm_accepted.proofs.Pairs.{Paired, behind, joined, split}

-- a symbol's name doesn't change with its version
versions_keep : (strings : List ℕ) (versym : List ℕ) (n : ℕ) (entries : List SymbolEntry) (symbols : List Symbol) → Paired (IsNamed strings) entries symbols
    → Paired (IsNamed strings) entries (map (with_version versym) (enumerate_from n symbols))
versions_keep strings versym n [] [] named = tt
versions_keep strings versym n [] (s ∷ symbols) named = absurd named
versions_keep strings versym n (entry ∷ entries) [] named = absurd named
versions_keep strings versym n (entry ∷ entries) (s ∷ symbols) (first, named) = (first, versions_keep strings versym (n + 1) entries symbols named)

pub still_named : (strings : List ℕ) (versym : List ℕ) (entries : List SymbolEntry) (symbols : List Symbol) → Paired (IsNamed strings) entries symbols
    → Paired (IsNamed strings) entries (with_versions symbols versym)
unfolding with_versions
still_named strings versym entries symbols named = versions_keep strings versym 0 entries symbols named

module _ (lines : List Line) where
  abbrev made : SymbolEntry → List ℕ → Symbol
  made entry name = record (said_symbol (starts_for lines) entry name) { version = if has_versions lines then entry.version else 0 }

  -- a symbol says its entry, and has a string as its name
  abbrev Says : SymbolEntry → Symbol → Type 0
  Says entry said = IsNamed (strings_of lines) entry said × (said ≡ made entry said.name)

  twice : (b : Bool) (n : ℕ) → (if b then (if b then n else 0) else 0) ≡ (if b then n else 0)
  twice true n = refl
  twice false n = refl

  none : (b : Bool) → ◌≡◌ {A = ℕ} (if b then 0 else 0) 0
  none true = refl
  none false = refl

  undefined : (at : ℕ) (names : List (List ℕ)) (read : List Symbol) → Paired Says (import_entries lines at names) read → StandFrom (strings_of lines) at names
      → read ≡ map (undefined_symbol lines) names
  undefined at [] [] are stand = refl
  undefined at [] (s ∷ read) are stand = absurd are
  undefined at (name ∷ names) [] are stand = absurd are
  undefined at (name ∷ names) (s ∷ read) ((is, says), are) (stands, stand) =
      let named = name_of_word (strings_of lines) at name s.name stands is in
      let put : ℕ → Symbol = λ v. record (undefined_symbol lines name) { version = v } in
      let one : s ≡ undefined_symbol lines name = says ∙ ap (made (import_entry lines at name)) named ∙ ap put (twice (has_versions lines) _) in
      let others = undefined (at + length name + 1) names read are stand in
      behind s (undefined_symbol lines name) read (map (undefined_symbol lines) names) one others

  exported : (at : ℕ) (all : List Exported) (read : List Symbol) → Paired Says (export_entries lines at all) read
      → StandFrom (strings_of lines) at (map (λ exported. exported.name) all) → read ≡ map (exported_symbol lines) all
  exported at [] [] are stand = refl
  exported at [] (s ∷ read) are stand = absurd are
  exported at (one ∷ all) [] are stand = absurd are
  exported at (one ∷ all) (s ∷ read) ((is, says), are) (stands, stand) =
      let named = name_of_word (strings_of lines) at one.name s.name stands is in
      let put : ℕ → Symbol = λ v. record (exported_symbol lines one) { version = v } in
      let first : s ≡ exported_symbol lines one = says ∙ ap (made (export_entry lines at one)) named ∙ ap put (twice (has_versions lines) _) in
      let others = exported (at + length one.name + 1) all read are stand in
      behind s (exported_symbol lines one) read (map (exported_symbol lines) all) first others

  behind_null : (read : List Symbol)
      → Paired Says (import_entries lines (imports_at lines) (imports lines) ++ export_entries lines (exports_at lines) (sorted_exports lines)) read → NamesStand lines
      → read ≡ map (undefined_symbol lines) (imports lines) ++ map (exported_symbol lines) (sorted_exports lines)
  behind_null read are stand =
      let (one, other, whole, first, second) = split Says (import_entries lines (imports_at lines) (imports lines)) (export_entries lines (exports_at lines) (sorted_exports lines)) read are in
      let front = undefined (imports_at lines) (imports lines) one first stand.imports in
      let back = exported (exports_at lines) (sorted_exports lines) other second stand.exports in
      joined read one other (map (undefined_symbol lines) (imports lines)) (map (exported_symbol lines) (sorted_exports lines)) whole front back

  all_symbols : (read : List Symbol)
      → Paired Says (null_entry ∷ (import_entries lines (imports_at lines) (imports lines) ++ export_entries lines (exports_at lines) (sorted_exports lines))) read
      → NamesStand lines → read ≡ symbols_of lines
  all_symbols [] are stand = absurd are
  all_symbols (s ∷ read) ((is, says), are) stand =
      let named = name_at (strings_of lines) 0 0 [] s.name refl stand.nameless is in
      let put : ℕ → Symbol = λ v. record null_symbol { version = v } in
      let first : s ≡ null_symbol = says ∙ ap (made null_entry) named ∙ ap put (none (has_versions lines)) in
      let others = behind_null read are stand in
      behind s null_symbol read (map (undefined_symbol lines) (imports lines) ++ map (exported_symbol lines) (sorted_exports lines)) first others

  both : (entries : List SymbolEntry) (read : List Symbol) → Paired (SaysVersioned (contents_of lines)) entries read → Paired (IsNamed (contents_of lines).strings) entries read
      → Paired Says entries read
  unfolding contents_of
  both [] [] say named = tt
  both [] (s ∷ read) say named = absurd say
  both (entry ∷ entries) [] say named = absurd say
  both (entry ∷ entries) (s ∷ read) (says, say) (name, named) = ((name, says.fields), both entries read say named)

  pub symbols_are : (read : List Symbol) → Paired (SaysVersioned (contents_of lines)) (null_entry ∷ (contents_of lines).symbols) read
      → Paired (IsNamed (contents_of lines).strings) (null_entry ∷ (contents_of lines).symbols) read → NamesStand lines → read ≡ symbols_of lines
  unfolding contents_of
  symbols_are read say named stand = all_symbols read (both (null_entry ∷ (contents_of lines).symbols) read say named) stand
