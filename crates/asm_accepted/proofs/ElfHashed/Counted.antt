-- How many symbols there are, and each of them.
use Rattle.std.proofs.Common.{◌≡◌, ◌∙◌, ap, sym, subst, refl, ℕ, ◌+◌, ◌-◌, ◌*◌, ◌<◌, Bool, is_some, List, [], ◌∷◌, ◌++◌, length, map, filter, arith, inl, inr, ◌⊎◌}
use Rattle.std.specs.Prelude.{Some, None, Option, unwrap_or}
use Rattle.std.specs.List.{slice_get}
use Rattle.std.specs.Option.{option_map_or}
use Rattle.ld_base.specs.declared.object.Reloc.{Reloc}
use Rattle.ld_base.specs.declared.object.Span.{Span}
use Rattle.ld_base.specs.declared.object.Symbol.{Symbol}
use Rattle.ld_base.specs.declared.parts.DynParts.{DynParts}
use Rattle.ld_base.specs.declared.parts.GnuPart.{GnuPart}
use Rattle.ld_base.specs.declared.parts.HashTable.{HashTable}
use Rattle.ld_base.specs.declared.parts.SysvPart.{SysvPart}
use Rattle.ld_base.specs.declared.parts.Tag.{Tag}
use Rattle.elf_head.specs.Readable.{file_bytes}
use Rattle.elf_head.specs.DynTable.HashWords.{hash_words}
use Rattle.elf_head.specs.DynTable.Tag.{last_of, value_of}
use Rattle.elf_head.specs.DynTable.TagNumbers.{dt_gnu_hash, dt_hash, dt_symtab}
use Rattle.elf_dynamic.specs.Breaks.{LacksSymbols, no_hash}
use Rattle.elf_dynamic.specs.Parts.{AreSymbols, HasRoom, IsCount, IsFirstExported, IsSymbolTable}
use Rattle.elf_dynamic.specs.Verdict.{SpellsDynamic, by_tables, lacks_symbols}
use Rattle.asm_write.specs.declared.contents.Contents.{Contents}
use Rattle.asm_write.specs.declared.contents.Fix.{Fix}
use Rattle.asm_write.specs.declared.part.Part.TheVariants as parts
use Rattle.asm_write.specs.declared.starts.Starts.{Starts}
use Rattle.asm_write.specs.Records.{target_symbol}
use Rattle.asm_write.specs.Sizes.{has_listed, segments_of, symbol_count}
use Rattle.asm_write.specs.Starts.{size_in, start_in, starts_of, wrapped}
use Rattle.asm_write.specs.Values.{symbol_bytes}
use Rattle.asm_laws.specs.ElfRecords.Standing.{StandAt}
use Rattle.asm_laws.specs.ElfSpelled.Said.{AllBelow, AreSaidBy, IsTold, said_head, said_tags, told_if}
use Rattle.asm_laws.specs.ElfSpelled.Lemmas.Bytes.{held_bytes, none_bad, table_bytes}
use Rattle.asm_laws.specs.ElfSpelled.Lemmas.Reading.{all_placed, part_read}
use Rattle.asm_laws.specs.ElfSpelled.Lemmas.Rows.{below_at, get-map}
use Rattle.asm_laws.specs.ElfSpelled.Lemmas.Starting.{Apart}
use Rattle.asm_accepted.specs.ElfTabled.Tables.{SaysSymbol, null_entry, said_reloc, said_relocs, said_slots, slots_at}
use Rattle.asm_accepted.specs.ElfHashed.Hashes.{CountsSymbols}
use Rattle.asm_accepted.specs.ElfHashed.Said.{SaysSymbols, said_tables}

abbrev names : List Reloc → List ℕ
names relocs = map (λ r. r.symbol) relocs

-- what relocations and slots name

both_below : (bound : ℕ) (xs ys : List Reloc) → AllBelow bound (names xs) → AllBelow bound (names ys) → AllBelow bound (names (xs ++ ys))
both_below bound [] ys one other = other
both_below bound (x ∷ xs) ys (first, one) other = (first, both_below bound xs ys one other)

relocs_below : (bound : ℕ) (starts : Starts) (fixes : List Fix) → AllBelow bound (map (λ fix. target_symbol fix.target) fixes) → AllBelow bound (names (map (said_reloc starts) fixes))
relocs_below bound starts [] all = tt
relocs_below bound starts (fix ∷ fixes) (first, all) = (first, relocs_below bound starts fixes all)

slots_below : (bound place : ℕ) (symbols : List ℕ) → AllBelow bound symbols → AllBelow bound (names (slots_at place symbols))
slots_below bound place [] all = tt
slots_below bound place (symbol ∷ symbols) (first, all) = (first, slots_below bound (wrapped (place + 8)) symbols all)

named_below : (contents : Contents) → CountsSymbols contents → (i : ℕ) (r : Reloc) → slice_get (said_relocs contents ++ said_slots contents) i ≡ Some r → r.symbol < symbol_count contents
named_below contents counts i r is =
    let relocs = relocs_below (symbol_count contents) (starts_of contents) (filter has_listed contents.fixes) counts.relocs in
    let slots = slots_below (symbol_count contents) (wrapped (start_in (starts_of contents) parts.GotPlt + 16)) contents.slots counts.slots in
    below_at (symbol_count contents) (names (said_relocs contents ++ said_slots contents)) (both_below (symbol_count contents) (said_relocs contents) (said_slots contents) relocs slots) i r.symbol
    (get-map (λ (r : Reloc). r.symbol) (said_relocs contents ++ said_slots contents) i r is)

some_gnu : (o : Option GnuPart) → ((g : GnuPart) × (o ≡ Some g)) ⊎ (o ≡ None)
some_gnu None = inr refl
some_gnu (Some g) = inl (g, refl)

module _ (contents : Contents) (counts : CountsSymbols contents) (least_hash : contents.sysv ≡ None → contents.gnu ≡ None → ⊥) where
  room : HasRoom (said_tables contents) (said_relocs contents ++ said_slots contents) (symbol_count contents)
  room = record {
    gnu = λ g is. (let all = counts.gnu g is in omega (arith, all));
    named = named_below contents counts;
  }

  pub count_is : (count : ℕ) → IsCount (said_tables contents) (said_relocs contents ++ said_slots contents) count → count ≡ symbol_count contents
  count_is count (IsCount.by_chain s is long) = long ∙ counts.sysv s is
  count_is count (IsCount.by_room no_sysv has least) = elim (some_gnu contents.gnu) as (λ _. count ≡ symbol_count contents) [
    | inl some ↦
        let all = counts.gnu some.0 some.1 in
        let above = has.gnu some.0 some.1 in
        let below = least (symbol_count contents) room in
        omega (arith, all, above, below)
    | inr no_gnu ↦ absurd (least_hash no_sysv no_gnu)
  ]

first_is : (contents : Contents) (first : ℕ) → IsFirstExported (said_tables contents) first → first ≡ option_map_or (λ g. g.symoffset) contents.gnu 1
first_is contents first (IsFirstExported.by_gnu g is at) = at ∙ sym (ap (λ o. option_map_or (λ (g : GnuPart). g.symoffset) o 1) is)
first_is contents first (IsFirstExported.after_null none at) = at ∙ sym (ap (λ o. option_map_or (λ (g : GnuPart). g.symoffset) o 1) none)

module _ (contents : Contents) (bytes : List ℕ) (program : Bool) (said : DynParts) (same : said.tags ≡ said_tags contents) (table : IsTold contents (said_tags contents))
    (tables : hash_words bytes (said_head contents).headers (said_tags contents) ≡ said_tables contents) (spells : SpellsDynamic bytes (said_head contents) program said) where
  at : (tag : ℕ) → last_of said.tags tag ≡ last_of (said_tags contents) tag
  at tag = ap (λ (tags : List Tag). last_of tags tag) same

  hashes_are : hash_words bytes (said_head contents).headers said.tags ≡ said_tables contents
  hashes_are = ap (λ (tags : List Tag). hash_words bytes (said_head contents).headers tags) same ∙ tables

  -- it has a hash table
  some_hash : contents.sysv ≡ None → contents.gnu ≡ None → ⊥
  some_hash no_sysv no_gnu =
      none_bad bytes (said_head contents) program said spells dt_hash (no_hash
      (at dt_hash ∙ table.hash ∙ ap (λ (o : Option SysvPart). told_if (is_some o) (start_in (starts_of contents) parts.SysvHash)) no_sysv)
      (at dt_gnu_hash ∙ table.gnu_hash ∙ ap (λ (o : Option GnuPart). told_if (is_some o) (start_in (starts_of contents) parts.GnuHash)) no_gnu))

  pub counted : CountsSymbols contents → said.relocs ≡ said_relocs contents → said.plt_relocs ≡ said_slots contents → length said.symbols ≡ symbol_count contents
  counted counts relocs slots =
      let of_relocs : said.relocs ++ said.plt_relocs ≡ said_relocs contents ++ said_slots contents
      = ap (λ (all : List Reloc). all ++ said.plt_relocs) relocs ∙ ap (λ (all : List Reloc). said_relocs contents ++ all) slots in
      count_is contents counts some_hash (length said.symbols)
      (subst (λ (t : HashTable). IsCount t (said_relocs contents ++ said_slots contents) (length said.symbols)) hashes_are
      (subst (λ (all : List Reloc). IsCount (hash_words bytes (said_head contents).headers said.tags) all (length said.symbols)) of_relocs spells.say.count))

  module _ (apart : Apart) (count : length said.symbols ≡ symbol_count contents)
      (strings : spells.say.strings ≡ contents.strings)
      (stand : StandAt bytes (start_in (starts_of contents) parts.Symbols - start_in (starts_of contents) parts.Head) (symbol_bytes (starts_of contents) contents.symbols))
      (long : length (symbol_bytes (starts_of contents) contents.symbols) ≡ size_in (starts_of contents) parts.Symbols)
      (size : size_in (starts_of contents) parts.Symbols ≡ 24 * symbol_count contents) where
    range_is : (s : Span) → IsSymbolTable said.tags (length said.symbols) s → (s.start ≡ start_in (starts_of contents) parts.Symbols) × (s.size ≡ size_in (starts_of contents) parts.Symbols)
    range_is s (start, bytes_are) = (
      start ∙ ap (λ o. unwrap_or o 0) (at dt_symtab ∙ table.symbols),
      bytes_are ∙ ap (λ n. 24 * n) count ∙ sym size,
    )

    table_is : spells.say.table ≡ symbol_bytes (starts_of contents) contents.symbols
    table_is =
        let starts = starts_of contents in
        let headers = (said_head contents).headers in
        let part = symbol_bytes starts contents.symbols in
        let read : (r : List ℕ) → file_bytes bytes headers (start_in starts parts.Symbols) (size_in starts parts.Symbols) ≡ Some r → r ≡ part
        = λ r found. part_read bytes headers (start_in starts parts.Head) (start_in starts parts.Symbols) (size_in starts parts.Symbols) part r (all_placed apart contents (segments_of contents)) stand long found in
        table_bytes bytes headers (IsSymbolTable said.tags (length said.symbols)) (start_in starts parts.Symbols) (size_in starts parts.Symbols) part spells.say.table range_is read
        (λ none. absurd (spells.kept 11 dt_symtab (by_tables said spells.say 11 dt_symtab (lacks_symbols (none_bad bytes (said_head contents) program said spells) (LacksSymbols.not_held (λ held.
        let (r, found) = held_bytes bytes headers (value_of said.tags dt_symtab) (24 * length said.symbols) held in
        none (record { start = value_of said.tags dt_symtab; size = 24 * length said.symbols }) r (refl, refl) found)))))) spells.say.is_table

    pub symbols_are : ((read : List Symbol) → AreSymbols (symbol_bytes (starts_of contents) contents.symbols) contents.strings (symbol_count contents) read
        → AreSaidBy (SaysSymbol (starts_of contents) contents.strings) (null_entry ∷ contents.symbols) read) → SaysSymbols contents said
    symbols_are each =
        let of_table = subst (λ (part : List ℕ). AreSymbols part spells.say.strings (length said.symbols) said.symbols) table_is spells.say.symbols in
        let of_strings = subst (λ (all : List ℕ). AreSymbols (symbol_bytes (starts_of contents) contents.symbols) all (length said.symbols) said.symbols) strings of_table in
        record {
          symbols = each said.symbols (subst (λ n. AreSymbols (symbol_bytes (starts_of contents) contents.symbols) contents.strings n said.symbols) count of_strings);
          first_exported = first_is contents said.first_exported (subst (λ (t : HashTable). IsFirstExported t said.first_exported) hashes_are spells.say.first_exported);
        }
