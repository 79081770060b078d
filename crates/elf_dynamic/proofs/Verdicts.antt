-- The verdict on the dynamic table and its tables, the relations that say what it means, and what it keeps.
use Rattle.std.proofs.Common.{◌≡◌, ◌∙◌, ap, refl, ℕ, zero, suc, ◌+◌, Bool, Option, List, [], ◌∷◌, ◌++◌, ◌↔◌, ◌<◌, length, Some, None, Ok, Err}
use Rattle.std.proofs.Common.{sym, subst, arith, inl, inr}
use Rattle.ld_base.specs.declared.object.Span.{Span}
use Rattle.elf_dynamic.specs.Named.{named_by, slot_ranges, doubleword}
use Rattle.std.specs.List.{slice_get}
use Rattle.std.specs.Option.{option_map_or}
use Rattle.ld_base.specs.declared.object.Reloc.{Reloc}
use Rattle.ld_base.specs.declared.object.Symbol.{Symbol}
use Rattle.ld_base.specs.declared.parts.Head.{Head}
use Rattle.ld_base.specs.declared.parts.Tag.{Tag}
use Rattle.elf_head.specs.DynTable.Name.{string_at, IsStringAt}
use Rattle.elf_dynamic.specs.Rules.{bad_reloc as reloc_rule, bad_slot as slot_rule, bad_symbol as symbol_rule}
use Rattle.elf_dynamic.specs.Rules.{refused_feature as feature_rule, dynamic_verdict, no_dynamic, rules_of, tables_verdict}
use Rattle.elf_dynamic.specs.Rules.{bad_string as string_rule, bad_table as table_rule}
use Rattle.ld_base.specs.declared.fault.NotAccepted.{NotAccepted}
use Rattle.ld_base.specs.declared.parts.DynParts.{DynParts}
use Rattle.elf_head.specs.AcceptancePart.Lemmas.Firsts.{accepts, refuses, Breaking, Listed}
use Rattle.elf_head.specs.DynTable.HashWords.{hash_words}
use Rattle.elf_head.specs.DynTable.Tag.{tags_of, EndsAtNull}
use Rattle.elf_head.specs.DynTable.TagNumbers.{dt_symtab, dt_jmprel}
use Rattle.elf_dynamic.specs.Breaks.{named, IsBadReloc, IsBadRelocAt, IsBadSlot, IsBadSlotAt, IsSlotTable}
use Rattle.elf_dynamic.specs.Parts.{AreParts, AreTags, AreBytes}
use Rattle.elf_dynamic.specs.Relr.{begins_odd}
use Rattle.elf_dynamic.specs.Tables.{dynamic_tags, parts_in, symbols_of}
use Rattle.elf_dynamic.specs.Verdict.{Breaks, BreaksFirst, SpellsDynamic, TablesBreak}
use Rattle.elf_dynamic.specs.Verdict.Breaks.{no_table, by_tables}
use Rattle.elf_dynamic.specs.Verdict.TablesBreak.{bad_table, lacks_symbols, bad_name, bad_symbol_name, bad_symbol, bad_reloc, has_feature, bad_slot}
use Rattle.elf_dynamic.proofs.BadNames.{string_first}
use Rattle.elf_dynamic.proofs.Reasons.{table_first, feature_finds, slots_decides}
use Rattle.elf_head.specs.AcceptancePart.Lemmas.Finds.{finds_is, same_some, never}
use Rattle.elf_dynamic.proofs.ReadParts.{read, say_in, tags_are, Reads}
use Rattle.elf_dynamic.proofs.Relocs.{reloc_finds, symbol_finds, slot_finds, get_both, get_map, code_decides, table_decides}
use Rattle.std.proofs.lemmas.Bool.Decides.{nat_tests}
use Rattle.std.proofs.lemmas.Option.{slice_get_within}
use Rattle.ld_base.specs.declared.parts.Header.{Header}
use Rattle.elf_dynamic.specs.Breaks.HasFeature.{open_segment}
use Rattle.elf_dynamic.specs.Breaks.IsBadReloc.{no_symbol, is_slot, copies_null, copies_outside, no_place}
use Rattle.elf_dynamic.specs.Breaks.IsBadRelocAt.{by_itself, bad_place, named_twice}
use Rattle.elf_dynamic.specs.Breaks.IsBadSlot.{other_type, of_null, no_symbol as slot_no_symbol, no_place as slot_no_place, no_code, named_by_other}
use Rattle.elf_dynamic.specs.Breaks.IsBadSlot.{named_by_slot}
use Rattle.elf_dynamic.specs.Breaks.IsBadSlotAt.{bad_slot as bad_at, bad_table as bad_head}
use Rattle.elf_dynamic.specs.Breaks.IsBadTable.{bad_slots}
use Rattle.elf_dynamic.specs.Keeps.{all_named, IsReloc, IsSlot, Keeps}
use Rattle.elf_dynamic.specs.Parts.AreBytes.{held, missing}
use Rattle.elf_dynamic.specs.Ranges.{IsPlace, Share}
use Rattle.elf_head.specs.AcceptancePart.Lemmas.Tests.{decided}
use Rattle.elf_dynamic.proofs.Tests.{turn, writable_decides}

-- ---- the verdict on the dynamic table and its tables, and the relations that say what it means

module _ (tags_law : (bytes : List ℕ) (tags : List Tag) → (tags_of bytes ≡ Some tags) ↔ EndsAtNull bytes tags)
    (string : (strings name : List ℕ) (offset : ℕ) → (string_at strings offset ≡ Some name) ↔ IsStringAt strings offset name)
    (bytes : List ℕ) (head : Head) (program : Bool) where
  -- ---- the rules of tables that say these parts

  module _ (parts : DynParts) (say : AreParts bytes head.headers parts) where
    own : Reads tags_law string bytes head.headers parts say.strings say.table say.words
    own = read tags_law string bytes head.headers parts say

    -- the rules in the words of the parts
    abbrev said : List (Option ℕ)
    said =
        table_rule head.headers parts.tags (hash_words bytes head.headers parts.tags) (length parts.symbols)
        ∷ string_rule say.strings parts.tags say.table (length parts.symbols)
        ∷ symbol_rule head.headers parts.symbols
        ∷ reloc_rule head.headers parts.symbols parts.relocs (begins_odd say.words) parts.relr
        ∷ feature_rule head program parts.tags parts.symbols (parts.relocs ++ parts.plt_relocs)
        ∷ slot_rule bytes head.headers parts.symbols (named parts.symbols parts.relocs parts.relr) parts.plt_relocs parts.pltgot
        ∷ []

    symbols_are : parts.symbols ≡ symbols_of bytes head.headers parts.tags
    unfolding parts_in
    symbols_are = ap (λ (p : DynParts). p.symbols) own.is

    are_said : rules_of bytes head program parts.tags ≡ said
    are_said =
        rw (← symbols_are, ← own.count, ← own.strings_is, ← own.table_is, ← own.places, ← own.words_are, ← own.relocs, ← own.slots, ← say.pltgot) refl

    -- a rule that is broken has its number in the list of rules
    place_of : (rule number : ℕ) → TablesBreak bytes head program parts say rule number → (i : ℕ) × (rule ≡ 11 + i) × (slice_get said i ≡ Some (Some number))
    place_of rule number (bad_table tag first) = (0, refl, ap Some ((table_first _ _ _ _ tag).1 (inl first)))
    place_of rule number (lacks_symbols never lacking) = (0, refl, ap Some ((table_first _ _ _ _ dt_symtab).1 (inr (never, (lacking, refl)))))
    place_of rule number (bad_name k offset first lacks) = (1, refl, ap Some ((string_first string _ _ _ _ offset).1 (inl (k, first, lacks))))
    place_of rule number (bad_symbol_name never symbol offset first lacks) =
        (1, refl, ap Some ((string_first string _ _ _ _ offset).1 (inr (never, (symbol, first, lacks)))))
    place_of rule number (bad_symbol symbol first) = (2, refl, ap Some ((finds_is _ _ symbol (symbol_finds _ _)).1 first))
    place_of rule number (bad_reloc index first) = (3, refl, ap Some ((finds_is _ _ index (reloc_finds _ _ _ _ _)).1 first))
    place_of rule number (has_feature feature first) = (4, refl, ap Some ((finds_is _ _ feature (feature_finds _ _ _ _ _)).1 first))
    place_of rule number (bad_slot index first) = (5, refl, ap Some ((finds_is _ _ index (slot_finds _ _ _ _ _ _)).1 first))

    -- a number in the list of rules is of a rule that is broken
    broken_at : (i number : ℕ) → slice_get said i ≡ Some (Some number) → TablesBreak bytes head program parts say (11 + i) number
    broken_at zero number e =
        let is = table_first head.headers parts.tags (hash_words bytes head.headers parts.tags) (length parts.symbols) number in
        grind (arith, bad_table, lacks_symbols)
    broken_at (suc zero) number e = elim ((string_first string _ _ _ _ number).0 (same_some e)) [
      | inl (k, first, lacks) ↦ bad_name k number first lacks
      | inr (never, (symbol, first, lacks)) ↦ bad_symbol_name never symbol number first lacks
    ]
    broken_at (suc (suc zero)) number e = bad_symbol number ((finds_is _ _ number (symbol_finds _ _)).0 (same_some e))
    broken_at (suc (suc (suc zero))) number e = bad_reloc number ((finds_is _ _ number (reloc_finds _ _ _ _ _)).0 (same_some e))
    broken_at (suc (suc (suc (suc zero)))) number e = has_feature number ((finds_is _ _ number (feature_finds _ _ _ _ _)).0 (same_some e))
    broken_at (suc (suc (suc (suc (suc zero))))) number e = bad_slot number ((finds_is _ _ number (slot_finds _ _ _ _ _ _)).0 (same_some e))
    broken_at (suc (suc (suc (suc (suc (suc i)))))) number e = absurd cc

  -- ---- all rules, where there is a dynamic table

  same_tags : (tags : List Tag) → dynamic_tags bytes head.headers ≡ Some tags → (parts : DynParts) → AreParts bytes head.headers parts → parts.tags ≡ tags
  same_tags tags is parts say = same_some (sym ((tags_are tags_law string bytes head.headers parts.tags).1 say.tags) ∙ is)

  module _ (tags : List Tag) (is : dynamic_tags bytes head.headers ≡ Some tags) where
    its : AreParts bytes head.headers (parts_in bytes head.headers tags)
    its = say_in tags_law string bytes head.headers tags is

    same_rules : (parts : DynParts) (say : AreParts bytes head.headers parts) → rules_of bytes head program tags ≡ said parts say
    same_rules parts say = rw (← same_tags tags is parts say) (are_said parts say)

    listed : Listed 11 (rules_of bytes head program tags) (Breaks bytes head program)
    listed rule number (no_table none) = absurd (none tags ((tags_are tags_law string bytes head.headers tags).0 is))
    listed rule number (by_tables parts say r n broken) = subst (λ rs. (i : ℕ) × (r ≡ 11 + i) × (slice_get rs i ≡ Some (Some n)))
        (sym (same_rules parts say)) (place_of parts say r n broken)

    breaking : Breaking 11 (rules_of bytes head program tags) (Breaks bytes head program)
    breaking i number e = by_tables (parts_in bytes head.headers tags) its (11 + i) number
        (broken_at _ its i number (subst (λ rs. slice_get rs i ≡ Some (Some number)) (same_rules _ its) e))

  -- ---- the verdict

  no_tags : dynamic_tags bytes head.headers ≡ None → (tags : List Tag) → AreTags bytes head.headers tags → ⊥
  no_tags none tags are = let there = (tags_are tags_law string bytes head.headers tags).1 are in absurd cc

  accepted_at : (found : Option (List Tag)) (parts : DynParts) → dynamic_tags bytes head.headers ≡ found
      → (option_map_or (tables_verdict bytes head program) found (Err no_dynamic) ≡ Ok parts) ↔ SpellsDynamic bytes head program parts
  unfolding tables_verdict
  accepted_at None parts is = (λ e. absurd cc, λ s. absurd (no_tags is parts.tags s.say.tags))
  accepted_at (Some tags) parts is =
      let both = accepts 11 (rules_of bytes head program tags) (Breaks bytes head program) (listed tags is) (breaking tags is)
      (parts_in bytes head.headers tags) parts in (
        λ e. let ok = both.0 e in rw ok.1 (record { kept = ok.0; say = its tags is }),
        λ s. both.1 (s.kept, (own parts s.say).is ∙ ap (parts_in bytes head.headers) (same_tags tags is parts s.say)),
      )

  refused_at : (found : Option (List Tag)) (fault : NotAccepted) → dynamic_tags bytes head.headers ≡ found
      → (option_map_or (tables_verdict bytes head program) found (Err no_dynamic) ≡ Err fault) ↔ BreaksFirst bytes head program fault
  unfolding tables_verdict
  refused_at None fault is = (
    λ e. let same : no_dynamic ≡ fault = cc in
        rw (← same) (record {
          broken = no_table (no_tags is);
          kept = λ rule number below b. (let ten : 10 ≡ rule = ap (λ (f : NotAccepted). f.rule) (only b) in omega arith);
        }),
    λ first. ap Err (only first.broken),
  )
    where
      only : {rule number : ℕ} → Breaks bytes head program rule number → no_dynamic ≡ record { rule = rule; number = number }
      only (no_table e) = refl
      only (by_tables parts say r n b) = absurd (no_tags is parts.tags say.tags)
  refused_at (Some tags) fault is =
      refuses 11 (rules_of bytes head program tags) (Breaks bytes head program) (listed tags is) (breaking tags is) (parts_in bytes head.headers tags) fault

  pub accepted : (parts : DynParts) → (dynamic_verdict bytes head program ≡ Ok parts) ↔ SpellsDynamic bytes head program parts
  unfolding dynamic_verdict
  accepted parts = accepted_at (dynamic_tags bytes head.headers) parts refl

  pub refused : (fault : NotAccepted) → (dynamic_verdict bytes head program ≡ Err fault) ↔ BreaksFirst bytes head program fault
  unfolding dynamic_verdict
  refused fault = refused_at (dynamic_tags bytes head.headers) fault refl

-- ---- tables that break no rule keep what is told of them

its_place : (headers : List Header) (place : ℕ) → ((IsPlace headers place → ⊥) → ⊥) → IsPlace headers place
its_place headers place never_not =
    let writes = writable_decides headers (doubleword place) in record { aligned = grind arith; writable = decided writes (λ out. grind arith) }

good_reloc : (headers : List Header) (symbols : List Symbol) (r : Reloc) → (IsBadReloc headers symbols r → ⊥) → IsReloc headers symbols r
good_reloc headers symbols r good =
    let place = its_place headers r.place in
    let writes = writable_decides headers (named_by symbols r) in
    grind (arith, nat_tests, no_symbol, is_slot, copies_null, copies_outside, no_place)

good_slot : (bytes : List ℕ) (headers : List Header) (symbols : List Symbol) (others slots : List Span) (k : ℕ) (r : Reloc)
    → (IsBadSlot bytes headers symbols others slots k r → ⊥)
    → IsSlot bytes headers symbols r
good_slot bytes headers symbols others slots k r good =
    record {
      type = grind (arith, other_type);
      some = grind (arith, of_null);
      symbol = grind (arith, slot_no_symbol);
      place = its_place headers r.place (λ bad. good (slot_no_place bad));
      code = decided (code_decides bytes headers r.place) (λ bad. good (no_code bad));
    }

module _ (bytes : List ℕ) (head : Head) (program : Bool) (parts : DynParts) (s : SpellsDynamic bytes head program parts) where
  abbrev others : List Span
  others = named parts.symbols parts.relocs parts.relr

  none_at : (rule k : ℕ) → TablesBreak bytes head program parts s.say rule k → ⊥
  none_at rule k broken = s.kept rule k (by_tables parts s.say rule k broken)

  no_reloc : (k : ℕ) → IsBadRelocAt head.headers parts.symbols parts.relocs s.say.words parts.relr k → ⊥
  no_reloc = never _ (λ k first. none_at 14 k (bad_reloc k first))

  no_bad_slot : (k : ℕ) → IsBadSlotAt bytes head.headers parts.symbols others parts.plt_relocs parts.pltgot k → ⊥
  no_bad_slot = never _ (λ k first. none_at 16 k (bad_slot k first))

  its_slot : (i : ℕ) (r : Reloc) → slice_get parts.plt_relocs i ≡ Some r → IsSlot bytes head.headers parts.symbols r
  its_slot i r is = good_slot bytes head.headers parts.symbols others (slot_ranges parts.symbols parts.plt_relocs) i r (λ bad. no_bad_slot i (bad_at r is bad))

  -- the range of a slot is its place's doubleword
  slot_at : (i : ℕ) (a : Span) → slice_get (slot_ranges parts.symbols parts.plt_relocs) i ≡ Some a
      → (r : Reloc) × (slice_get parts.plt_relocs i ≡ Some r) × (doubleword r.place ≡ a)
  slot_at i a is = let (r, at, range) = get_map (named_by parts.symbols) parts.plt_relocs i a is in (r, at, rw (its_slot i r at).type at range)

  apart : (j k : ℕ) (a b : Span) → j < k → slice_get (all_named parts) j ≡ Some a → slice_get (all_named parts) k ≡ Some b → Share a b → ⊥
  apart j k a b below one two share =
      elim (get_both others (slot_ranges parts.symbols parts.plt_relocs) k b two) [
        | inl among ↦ elim (get_both others (slot_ranges parts.symbols parts.plt_relocs) j a one) [
          | inl before ↦ no_reloc k (named_twice
              (record { before = j; is_before = below; one = a; is_one = before; range = b; is_range = among; share = share }))
          | inr (i, e, slot) ↦ let within = slice_get_within others k b among in omega (arith, e)
        ]
        | inr (i, e, slot) ↦
            let (r, at, range) = slot_at i b slot in
            let own : Share (doubleword r.place) a = turn a (doubleword r.place) (subst (Share a) (sym range) share) in
            elim (get_both others (slot_ranges parts.symbols parts.plt_relocs) j a one) [
              | inl among ↦ no_bad_slot i (bad_at r at (named_by_other j a among own))
              | inr (h, f, other) ↦ no_bad_slot i (bad_at r at (named_by_slot h a (λ same. omega (arith, e, f)) other own))
            ]
      ]

  some_bytes : {R : Span → Type 0} (part : List ℕ) → AreBytes bytes head.headers R part → 0 < length part → (x : Span) × R x
  some_bytes part (held x r stands) some = (x, r)
  some_bytes part (missing none empty) some = absurd (let size = ap length empty in omega arith)

  its_table : 0 < length parts.plt_relocs → (start : ℕ) × (parts.pltgot ≡ Some start) × IsSlotTable head.headers (all_named parts) start
  its_table some =
      let count = s.say.plt_relocs.count in
      let (range, is) = some_bytes s.say.slots s.say.are_slots (omega arith) in
      let slots = decided (slots_decides head.headers parts.tags range)
      (λ bad. never _ (λ k first. none_at 11 k (bad_table k first)) dt_jmprel (bad_slots range is bad)) in
      let (start, there) = slots.words in
      let at : parts.pltgot ≡ Some start = s.say.pltgot ∙ there in
      let table = table_decides bytes head.headers parts.symbols others parts.plt_relocs start in
      (start, at, decided table (λ bad. no_bad_slot (length parts.plt_relocs) (bad_head refl some start at bad)))

  pub keeps : Keeps bytes head.headers parts
  keeps = record {
    relocs = λ i r is. good_reloc _ _ r (λ bad. no_reloc i (by_itself r is bad));
    packed = λ i place is. its_place head.headers place (λ bad. no_reloc (length parts.relocs + i) (bad_place i place refl is bad));
    slots = its_slot;
    apart = apart;
    table = its_table;
    closed = λ i h is loaded writable executable. never _ (λ k first. none_at 15 k (has_feature k first)) 11 (open_segment i h is loaded writable executable);
  }
