-- Tag by tag.
use Rattle.std.proofs.Common.{◌≡◌, ◌∙◌, ap, sym, refl, ℕ, ◌+◌, ◌*◌, ◌/◌, ◌%◌, ◌<◌, ◌==◌, ◌||◌, Bool, true, false, nat_lt, is_some, if◌then◌else◌, IsTrue, List, [], ◌∷◌, ◌++◌, length, map, filter, arith, inl, inr}
use Rattle.std.specs.Prelude.{Some, None, Option, option_map, option_to_list, unwrap_or, ⊤}
use Rattle.std.specs.Int.{from_bool}
use Rattle.std.proofs.lemmas.Bool.Decides.{nat_tests}
use Rattle.ld_base.specs.declared.object.ObjFlags.{ObjFlags}
use Rattle.ld_base.specs.declared.object.Span.{Span}
use Rattle.ld_base.specs.declared.parts.DynParts.{DynParts}
use Rattle.ld_base.specs.declared.parts.Header.{Header}
use Rattle.ld_base.specs.declared.parts.Tag.{Tag}
use Rattle.elf_head.specs.DynTable.Tag.{has_flag, has_tag, last_of, values_of}
use Rattle.elf_head.specs.DynTable.TagNumbers.{dt_bind_now, dt_fini, dt_fini_array, dt_fini_arraysz, dt_flags, dt_flags_1, dt_init, dt_init_array, dt_init_arraysz, dt_needed, dt_pltgot, dt_preinit_array, dt_preinit_arraysz, dt_soname, dt_symbolic}
use Rattle.elf_dynamic.specs.Parts.{AreFlags, AreParts, IsRange, IsThat}
use Rattle.asm_write.specs.declared.contents.Contents.{Contents}
use Rattle.asm_write.specs.declared.entries.DynamicEntry.{DynamicEntry}
use Rattle.asm_write.specs.declared.part.Part.{Part}
use Rattle.asm_write.specs.declared.part.Part.TheVariants as parts
use Rattle.asm_write.specs.declared.starts.Starts.{Starts}
use Rattle.asm_write.specs.Sizes.{name_entries, symbol_entries, flag_entries, arrays_entries, array_entries, reloc_entries, version_entries, where_some, tells_number, count_in, plain_size}
use Rattle.asm_write.specs.Starts.{starts_of, start_in, size_in, size_of}
use Rattle.asm_laws.specs.ElfSpelled.Said.{IsTold, SaysByItself, said_tag, said_tags, span_if, told_if}
use Rattle.asm_laws.specs.ElfSpelled.Lemmas.Starting.{told}
use Rattle.asm_laws.proofs.ElfSpelled.LookUps as look
use Rattle.asm_laws.proofs.ElfSpelled.LookUps.{gnu_entry, sysv_entry, table_entries, flags_entry, more_flags_entry, part_entries, rela_entries, relr_entries, slot_entries, versym_entry, verdef_entries, verneed_entries}

-- The names of needed libraries

module _ (starts : Starts) where
  abbrev values : List DynamicEntry → List ℕ
  values entries = values_of (map (said_tag starts) entries) dt_needed

  one_more : (e : DynamicEntry) (entries : List DynamicEntry) → values (e ∷ entries) ≡ values (e ∷ []) ++ values entries
  unfolding values_of
  one_more e entries =
      let value : Tag → ℕ = λ t. t.value in
      let P : Bool → Type 0 = λ here.
      map value (if here then said_tag starts e ∷ filter (has_tag dt_needed) (map (said_tag starts) entries) else filter (has_tag dt_needed) (map (said_tag starts) entries))
      ≡ map value (if here then said_tag starts e ∷ [] else []) ++ map value (filter (has_tag dt_needed) (map (said_tag starts) entries)) in
      let cases : (here : Bool) → P here = λ here. elim here as P [ true ↦ refl | false ↦ refl ] in
      cases (e.tag == dt_needed)

  -- entries of other tags
  abbrev AllOther : List DynamicEntry → Type 0
  AllOther [] = ⊤
  AllOther (e ∷ entries) = ((e.tag == dt_needed) ≡ false) × AllOther entries

  other : (e : DynamicEntry) → (e.tag == dt_needed) ≡ false → values (e ∷ []) ≡ []
  unfolding values_of
  other e not_needed = rw not_needed refl

  none : (entries : List DynamicEntry) → AllOther entries → values entries ≡ []
  unfolding values_of
  none [] all = refl
  none (e ∷ entries) (first, all) = one_more e entries ∙ ap (λ (ns : List ℕ). ns ++ values entries) (other e first) ∙ none entries all

  split : (xs ys : List DynamicEntry) → AllOther ys → values (xs ++ ys) ≡ values xs
  unfolding values_of
  split [] ys all = none ys all
  split (x ∷ xs) ys all = one_more x (xs ++ ys) ∙ ap (λ (ns : List ℕ). values (x ∷ []) ++ ns) (split xs ys all) ∙ sym (one_more x xs)

  chosen : (b : Bool) (xs : List DynamicEntry) → AllOther xs → AllOther (where_some b xs)
  chosen true xs all = all
  chosen false xs all = tt

  both : (xs ys : List DynamicEntry) → AllOther xs → AllOther ys → AllOther (xs ++ ys)
  both [] ys one two = two
  both (x ∷ xs) ys (first, one) two = (first, both xs ys one two)

  named : (offsets : List ℕ) → values (map (tells_number dt_needed) offsets) ≡ offsets
  unfolding values_of
  named [] = refl
  named (offset ∷ offsets) = ap (λ (ns : List ℕ). offset ∷ ns) (named offsets)

  no_soname : (soname : Option ℕ) → AllOther (option_to_list (option_map (tells_number dt_soname) soname))
  no_soname None = tt
  no_soname (Some offset) = (refl, tt)

needed : (contents : Contents) → values_of (said_tags contents) dt_needed ≡ contents.needed
needed contents =
    let starts = starts_of contents in
    let names = name_entries contents in
    let symbols = names ++ symbol_entries contents in
    let flags = symbols ++ flag_entries contents.flags in
    let arrays = flags ++ arrays_entries contents in
    let relocs = arrays ++ reloc_entries contents in
    let array : (part : Part) (start size : ℕ) → (start == dt_needed) ≡ false → (size == dt_needed) ≡ false → AllOther starts (array_entries contents part start size)
    = λ part start size one two. chosen starts (nat_lt 0 (count_in contents part)) (part_entries part start size) (one, (two, tt)) in
    let of_symbols : AllOther starts (symbol_entries contents) =
    both starts (where_some (is_some contents.gnu) gnu_entry ++ where_some (is_some contents.sysv) sysv_entry) table_entries
    (both starts (where_some (is_some contents.gnu) gnu_entry) (where_some (is_some contents.sysv) sysv_entry)
    (chosen starts (is_some contents.gnu) gnu_entry (refl, tt)) (chosen starts (is_some contents.sysv) sysv_entry (refl, tt))) (refl, (refl, (refl, (refl, tt)))) in
    let of_flags : AllOther starts (flag_entries contents.flags) =
    both starts (where_some (contents.flags.symbolic || contents.flags.bind_now) (flags_entry contents.flags)) (where_some contents.flags.nodelete more_flags_entry)
    (chosen starts (contents.flags.symbolic || contents.flags.bind_now) (flags_entry contents.flags) (refl, tt)) (chosen starts contents.flags.nodelete more_flags_entry (refl, tt)) in
    let of_arrays : AllOther starts (arrays_entries contents) =
    both starts (array_entries contents parts.PreinitArray 32 33 ++ array_entries contents parts.InitArray 25 27) (array_entries contents parts.FiniArray 26 28)
    (both starts (array_entries contents parts.PreinitArray 32 33) (array_entries contents parts.InitArray 25 27) (array parts.PreinitArray 32 33 refl refl) (array parts.InitArray 25 27 refl refl))
    (array parts.FiniArray 26 28 refl refl) in
    let of_relocs : AllOther starts (reloc_entries contents) =
    both starts (where_some (look.has_rela contents) rela_entries ++ where_some (look.has_relr contents) relr_entries) (where_some (look.has_slots contents) slot_entries)
    (both starts (where_some (look.has_rela contents) rela_entries) (where_some (look.has_relr contents) relr_entries)
    (chosen starts (look.has_rela contents) rela_entries (refl, (refl, (refl, tt)))) (chosen starts (look.has_relr contents) relr_entries (refl, (refl, (refl, tt)))))
    (chosen starts (look.has_slots contents) slot_entries (refl, (refl, (refl, (refl, tt))))) in
    let verdef = verdef_entries (length contents.versions) in
    let verneed = verneed_entries (length contents.files) in
    let of_versions : AllOther starts (version_entries contents) =
    both starts (where_some contents.has_versions versym_entry ++ where_some (look.defines_versions contents) verdef) (where_some (look.needs_versions contents) verneed)
    (both starts (where_some contents.has_versions versym_entry) (where_some (look.defines_versions contents) verdef)
    (chosen starts contents.has_versions versym_entry (refl, tt)) (chosen starts (look.defines_versions contents) verdef (refl, (refl, tt))))
    (chosen starts (look.needs_versions contents) verneed (refl, (refl, tt))) in
    split starts relocs (version_entries contents) of_versions ∙ split starts arrays (reloc_entries contents) of_relocs ∙ split starts flags (arrays_entries contents) of_arrays
    ∙ split starts symbols (flag_entries contents.flags) of_flags ∙ split starts names (symbol_entries contents) of_symbols
    ∙ split starts (map (tells_number dt_needed) contents.needed) (option_to_list (option_map (tells_number dt_soname) contents.soname)) (no_soname starts contents.soname)
    ∙ named starts contents.needed

pub all_told : (contents : Contents) → IsTold contents (said_tags contents)
all_told contents = record {
  needed = needed contents;
  gnu_hash = look.gnu_hash contents;
  hash = look.hash contents;
  strings = look.strings contents;
  strings_size = look.strings_size contents;
  symbols = look.symbols contents;
  flags = look.flags contents;
  more_flags = look.more_flags contents;
  symbolic = look.symbolic contents;
  bind_now = look.bind_now contents;
  init = look.init contents;
  fini = look.fini contents;
  preinit_array = look.preinit_array contents;
  preinit_size = look.preinit_size contents;
  init_array = look.init_array contents;
  init_size = look.init_size contents;
  fini_array = look.fini_array contents;
  fini_size = look.fini_size contents;
  rela = look.rela contents;
  rela_size = look.rela_size contents;
  relr = look.relr contents;
  relr_size = look.relr_size contents;
  slots = look.slots contents;
  slots_size = look.slots_size contents;
  slot_words = look.slot_words contents;
  versym = look.versym contents;
  verdef = look.verdef contents;
  verdef_count = look.verdef_count contents;
  verneed = look.verneed contents;
  verneed_count = look.verneed_count contents;
  soname = look.soname contents;
}

-- What the table says by itself

none_some : (n : ℕ) → None ≡ Some n → ⊥
none_some n is = absurd cc

pub range_is : (tags : List Tag) (address size : ℕ) (b : Bool) (start long : ℕ) (range : Option Span) → last_of tags address ≡ told_if b start → last_of tags size ≡ told_if b long
    → (b ≡ true → 0 < long) → IsThat (IsRange tags address size) range → range ≡ span_if b start long
range_is tags address size true start long range at bytes some is =
    (is (record { start = start; size = long })).1 (record { start = at; bytes = bytes; some = some refl })
range_is tags address size false start long None at bytes some is = refl
range_is tags address size false start long (Some s) at bytes some is =
    let there = (is s).0 refl in
    absurd (none_some s.start (sym at ∙ there.start))

same_bool : (one other : Bool) → (IsTrue one → IsTrue other) → (IsTrue other → IsTrue one) → one ≡ other
same_bool true true to from = refl
same_bool false false to from = refl
same_bool true false to from = absurd (let is = to refl in cc)
same_bool false true to from = absurd (let is = from refl in cc)

module _ (tags : List Tag) (symbolic bind_now nodelete : Bool) (flags : last_of tags dt_flags ≡ told_if (symbolic || bind_now) (2 * from_bool symbolic + 8 * from_bool bind_now))
    (more : last_of tags dt_flags_1 ≡ told_if nodelete 8) where
  flag_two : (symbolic bind_now : Bool) → (unwrap_or (told_if (symbolic || bind_now) (2 * from_bool symbolic + 8 * from_bool bind_now)) 0 / 2 % 2 == 1) ≡ symbolic
  flag_two true true = refl
  flag_two true false = refl
  flag_two false true = refl
  flag_two false false = refl

  flag_eight : (symbolic bind_now : Bool) → (unwrap_or (told_if (symbolic || bind_now) (2 * from_bool symbolic + 8 * from_bool bind_now)) 0 / 8 % 2 == 1) ≡ bind_now
  flag_eight true true = refl
  flag_eight true false = refl
  flag_eight false true = refl
  flag_eight false false = refl

  more_one : (nodelete : Bool) → (unwrap_or (told_if nodelete 8) 0 / 1 % 2 == 1) ≡ false
  more_one true = refl
  more_one false = refl

  more_eight : (nodelete : Bool) → (unwrap_or (told_if nodelete 8) 0 / 8 % 2 == 1) ≡ nodelete
  more_eight true = refl
  more_eight false = refl

  symbolic_flag : has_flag tags dt_flags 2 ≡ symbolic
  symbolic_flag = ap (λ o. unwrap_or o 0 / 2 % 2 == 1) flags ∙ flag_two symbolic bind_now

  now_flag : has_flag tags dt_flags 8 ≡ bind_now
  now_flag = ap (λ o. unwrap_or o 0 / 8 % 2 == 1) flags ∙ flag_eight symbolic bind_now

  no_now_flag : has_flag tags dt_flags_1 1 ≡ false
  no_now_flag = ap (λ o. unwrap_or o 0 / 1 % 2 == 1) more ∙ more_one nodelete

  nodelete_flag : has_flag tags dt_flags_1 8 ≡ nodelete
  nodelete_flag = ap (λ o. unwrap_or o 0 / 8 % 2 == 1) more ∙ more_eight nodelete

  pub flags_are : last_of tags dt_symbolic ≡ None → last_of tags dt_bind_now ≡ None → (said : ObjFlags) → AreFlags tags said
      → (said.symbolic ≡ symbolic) × (said.bind_now ≡ bind_now) × (said.nodelete ≡ nodelete)
  flags_are no_symbolic no_now said are = (
    same_bool said.symbolic symbolic
        (λ is. elim (are.symbolic.0 is) as (λ _. IsTrue symbolic) [ inl there ↦ absurd (none_some there.0 (sym no_symbolic ∙ there.1)) | inr flag ↦ sym symbolic_flag ∙ flag ])
        (λ is. are.symbolic.1 (inr (symbolic_flag ∙ is))),
    same_bool said.bind_now bind_now
        (λ is. elim (are.bind_now.0 is) as (λ _. IsTrue bind_now) [
          | inl there ↦ absurd (none_some there.0 (sym no_now ∙ there.1))
          | inr either ↦ elim either as (λ _. IsTrue bind_now) [ inl flag ↦ sym now_flag ∙ flag | inr flag ↦ absurd (let both = sym no_now_flag ∙ flag in cc) ]
        ])
        (λ is. are.bind_now.1 (inr (inl (now_flag ∙ is)))),
    same_bool said.nodelete nodelete (λ is. sym nodelete_flag ∙ are.nodelete.0 is) (λ is. are.nodelete.1 (nodelete_flag ∙ is)),
  )

pub alike : (one other : ObjFlags) → one.symbolic ≡ other.symbolic → one.bind_now ≡ other.bind_now → one.nodelete ≡ other.nodelete → one ≡ other
alike one other symbolic now nodelete =
    let make : Bool → Bool → Bool → ObjFlags = λ s b n. record { symbolic = s; bind_now = b; nodelete = n } in
    ap (λ s. make s one.bind_now one.nodelete) symbolic ∙ ap (λ b. make other.symbolic b one.nodelete) now ∙ ap (make other.symbolic other.bind_now) nodelete

arrays_long : (contents : Contents) →
    (nat_lt 0 (count_in contents parts.PreinitArray) ≡ true → 0 < size_in (starts_of contents) parts.PreinitArray)
    × (nat_lt 0 (count_in contents parts.InitArray) ≡ true → 0 < size_in (starts_of contents) parts.InitArray)
    × (nat_lt 0 (count_in contents parts.FiniArray) ≡ true → 0 < size_in (starts_of contents) parts.FiniArray)
unfolding size_of plain_size
arrays_long contents =
    let above : (n size : ℕ) → size ≡ 8 * n → nat_lt 0 n ≡ true → 0 < size = λ n size is some. (let positive : 0 < n = grind (arith, nat_tests) in omega (arith, is, positive)) in (
      above (count_in contents parts.PreinitArray) (size_in (starts_of contents) parts.PreinitArray) (told contents parts.PreinitArray),
      above (count_in contents parts.InitArray) (size_in (starts_of contents) parts.InitArray) (told contents parts.InitArray),
      above (count_in contents parts.FiniArray) (size_in (starts_of contents) parts.FiniArray) (told contents parts.FiniArray),
    )

pub by_itself : (contents : Contents) (bytes : List ℕ) (headers : List Header) (said : DynParts) → said.tags ≡ said_tags contents → AreParts bytes headers said → SaysByItself contents said
by_itself contents bytes headers said same are =
    let told = all_told contents in
    let at : (tag : ℕ) → last_of said.tags tag ≡ last_of (said_tags contents) tag = λ tag. ap (λ (tags : List Tag). last_of tags tag) same in
    let long = arrays_long contents in
    let flags = flags_are said.tags contents.flags.symbolic contents.flags.bind_now contents.flags.nodelete (at dt_flags ∙ told.flags) (at dt_flags_1 ∙ told.more_flags)
    (at dt_symbolic ∙ told.symbolic) (at dt_bind_now ∙ told.bind_now) said.flags are.flags in
    record {
      pltgot = are.pltgot ∙ at dt_pltgot ∙ told.slot_words;
      init = are.init ∙ at dt_init ∙ told.init;
      fini = are.fini ∙ at dt_fini ∙ told.fini;
      preinit = range_is said.tags dt_preinit_array dt_preinit_arraysz (nat_lt 0 (count_in contents parts.PreinitArray)) (start_in (starts_of contents) parts.PreinitArray)
          (size_in (starts_of contents) parts.PreinitArray) said.preinit (at dt_preinit_array ∙ told.preinit_array) (at dt_preinit_arraysz ∙ told.preinit_size) long.0 are.preinit;
      init_array = range_is said.tags dt_init_array dt_init_arraysz (nat_lt 0 (count_in contents parts.InitArray)) (start_in (starts_of contents) parts.InitArray)
          (size_in (starts_of contents) parts.InitArray) said.init_array (at dt_init_array ∙ told.init_array) (at dt_init_arraysz ∙ told.init_size) long.1 are.init_array;
      fini_array = range_is said.tags dt_fini_array dt_fini_arraysz (nat_lt 0 (count_in contents parts.FiniArray)) (start_in (starts_of contents) parts.FiniArray)
          (size_in (starts_of contents) parts.FiniArray) said.fini_array (at dt_fini_array ∙ told.fini_array) (at dt_fini_arraysz ∙ told.fini_size) long.2 are.fini_array;
      flags = alike said.flags contents.flags flags.0 flags.1 flags.2;
    }
