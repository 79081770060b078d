-- The parts that the tables say are those of the functions that the code is proved against, field by field.
use Rattle.std.proofs.Common.{◌≡◌, ◌↔◌, ◌⊎◌, ◌∙◌, ap, sym, refl, ℕ, zero, suc, ◌+◌, ◌*◌, ◌/◌, ◌<◌, ◌≤◌, ◌==◌, Bool}
use Rattle.std.proofs.Common.{List, [], ◌∷◌, ◌++◌, length, map, Option, Some, None, arith, inl, inr}
use Rattle.std.specs.Prelude.{find, fold, max, option_map, position}
use Rattle.std.specs.List.{slice_get}
use Rattle.std.specs.Option.{option_and_then, option_map_or}
use Rattle.std.proofs.lemmas.Bool.Decides.{nat_tests, same_from_decides, Decides-eqb}
use Rattle.std.proofs.lemmas.List.{length-map}
use Rattle.std.proofs.lemmas.List.Folds.{find_at}
use Rattle.std.proofs.lemmas.Option.{slice_get_past, slice_get_within}
use Rattle.ld_base.specs.Field.{field}
use Rattle.ld_base.specs.declared.object.ObjFlags.{ObjFlags}
use Rattle.ld_base.specs.declared.object.Reloc.{Reloc}
use Rattle.ld_base.specs.declared.object.Span.{Span}
use Rattle.ld_base.specs.declared.parts.DynParts.{DynParts}
use Rattle.ld_base.specs.declared.parts.GnuPart.{GnuPart}
use Rattle.ld_base.specs.declared.parts.HashTable.{HashTable}
use Rattle.ld_base.specs.declared.parts.Header.{Header}
use Rattle.ld_base.specs.declared.parts.Tag.{Tag}
use Rattle.elf_head.specs.AcceptancePart.Entries.{AreEntries}
use Rattle.elf_head.specs.AcceptancePart.Table.{table}
use Rattle.elf_head.specs.AcceptancePart.Lemmas.Finds.{finds_is, finds_position, same_some, Finds}
use Rattle.elf_head.specs.AcceptancePart.Lemmas.Tables.{get-table, length-table}
use Rattle.elf_head.specs.Readable.{file_bytes}
use Rattle.elf_head.specs.DynTable.HashWords.{hash_words}
use Rattle.elf_head.specs.DynTable.Name.{string_at, string_in, IsStringAt}
use Rattle.elf_head.specs.DynTable.Reloc.{reloc_at, relocs_of}
use Rattle.elf_head.specs.DynTable.Symbol.{symbol_name, symbol_named, symbols_in}
use Rattle.elf_head.specs.DynTable.Tag.{tags_of, value_of, values_of, EndsAtNull}
use Rattle.elf_head.specs.DynTable.TagNumbers.{dt_fini_array, dt_fini_arraysz, dt_init_array, dt_init_arraysz, dt_jmprel, dt_needed, dt_pltrelsz}
use Rattle.elf_head.specs.DynTable.TagNumbers.{dt_preinit_array, dt_preinit_arraysz, dt_relr, dt_relrsz, dt_strsz, dt_strtab, dt_symtab}
use Rattle.elf_dynamic.specs.Parts.{AreBytes, AreFlags, AreNamesAt, AreParts, AreSymbols, AreTags, HasRoom, IsCount, IsFirstExported, IsNameAt, IsNameOf}
use Rattle.elf_dynamic.specs.Parts.{IsRange, IsRela, IsSymbolTable, IsThat, LacksString, NamePlaces}
use Rattle.elf_dynamic.specs.Parts.AreBytes.{held, missing}
use Rattle.elf_dynamic.specs.Parts.IsCount.{by_chain, by_room}
use Rattle.elf_dynamic.specs.Parts.IsFirstExported.{by_gnu, after_null}
use Rattle.elf_dynamic.specs.Parts.IsNameOf.{nameless, named}
use Rattle.elf_dynamic.specs.Parts.NamePlaces.{no_more, place, bits}
use Rattle.elf_dynamic.specs.Relr.{places_from, relr_places, relr_words}
use Rattle.elf_dynamic.specs.Tables.{bytes_in, count_in, dynamic_tags, first_exported, flags_of, named_count, parts_in, plt_relocs, rela_relocs, rela_span}
use Rattle.elf_dynamic.specs.Tables.{relr_bytes, span_of, strings_in, symbol_bytes, symbol_count}
use Rattle.elf_dynamic.proofs.Relocs.{get_map}
use Rattle.elf_dynamic.proofs.Reasons.{and_then, range_is, rela_is, same_span}
use Rattle.elf_head.specs.AcceptancePart.Lemmas.Tests.{itself}
use Rattle.elf_dynamic.proofs.Tests.{stands_decides}

-- ---- options and lists

-- R holds of this value alone
abbrev Tells : {X : Type 0} → (X → Type 0) → X → Type 0
Tells {X} R v = (x : X) → R x ↔ (x ≡ v)

tells : {X : Type 0} (R : X → Type 0) (v : X) → R v → ((x : X) → R x → x ≡ v) → Tells R v
tells R v own is x = (is x, λ e. rw e own)

option_cases : {X : Type 0} (o : Option X) → (o ≡ None) ⊎ ((x : X) × (o ≡ Some x))
option_cases None = inl refl
option_cases (Some x) = inr (x, refl)

find_is : {X : Type 0} (p : X → Bool) (xs : List X) → find p xs ≡ option_and_then (slice_get xs) (position p xs)
find_is p xs = let at = find_at p xs in grind (arith, nat_tests, slice_get_past)

-- two lists of as many entries are one, where R tells each
entries_one : {X : Type 0} (R : ℕ → X → Type 0) (xs ys : List X) → ((i : ℕ) (x y : X) → R i x → R i y → x ≡ y) → length xs ≡ length ys
    → ((i : ℕ) (x : X) → slice_get xs i ≡ Some x → R i x) → ((i : ℕ) (x : X) → slice_get ys i ≡ Some x → R i x) → xs ≡ ys
entries_one R [] [] one count a b = refl
entries_one R [] (y ∷ ys) one count a b = absurd (omega arith)
entries_one R (x ∷ xs) [] one count a b = absurd (omega arith)
entries_one R (x ∷ xs) (y ∷ ys) one count a b =
    let head : x ≡ y = one 0 x y (a 0 x refl) (b 0 y refl) in
    let rest = entries_one (λ i. R (suc i)) xs ys (λ i. one (suc i)) (omega arith) (λ i. a (suc i)) (λ i. b (suc i)) in
    cc

entries_tell : {X : Type 0} (R : ℕ → X → Type 0) (n : ℕ) (v : List X) → ((i : ℕ) (x y : X) → R i x → R i y → x ≡ y) → AreEntries R n v
    → Tells (AreEntries R n) v
entries_tell R n v one own = tells _ v own (λ xs are. entries_one R xs v one (are.count ∙ sym own.count) are.each own.each)

table_own : {X : Type 0} (R : ℕ → X → Type 0) (n : ℕ) (at : ℕ → X) (size : ℕ) → ((i : ℕ) → R i (at (size * i))) → AreEntries R n (table at 0 size n)
table_own R n at size holds = record {
  count = length-table at 0 size n;
  each = λ i x is.
      let within : i < n = omega (arith, slice_get_within (table at 0 size n) i x is, length-table at 0 size n) in
      let place : 0 + size * i ≡ size * i = omega arith in
      rw (same_some (sym (rw place at (get-table at 0 size n i within)) ∙ is)) at (holds i);
}

table_tells : {X : Type 0} (n : ℕ) (at : ℕ → X) (size : ℕ) → Tells (AreEntries (λ i x. x ≡ at (size * i)) n) (table at 0 size n)
table_tells n at size = entries_tell _ n _ (λ i x y e f. e ∙ sym f) (table_own _ n at size (λ i. refl))

-- ---- packed relocations

places_is : {next : ℕ} {words places : List ℕ} → NamePlaces next words places → places ≡ places_from next words
places_is (no_more n) = refl
places_is (place n word rest others even more) = let e = places_is more in grind arith
places_is (bits n word rest others odd more) = let e = places_is more in grind arith

places_own : (next : ℕ) (words : List ℕ) → NamePlaces next words (places_from next words)
places_own next [] = no_more next
places_own next (word ∷ words) =
    grind (arith, place, bits, places_own (word + 8) words, places_own (next + 504) words)

-- ---- how many symbols there are

-- a fold of maxima is the least that is above each
above_all : (relocs : List Reloc) (m n : ℕ)
    → (fold (λ a (r : Reloc). max a (r.symbol + 1)) m relocs ≤ n) ↔ ((m ≤ n) × ((i : ℕ) (r : Reloc) → slice_get relocs i ≡ Some r → r.symbol < n))
above_all [] m n = (λ low. (low, λ i r e. absurd cc), λ both. both.0)
above_all (s ∷ relocs) m n =
    let rest = above_all relocs (max m (s.symbol + 1)) n in (
      λ low. (
        omega (arith, (rest.0 low).0),
        λ i r e. elim (at i r e) [ inl same ↦ rw same (omega (arith, (rest.0 low).0)) | inr (j, there) ↦ (rest.0 low).1 j r there ],
      ),
      λ both. (let here = both.1 0 s refl in rest.1 (omega (arith, both.0), λ i. both.1 (suc i))),
    )
  where
    at : (i : ℕ) (r : Reloc) → slice_get (s ∷ relocs) i ≡ Some r → (r ≡ s) ⊎ ((j : ℕ) × (slice_get relocs j ≡ Some r))
    at zero r e = inl (sym (same_some e))
    at (suc i) r e = inr (i, e)

module _ (words : HashTable) (relocs slots : List Reloc) where
  abbrev room : ℕ
  room = max (option_map_or (λ g. g.symoffset + length g.chain) words.gnu 0) (named_count (relocs ++ slots))

  room_is : (n : ℕ) → HasRoom words (relocs ++ slots) n ↔ (room ≤ n)
  room_is n = (
    λ has. to has.gnu ((above_all (relocs ++ slots) 0 n).1 (omega arith, has.named)),
    λ low. record {
      gnu = λ g there. (let up = rw there at low in omega arith);
      named = ((above_all (relocs ++ slots) 0 n).0 (omega arith)).1;
    },
  )
    where
      to : ((g : GnuPart) → words.gnu ≡ Some g → g.symoffset + length g.chain ≤ n) → named_count (relocs ++ slots) ≤ n → room ≤ n
      to gnu low = elim (option_cases words.gnu) [ inl none ↦ rw none (omega arith) | inr (g, there) ↦ rw there (omega (arith, gnu g there)) ]

  count_tells : Tells (IsCount words (relocs ++ slots)) (symbol_count words relocs slots)
  unfolding symbol_count
  count_tells =
      tells _ _
      (elim (option_cases words.sysv) [
        | inl none ↦ (let upper = room_is room in let lower = λ (m : ℕ). room_is m in grind (arith, by_room))
        | inr (s, there) ↦ by_chain s there (rw there refl)
      ])
      (λ n count. elim count [
        | by_chain s there e ↦ rw there e
        | by_room none has least ↦ rw none (omega (arith, (room_is n).0 has, least room ((room_is room).1 (omega arith))))
      ])

first_tells : (words : HashTable) → Tells (IsFirstExported words) (first_exported words)
first_tells words =
    tells _ _ (elim (option_cases words.gnu) [ inl none ↦ after_null none (rw none refl) | inr (g, there) ↦ by_gnu g there (rw there refl) ])
    (λ n first. elim first [ by_gnu g there e ↦ rw there e | after_null none e ↦ rw none e ])

-- ---- flags and ranges

flags_own : (tags : List Tag) → AreFlags tags (flags_of tags)
unfolding flags_of
flags_own tags = record { symbolic = grind (arith, stands_decides); bind_now = grind (arith, stands_decides); nodelete = itself _ }

flags_is : {tags : List Tag} {flags : ObjFlags} → AreFlags tags flags → flags ≡ flags_of tags
flags_is {tags} a =
    let b = flags_own tags in
    λ i. record {
      symbolic = same_from_decides _ _ a.symbolic b.symbolic i;
      bind_now = same_from_decides _ _ a.bind_now b.bind_now i;
      nodelete = same_from_decides _ _ a.nodelete b.nodelete i;
    }

-- a range is known by what it is
that_is : (R : Span → Type 0) (o range : Option Span) → ((s : Span) → (o ≡ Some s) ↔ R s) → IsThat R range → range ≡ o
that_is R None None is that = refl
that_is R (Some s) None is that = (that s).1 ((is s).0 refl)
that_is R o (Some s) is that = sym ((is s).1 ((that s).0 refl))

-- ---- the dynamic table

first_dynamic : (headers : List Header) → Finds (λ k. (h : Header) × (slice_get headers k ≡ Some h) × (h.kind ≡ 2)) (position (λ h. h.kind == 2) headers)
first_dynamic headers = finds_position (λ h. h.kind == 2) (λ h. h.kind ≡ 2) (λ h. Decides-eqb h.kind 2) headers

module _ (tags_law : (bytes : List ℕ) (tags : List Tag) → (tags_of bytes ≡ Some tags) ↔ EndsAtNull bytes tags)
    (string : (strings name : List ℕ) (offset : ℕ) → (string_at strings offset ≡ Some name) ↔ IsStringAt strings offset name)
    (bytes : List ℕ) (headers : List Header) where
  pub tags_are : (tags : List Tag) → (dynamic_tags bytes headers ≡ Some tags) ↔ AreTags bytes headers tags
  unfolding dynamic_tags
  tags_are tags = rw (find_is (λ h. h.kind == 2) headers) (
    λ e.
        let (part, there, ends) = and_then tags_of _ tags e in
        let (h, found, stands) = and_then (λ h. file_bytes bytes headers h.vaddr h.filesz) _ part there in
        let (k, at, is) = and_then (slice_get headers) _ h found in
        let first = (finds_is _ _ k (first_dynamic headers)).0 at in
        let (g, own, two) = first.bad in
        record {
          index = k;
          header = h;
          is = is;
          kind = rw (same_some (sym own ∙ is)) at two;
          first = λ j g below here two. first.before j below (g, here, two);
          table = part;
          stands = stands;
          ends = (tags_law part tags).0 ends;
        },
    λ t.
        let at = (finds_is _ _ t.index (first_dynamic headers)).1
        (record { bad = (t.header, t.is, t.kind); before = λ j below (h, is, two). t.first j h below is two }) in
        rw (at, t.is, t.stands) ((tags_law t.table tags).1 t.ends),
  )

  -- ---- bytes and names

  bytes_tell : (R : Span → Type 0) (o : Option Span) → ((s : Span) → (o ≡ Some s) ↔ R s) → Tells (AreBytes bytes headers R) (bytes_in bytes headers o)
  bytes_tell R None is part = grind (arith, held, missing)
  bytes_tell R (Some s) is part = let here = (is s).0 refl in elim (option_cases (file_bytes bytes headers s.start s.size)) [
    | inl out ↦ grind (arith, missing)
    | inr (own, stands) ↦ (
      λ are. elim are [
        | held t r there ↦ (let same = same_some ((is t).1 r) in let more = rw (← same) at there in cc)
        | missing never none ↦ absurd (never s own here stands)
      ],
      λ e. rw e (rw stands (held s here stands)),
    )
  ]

  name_tells : (strings : List ℕ) (offset : ℕ) → Tells (IsNameAt strings offset) (string_in strings offset)
  name_tells strings offset name = let at = string strings name offset in elim (option_cases (string_at strings offset)) [
    | inl none ↦ (let lacks : LacksString strings offset = λ other there. absurd (let e = (string strings other offset).1 there in cc) in grind (arith, at))
    | inr (found, there) ↦ (let own = string strings found offset in grind (arith, at, own))
  ]

  name_own : (strings : List ℕ) (offset : ℕ) → IsNameAt strings offset (string_in strings offset)
  name_own strings offset = (name_tells strings offset _).1 refl

  name_one : (strings : List ℕ) (offset : ℕ) (a b : List ℕ) → IsNameAt strings offset a → IsNameAt strings offset b → a ≡ b
  name_one strings offset a b x y = (name_tells strings offset a).0 x ∙ sym ((name_tells strings offset b).0 y)

  names_tell : (strings offsets : List ℕ) → Tells (AreNamesAt strings offsets) (map (string_in strings) offsets)
  names_tell strings offsets =
      entries_tell _ _ _ (λ i x y (j, at, x_is) (k, also, y_is). name_one strings j x y x_is (rw (same_some (sym also ∙ at)) at y_is)) (record {
        count = length-map offsets (string_in strings);
        each = λ i name is. (let (offset, at, same) = get_map (string_in strings) offsets i name is in (offset, at, rw same at (name_own strings offset)));
      })

  soname_tells : (strings : List ℕ) (o : Option ℕ) → Tells (IsNameOf strings o) (option_map (string_in strings) o)
  soname_tells strings o name = grind (arith, nameless, named, name_tells)

  -- ---- symbols

  symbols_tell : (part strings : List ℕ) (count : ℕ) → Tells (AreSymbols part strings count) (symbols_in part strings count)
  unfolding symbols_in
  symbols_tell part strings count =
      entries_tell _ count _ (λ i s t (n, e) (m, f). e ∙ ap (symbol_named part (24 * i))
      (name_one strings (symbol_name part (24 * i)) s.name t.name n m) ∙ sym f)
      (table_own _ count (λ at. symbol_named part at (string_in strings (symbol_name part at))) 24 (λ i. (name_own strings (symbol_name part (24 * i)), refl)))

  symbol_range : (tags : List Tag) (count : ℕ) (s : Span)
      → (Some (let t : Span = record { start = value_of tags dt_symtab; size = 24 * count } in t) ≡ Some s) ↔ IsSymbolTable tags count s
  symbol_range tags count s = grind (arith, same_span)

  -- ---- the record

  -- what the bytes of the tables and their entries are
  pub record Reads (parts : DynParts) (strings table words : List ℕ) : Type 0 where
    pub strings_is : strings ≡ strings_in bytes headers parts.tags
    pub table_is : table ≡ symbol_bytes bytes headers parts.tags
    pub words_are : words ≡ relr_words (relr_bytes bytes headers parts.tags)
    pub count : length parts.symbols ≡ count_in bytes headers parts.tags
    pub relocs : parts.relocs ≡ rela_relocs bytes headers parts.tags
    pub slots : parts.plt_relocs ≡ plt_relocs bytes headers parts.tags
    pub places : parts.relr ≡ relr_places (relr_bytes bytes headers parts.tags)
    pub is : parts ≡ parts_in bytes headers parts.tags

  range_tells : (tags : List Tag) (address size : ℕ)
      → Tells (AreBytes bytes headers (IsRange tags address size)) (bytes_in bytes headers (span_of tags address size))
  range_tells tags address size = bytes_tell _ (span_of tags address size) (range_is tags address size)

  rela_tells : (tags : List Tag) → Tells (AreBytes bytes headers (IsRela tags)) (bytes_in bytes headers (rela_span tags))
  rela_tells tags = bytes_tell (IsRela tags) (rela_span tags) (rela_is tags)

  ranges_are : (tags : List Tag) (address size : ℕ) (range : Option Span) → IsThat (IsRange tags address size) range → range ≡ span_of tags address size
  ranges_are tags address size range = that_is (IsRange tags address size) (span_of tags address size) range (range_is tags address size)

  entries_is : {X : Type 0} (at : List ℕ → ℕ → X) (size : ℕ) (part own : List ℕ) (xs : List X)
      → AreEntries (λ i x. x ≡ at part (size * i)) (length part / size) xs → part ≡ own
      → xs ≡ table (at own) 0 size (length own / size)
  entries_is at size part own xs are same = (table_tells _ (at part) size xs).0 are ∙ ap (λ bs. table (at bs) 0 size (length bs / size)) same

  pub read : (parts : DynParts) (say : AreParts bytes headers parts) → Reads parts say.strings say.table say.words
  unfolding parts_in strings_in symbol_bytes relocs_of
  read parts say =
      let tags = parts.tags in
      let strings_is = (range_tells tags dt_strtab dt_strsz _).0 say.are_strings in
      let relocs = entries_is reloc_at 24 say.rela _ parts.relocs say.relocs ((rela_tells tags _).0 say.is_rela) in
      let slots = entries_is reloc_at 24 say.slots _ parts.plt_relocs say.plt_relocs ((range_tells tags dt_jmprel dt_pltrelsz _).0 say.are_slots) in
      let words_are = entries_is (field 8) 8 say.packed _ say.words say.are_words ((range_tells tags dt_relr dt_relrsz _).0 say.is_packed) in
      let relr = places_is say.relr ∙ ap (places_from 0) words_are in
      let count = rw (relocs, slots) at ((count_tells (hash_words bytes headers tags) parts.relocs parts.plt_relocs _).0 say.count) in
      let table_is = rw count at ((bytes_tell _ _ (symbol_range tags (length parts.symbols)) _).0 say.is_table) in
      let symbols = rw (strings_is, table_is, count) at ((symbols_tell say.table say.strings (length parts.symbols) parts.symbols).0 say.symbols) in
      let soname = rw strings_is at ((soname_tells _ _ _).0 say.soname) in
      let needed = rw strings_is at ((names_tell say.strings (values_of tags dt_needed) _).0 say.needed) in
      let first = (first_tells _ _).0 say.first_exported in
      let preinit = ranges_are tags dt_preinit_array dt_preinit_arraysz _ say.preinit in
      let init_array = ranges_are tags dt_init_array dt_init_arraysz _ say.init_array in
      let fini_array = ranges_are tags dt_fini_array dt_fini_arraysz _ say.fini_array in
      let flags = flags_is say.flags in
      record {
        strings_is = strings_is;
        table_is = table_is;
        words_are = words_are;
        count = count;
        relocs = relocs;
        slots = slots;
        places = relr;
        is = rw (
          ← soname,
          ← needed,
          ← symbols,
          ← first,
          ← relocs,
          ← slots,
          ← say.pltgot,
          ← preinit,
          ← say.init,
          ← init_array,
          ← say.fini,
          ← fini_array,
          ← flags,
          ← relr,
        ) refl;
      }

  -- the parts that the functions give are said
  pub say_in : (tags : List Tag) → dynamic_tags bytes headers ≡ Some tags → AreParts bytes headers (parts_in bytes headers tags)
  unfolding parts_in strings_in symbol_bytes relocs_of
  say_in tags are =
      let counted = (symbols_tell (symbol_bytes bytes headers tags) (strings_in bytes headers tags) (count_in bytes headers tags) _).1 refl in
      let same = counted.count in
      record {
        tags = (tags_are tags).0 are;
        strings = strings_in bytes headers tags;
        are_strings = (range_tells tags dt_strtab dt_strsz _).1 refl;
        rela = bytes_in bytes headers (rela_span tags);
        is_rela = (rela_tells tags _).1 refl;
        slots = bytes_in bytes headers (span_of tags dt_jmprel dt_pltrelsz);
        are_slots = (range_tells tags dt_jmprel dt_pltrelsz _).1 refl;
        packed = relr_bytes bytes headers tags;
        is_packed = (range_tells tags dt_relr dt_relrsz _).1 refl;
        table = symbol_bytes bytes headers tags;
        is_table = rw same ((bytes_tell _ _ (symbol_range tags (count_in bytes headers tags)) _).1 refl);
        soname = (soname_tells _ _ _).1 refl;
        needed = (names_tell (strings_in bytes headers tags) (values_of tags dt_needed) _).1 refl;
        relocs = (table_tells _ (reloc_at _) 24 _).1 refl;
        plt_relocs = (table_tells _ (reloc_at _) 24 _).1 refl;
        words = relr_words (relr_bytes bytes headers tags);
        are_words = (table_tells _ (field 8 _) 8 _).1 refl;
        relr = places_own 0 (relr_words (relr_bytes bytes headers tags));
        count = rw same ((count_tells (hash_words bytes headers tags) (rela_relocs bytes headers tags) (plt_relocs bytes headers tags) _).1 refl);
        symbols = rw same counted;
        first_exported = (first_tells (hash_words bytes headers tags) _).1 refl;
        pltgot = refl;
        preinit = range_is tags dt_preinit_array dt_preinit_arraysz;
        init = refl;
        init_array = range_is tags dt_init_array dt_init_arraysz;
        fini = refl;
        fini_array = range_is tags dt_fini_array dt_fini_arraysz;
        flags = flags_own tags;
      }
