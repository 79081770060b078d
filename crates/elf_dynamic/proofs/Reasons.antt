-- Rules 11 and 15: the least of the tables that are bad, and of the features that are not linked.
use Rattle.std.proofs.Common.{◌≡◌, ◌↔◌, ◌⊎◌, refl, ℕ, suc, ◌≤◌, Bool, false, List, [], ◌∷◌, arith, inl, inr, Option, None, Some, ap, sym, ◌-◌}
use Rattle.std.proofs.Common.{◌==◌, ◌%◌, ◌&&◌, not, length, nat_lt, ◌≢◌, ◌||◌, nat_le}
use Rattle.std.specs.Prelude.{Decides, if◌then◌else◌}
use Rattle.std.specs.Option.{option_or, option_and_then, option_map_or}
use Rattle.elf_dynamic.specs.Rules.{first_bad, are_addresses, bad_table, has_bad_array, has_bad_strings, has_entries, is_bad_table, is_readable, lacks_symbols}
use Rattle.elf_dynamic.specs.Rules.{table_checks, has_type, is_exec, is_other_type, refused_feature}
use Rattle.elf_head.specs.AcceptancePart.Lemmas.Finds.{finds_like, finds_none, Finds, same_some, finds_is}
use Rattle.std.proofs.lemmas.Bool.Decides.{nat_tests, Decides-eqb, Decides-ltb, Decides-at}
use Rattle.ld_base.specs.declared.object.Span.{Span}
use Rattle.ld_base.specs.declared.parts.Tag.{Tag}
use Rattle.elf_head.specs.DynTable.Tag.{last_of, has, value_of, has_flag}
use Rattle.elf_head.specs.DynTable.TagNumbers.{dt_jmprel, dt_pltrelsz, dt_rela, dt_relasz, dt_fini_array, dt_fini_arraysz, dt_gnu_hash, dt_hash, dt_init_array}
use Rattle.elf_head.specs.DynTable.TagNumbers.{dt_init_arraysz, dt_pltgot, dt_pltrel, dt_preinit_array, dt_preinit_arraysz, dt_relaent, dt_relr, dt_relrent, dt_relrsz}
use Rattle.elf_head.specs.DynTable.TagNumbers.{dt_strsz, dt_strtab, dt_syment, dt_symtab, dt_verdef, dt_verdefnum, dt_verneed, dt_verneednum, dt_flags, dt_rel}
use Rattle.elf_head.specs.DynTable.TagNumbers.{dt_textrel}
use Rattle.elf_dynamic.specs.Parts.{IsRange, IsRela, IsTail, Stands}
use Rattle.elf_dynamic.specs.Parts.IsRela.{whole, front}
use Rattle.elf_dynamic.specs.Tables.{is_tail, less_tail, rela_span, span_of}
use Rattle.elf_head.specs.AcceptancePart.Lemmas.Tests.{both, refuted, settle, all_decides, contrary, either, itself, means, there_decides, among}
use Rattle.ld_base.specs.declared.parts.GnuPart.{GnuPart}
use Rattle.ld_base.specs.declared.parts.HashTable.{HashTable}
use Rattle.ld_base.specs.declared.parts.Header.{Header}
use Rattle.ld_base.specs.declared.parts.SysvPart.{SysvPart}
use Rattle.elf_head.specs.AcceptancePart.First.{IsFirst}
use Rattle.elf_dynamic.specs.Breaks.{AreAddresses, AreSlots, HasEntries, IsBadTable, IsHeld, LacksSymbols, known_types, HasFeature, HasType}
use Rattle.elf_dynamic.specs.Breaks.IsArray.{init, fini, preinit}
use Rattle.elf_dynamic.specs.Breaks.IsBadTable.{lacks, no_hash, bad_hash, no_strings, no_symbols, bad_symbols, bad_rela, bad_slots, bad_array, bad_packed}
use Rattle.elf_dynamic.specs.Breaks.IsBadTable.{bad_gnu_hash}
use Rattle.elf_dynamic.specs.Breaks.LacksSymbols.{none as no_symbol, not_held}
use Rattle.elf_dynamic.specs.Breaks.Needs.{size_of_rela, size_of_slots, size_of_init, size_of_fini, size_of_preinit, size_of_packed, number_of_defined}
use Rattle.elf_dynamic.specs.Breaks.Needs.{number_of_needed}
use Rattle.elf_dynamic.proofs.Tests.{stands_decides}
use Rattle.std.specs.List.{list_any, slice_get}
use Rattle.ld_base.specs.Symbol.{binding, type_of, is_defined}
use Rattle.ld_base.specs.declared.object.Kind.{Kind}
use Rattle.ld_base.specs.declared.object.Kind.TheVariants.{Exec}
use Rattle.ld_base.specs.declared.object.Reloc.{Reloc}
use Rattle.ld_base.specs.declared.object.Symbol.{Symbol}
use Rattle.ld_base.specs.declared.parts.Head.{Head}
use Rattle.elf_head.specs.Header.{is_loaded}
use Rattle.elf_dynamic.specs.Breaks.HasFeature.{indirect_function, irelative, unique_symbol, tls_descriptor, reloc_32, rel_table, text_relocations}
use Rattle.elf_dynamic.specs.Breaks.HasFeature.{copy_in_library, other_relocation, open_segment, fixed_library}
use Rattle.elf_dynamic.specs.Ranges.{is_executable, is_writable}

-- ---- the least of numbers that ascend, each with a test

-- a number, and what its test decides
abbrev pub Reason : Type 1
Reason = (number : ℕ) × (test : Bool) × (Why : Type 0) × Decides test Why

abbrev pub tests : List Reason → List (ℕ × Bool)
tests [] = []
tests (r ∷ rs) = (r.0, r.1) ∷ tests rs

abbrev pub Ascends : ℕ → List Reason → Type 0
Ascends low [] = Unit {0}
Ascends low (r ∷ rs) = (low ≤ r.0) × Ascends (suc r.0) rs

-- this number is one of these, for its reason
abbrev pub HasReason : List Reason → ℕ → Type 0
HasReason [] n = ⊥
HasReason (r ∷ rs) n = ((n ≡ r.0) × r.2) ⊎ HasReason rs n

above : (low : ℕ) (rs : List Reason) → Ascends low rs → (n : ℕ) → HasReason rs n → low ≤ n
above low [] up n why = absurd why
above low (r ∷ rs) up n why = let more = above (suc r.0) rs up.1 n in grind arith

pub reason_finds : (low : ℕ) (rs : List Reason) → Ascends low rs → Finds (HasReason rs) (first_bad (tests rs))
reason_finds low [] up = λ n why. why
reason_finds low ((m, test, P, d) ∷ rs) up =
    let more = above (suc m) rs up.1 in
    let rest = reason_finds (suc m) rs up.1 in
    grind arith

-- ---- what is found first, or else in another way

pub finds_nothing : (Bad : ℕ → Type 0) (o : Option ℕ) → Finds Bad o → (o ≡ None) ↔ ((n : ℕ) → Bad n → ⊥)
finds_nothing Bad o f = (λ none. rw none at f, finds_none Bad o f)

pub or_else : {X : Type 0} {o p : Option X} {x : X} {P N Q : Type 0} → (o ≡ Some x) ↔ P → (o ≡ None) ↔ N → (p ≡ Some x) ↔ Q → (option_or o p ≡ Some x)
    ↔ (P ⊎ (N × Q))
or_else a b c = grind arith

pub if_some : {X : Type 0} {b : Bool} {P : Type 0} (v x : X) → Decides b P → ((if b then Some v else None) ≡ Some x) ↔ (P × (x ≡ v))
if_some v x d = grind arith

-- ---- the ranges that tags name

pub and_then : {A B : Type 0} (f : A → Option B) (o : Option A) (y : B) → option_and_then f o ≡ Some y → (x : A) × (o ≡ Some x) × (f x ≡ Some y)
and_then f None y e = absurd cc
and_then f (Some x) y e = (x, refl, e)

pub same_span : (s t : Span) → s.start ≡ t.start → s.size ≡ t.size → s ≡ t
same_span s t a b = λ i. record { start = a i; size = b i }

pub range_is : (tags : List Tag) (address size : ℕ) (s : Span) → (span_of tags address size ≡ Some s) ↔ IsRange tags address size s
unfolding span_of
range_is tags address size s =
    grind (arith, nat_tests)

tail_decides : (slots all : Span) → Decides (is_tail slots all) (IsTail slots all)
tail_decides slots all = grind (arith, nat_tests)

module _ (tags : List Tag) (s : Span) where
  abbrev Slots : Option Span → Type 0
  Slots p = (x : Span) → (p ≡ Some x) ↔ IsRange tags dt_jmprel dt_pltrelsz x

  -- what is left of the table that there is
  to_rela : (all : Span) (p : Option Span) → Slots p → IsRange tags dt_rela dt_relasz all → less_tail p all ≡ Some s → IsRela tags s
  to_rela all None slots r e = whole (rw (same_some e) at r) (λ x t tail. absurd (let there = (slots x).1 t in cc))
  to_rela all (Some plt) slots r e =
      elim (settle (tail_decides plt all)) [
        | inr apart ↦
            let same : all ≡ s = same_some (rw (refuted (tail_decides plt all) apart) at e) in
            whole (rw same at r) (λ x t tail. apart (rw (same, same_some ((slots x).1 t)) tail))
        | inl tail ↦ elim (settle (Decides-eqb plt.start all.start)) [
          | inl none ↦ absurd (let e : None ≡ Some s = rw ((tail_decides plt all).1 tail, (Decides-eqb plt.start all.start).1 none) at e in cc)
          | inr some ↦
              let same = same_some (rw ((tail_decides plt all).1 tail, refuted (Decides-eqb plt.start all.start) some) at e) in
              let start : s.start ≡ all.start = sym (ap (λ (z : Span). z.start) same) in
              let size : s.size ≡ plt.start - all.start = sym (ap (λ (z : Span). z.size) same) in
              let low = tail.0 in
              front all plt r ((slots plt).0 refl) tail start (omega arith) (omega arith)
        ]
      ]

  whole_left : (p : Option Span) → ((x : Span) → p ≡ Some x → IsTail x s → ⊥) → less_tail p s ≡ Some s
  whole_left None apart = refl
  whole_left (Some plt) apart = rw (refuted (tail_decides plt s) (apart plt refl)) refl

  from_rela : (a p : Option Span) → ((x : Span) → IsRange tags dt_rela dt_relasz x → a ≡ Some x) → Slots p → IsRela tags s
      → option_and_then (less_tail p) a ≡ Some s
  from_rela a p rela slots (whole r apart) = rw (rela s r) (whole_left p (λ x is. apart x ((slots x).0 is)))
  from_rela a p rela slots (front x y r t tail begins ends some) = rw (rela x r, (slots y).1 t) (grind (arith, nat_tests, same_span))

pub rela_is : (tags : List Tag) (s : Span) → (rela_span tags ≡ Some s) ↔ IsRela tags s
unfolding rela_span
rela_is tags s = (
  λ e. let (all, is, left) = and_then (less_tail (span_of tags dt_jmprel dt_pltrelsz)) _ s e in
      to_rela tags s all _ (range_is tags dt_jmprel dt_pltrelsz) ((range_is tags dt_rela dt_relasz all).0 is) left,
  from_rela tags s _ _ (λ x. (range_is tags dt_rela dt_relasz x).1) (range_is tags dt_jmprel dt_pltrelsz),
)

-- ---- rule 11: the first bad table

ruleset of_table = (lacks, no_hash, bad_hash, no_strings, no_symbols, bad_symbols, bad_slots, bad_array, bad_packed, bad_gnu_hash, init, fini, preinit)

ruleset of_tags = (size_of_rela, size_of_slots, size_of_init, size_of_fini, size_of_preinit, size_of_packed, number_of_defined, number_of_needed)

ruleset of_relocs = (irelative, tls_descriptor, reloc_32, copy_in_library, other_relocation)

lacks_decides : (tags : List Tag) (tag : ℕ) → Decides (not (has tags tag)) (last_of tags tag ≡ None)
lacks_decides tags tag = grind arith

-- a range of which R holds, and that doesn't fit
abbrev Unfit : (Span → Type 0) → (Span → Type 0) → Type 0
Unfit R Fits = (s : Span) × R s × (Fits s → ⊥)

unfit_decides : {fits : Span → Bool} {Fits : Span → Type 0} (R : Span → Type 0) (o : Option Span) → ((s : Span) → (o ≡ Some s) ↔ R s)
    → ((s : Span) → Decides (fits s) (Fits s))
    → Decides (option_map_or (λ s. not (fits s)) o false) (Unfit R Fits)
unfit_decides {fits} R o is each =
    let found = there_decides (λ s. not (fits s)) _ (λ s. contrary (each s)) o in grind (arith, is)

module _ (headers : List Header) (tags : List Tag) where
  abbrev LacksOther : ℕ → ℕ → Type 0
  LacksOther tag other = Stands tags tag × (last_of tags other ≡ None)

  other_decides : (tag other : ℕ) → Decides (has tags tag && not (has tags other)) (LacksOther tag other)
  other_decides tag other = grind (arith, stands_decides)

  entries_decides : (entry size : ℕ) (s : Span) → Decides (has_entries tags entry size s && is_readable headers s) (HasEntries headers tags entry size s)
  entries_decides entry size s = grind (arith, nat_tests)

  pub slots_decides : (s : Span)
      → Decides (value_of tags dt_pltrel == dt_rela && has tags dt_pltgot && s.size % 24 == 0 && is_readable headers s) (AreSlots headers tags s)
  slots_decides s = grind (arith, nat_tests, stands_decides)

  addresses_decides : (s : Span) → Decides (are_addresses headers s) (AreAddresses headers s)
  addresses_decides s = grind (arith, nat_tests)

  -- ---- each table

  named_by_two : {fits : Span → Bool} {Fits : Span → Type 0} (address size : ℕ) → ((s : Span) → Decides (fits s) (Fits s))
      → Decides (is_bad_table tags address size fits) (LacksOther address size ⊎ Unfit (IsRange tags address size) Fits)
  named_by_two address size each = either (other_decides address size) (unfit_decides _ (span_of tags address size) (range_is tags address size) each)

  array : (address size : ℕ) → Decides (has_bad_array headers tags address size)
      (LacksOther address size ⊎ Unfit (IsRange tags address size) (AreAddresses headers))
  array address size = named_by_two address size addresses_decides

  strings : Decides (has_bad_strings headers tags) ((s : Span) → IsRange tags dt_strtab dt_strsz s → IsHeld headers s → ⊥)
  strings =
      means (all_decides (λ s. not (is_readable headers s)) _ (λ s. contrary (itself (is_readable headers s))) (span_of tags dt_strtab dt_strsz))
      (λ all s is. all s ((range_is tags dt_strtab dt_strsz s).1 is)) (λ all s is. all s ((range_is tags dt_strtab dt_strsz s).0 is))

  module _ (words : HashTable) where
    abbrev Bad : ℕ → Type 0
    Bad = IsBadTable headers tags words

    abbrev reasons : List Reason
    reasons =
        let buckets = all_decides (λ (s : SysvPart). not (nat_lt 0 (length s.buckets))) _ (λ s. contrary (Decides-ltb 0 (length s.buckets))) words.sysv in
        let none = λ (g : GnuPart). contrary (both (Decides-ltb 0 (length g.buckets)) (Decides-ltb 0 (length g.bloom))) in
        (dt_hash, _, _, either (both (lacks_decides tags dt_hash) (lacks_decides tags dt_gnu_hash)) (both (stands_decides tags dt_hash) buckets))
        ∷ (dt_strtab, _, _, strings)
        ∷ (dt_symtab, _, _, either (lacks_decides tags dt_symtab) (contrary (Decides-eqb (value_of tags dt_syment) 24)))
        ∷ (dt_rela, _, _, either (other_decides dt_rela dt_relasz) (unfit_decides _ (rela_span tags) (rela_is tags) (entries_decides dt_relaent 24)))
        ∷ (dt_jmprel, _, _, named_by_two dt_jmprel dt_pltrelsz slots_decides)
        ∷ (dt_init_array, _, _, array dt_init_array dt_init_arraysz)
        ∷ (dt_fini_array, _, _, array dt_fini_array dt_fini_arraysz)
        ∷ (dt_preinit_array, _, _, array dt_preinit_array dt_preinit_arraysz)
        ∷ (dt_relr, _, _, named_by_two dt_relr dt_relrsz (entries_decides dt_relrent 8))
        ∷ (dt_gnu_hash, _, _, both (stands_decides tags dt_gnu_hash) (all_decides _ _ none words.gnu))
        ∷ (dt_verdef, _, _, other_decides dt_verdef dt_verdefnum)
        ∷ (dt_verneed, _, _, other_decides dt_verneed dt_verneednum)
        ∷ []

    unfit_rela : Unfit (IsRela tags) (HasEntries headers tags dt_relaent 24) → Bad dt_rela
    unfit_rela (s, is, bad) = bad_rela s is bad

    to : (n : ℕ) → HasReason reasons n → Bad n
    to n why = grind (arith, of_table, of_tags, unfit_rela)

    from : (n : ℕ) → Bad n → HasReason reasons n
    from n bad = grind arith

    tables_find : Finds Bad (first_bad (table_checks headers tags words))
    tables_find = finds_like (HasReason reasons) Bad to from _ (reason_finds 0 reasons (omega arith))

    -- ---- and the symbols

    lacking : (count : ℕ) → Decides (lacks_symbols headers tags count) (LacksSymbols headers tags count)
    lacking count = grind (arith, nat_tests, no_symbol, not_held)

    pub table_first : (count tag : ℕ) → (bad_table headers tags words count ≡ Some tag)
        ↔ (IsFirst Bad tag ⊎ (((n : ℕ) → Bad n → ⊥) × (LacksSymbols headers tags count × (tag ≡ dt_symtab))))
    unfolding bad_table
    table_first count tag = or_else (finds_is Bad _ tag tables_find) (finds_nothing Bad _ tables_find) (if_some dt_symtab tag (lacking count))

-- ---- rule 15: the least feature that isn't linked

type_decides : (kind : ℕ) (relocs : List Reloc) → Decides (has_type kind relocs) (HasType kind relocs)
type_decides kind relocs = among (λ r. Decides-eqb r.kind kind) relocs

other_type_decides : (r : Reloc) → Decides (is_other_type r) ((j kind : ℕ) → slice_get known_types j ≡ Some kind → r.kind ≢ kind)
other_type_decides r =
    means (Decides-at _ _ (same r.kind) (contrary (among (Decides-eqb r.kind) known_types))) (λ none j kind is same. none (j, kind, is, same))
    (λ none (j, kind, is, same). none j kind is same)
  where
    same : (n : ℕ) → not (n == 0 || nat_le 1 n && nat_le n 5 || n == 7 || n == 9 || n == 11 || n == 12 || n == 58)
        ≡ not (list_any (λ kind. n == kind) known_types)
    same n = grind (arith, nat_tests)

library_decides : (program : Bool) → Decides (not program) (program ≡ false)
library_decides program = grind arith

exec_decides : (k : Kind) → Decides (is_exec k) (k ≡ Exec)
exec_decides k = grind arith

module _ (head : Head) (program : Bool) (tags : List Tag) (symbols : List Symbol) (relocs : List Reloc) where
  abbrev whys : List Reason
  whys =
      (1, _, _, among (λ (s : Symbol). both (itself (is_defined s)) (Decides-eqb (type_of s) 10)) symbols)
      ∷ (2, _, _, type_decides 58 relocs)
      ∷ (3, _, _, among (λ (s : Symbol). Decides-eqb (binding s) 10) symbols)
      ∷ (4, _, _, type_decides 12 relocs)
      ∷ (5, _, _, type_decides 1 relocs)
      ∷ (6, _, _, stands_decides tags dt_rel)
      ∷ (7, _, _, either (stands_decides tags dt_textrel) (itself (has_flag tags dt_flags 4)))
      ∷ (8, _, _, both (library_decides program) (type_decides 4 relocs))
      ∷ (9, _, _, among other_type_decides relocs)
      ∷ (11, _, _, among (λ h. both (both (itself (is_loaded h)) (itself (is_writable h))) (itself (is_executable h))) head.headers)
      ∷ (12, _, _, both (library_decides program) (exec_decides head.kind))
      ∷ []

  to_feature : (n : ℕ) → HasReason whys n → HasFeature head program tags symbols relocs n
  to_feature n why =
      grind (arith, of_relocs, indirect_function, unique_symbol, rel_table, text_relocations, open_segment, fixed_library)

  from_feature : (n : ℕ) → HasFeature head program tags symbols relocs n → HasReason whys n
  from_feature n has = grind arith

  pub feature_finds : Finds (HasFeature head program tags symbols relocs) (refused_feature head program tags symbols relocs)
  unfolding refused_feature
  feature_finds = finds_like (HasReason whys) _ to_feature from_feature _ (reason_finds 0 whys (omega arith))
