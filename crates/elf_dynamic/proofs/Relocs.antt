-- Rules 13, 14 and 16: the first bad symbol, relocation and slot.
use Rattle.std.proofs.Common.{◌≡◌, ◌⊎◌, ◌∙◌, ap, sym, refl, ℕ, zero, suc, ◌+◌, ◌%◌, ◌<◌, ◌==◌, ◌||◌, Bool, true, List, [], ◌∷◌, ◌++◌, length}
use Rattle.std.proofs.Common.{map, not, take, ◌↔◌, Option, Some, arith, inl, inr, ◌&&◌, None, ◌-◌}
use Rattle.std.specs.Prelude.{Decides, option_map, if◌then◌else◌}
use Rattle.std.specs.List.{list_any, slice_get}
use Rattle.std.proofs.lemmas.Bool.Decides.{nat_tests, Decides-eqb}
use Rattle.std.proofs.lemmas.List.{length-map, take-append-le, take-map}
use Rattle.std.proofs.lemmas.Option.{slice_get_within, slice_get-map}
use Rattle.ld_base.specs.declared.object.Reloc.{Reloc}
use Rattle.ld_base.specs.declared.object.Span.{Span}
use Rattle.ld_base.specs.declared.object.Symbol.{Symbol}
use Rattle.ld_base.specs.declared.parts.Header.{Header}
use Rattle.elf_head.specs.AcceptancePart.Lemmas.Finds.{any_at, finds_append, finds_like, finds_position, same_some, Finds}
use Rattle.elf_dynamic.specs.Breaks.{named, IsBadRelocAt, IsBadSymbol, IsBadSymbolAt, SharesBefore, IsBadReloc, IsBadSlot, IsBadSlotAt, IsSlotTable}
use Rattle.elf_dynamic.specs.Breaks.{LeadsToCode}
use Rattle.elf_dynamic.specs.Breaks.IsBadRelocAt.{by_itself, begins_with_bits, bad_place, named_twice}
use Rattle.elf_dynamic.specs.Breaks.IsBadSymbol.{other_binding, no_storage}
use Rattle.elf_dynamic.specs.Memory.{overlaps, in_executable, in_writable}
use Rattle.elf_dynamic.specs.Named.{doubleword, named_by, slot_ranges}
use Rattle.elf_dynamic.specs.Ranges.{IsPlace, Share}
use Rattle.elf_dynamic.specs.Relr.{begins_odd}
use Rattle.elf_dynamic.specs.Rules.{bad_packed, bad_rela, bad_reloc, bad_symbol, has_storage, is_bad_place, is_bad_reloc, is_bad_symbol, bad_slot, is_bad_slot}
use Rattle.elf_dynamic.specs.Rules.{is_bad_table_of_slots, leads_to_code}
use Rattle.elf_head.specs.AcceptancePart.Lemmas.Tests.{both, contrary, either, itself, means, there_decides, or_then, decided, past_decides}
use Rattle.elf_dynamic.proofs.Tests.{place_decides, reloc_decides, share_decides, turn, executable_decides, twice_decides, writable_decides}
use Rattle.std.proofs.Math.Seq.{take-append-add}
use Rattle.elf_dynamic.proofs.Again.{again_finds, Again}
use Rattle.std.specs.Option.{option_or}
use Rattle.ld_base.specs.Field.{field}
use Rattle.elf_head.specs.Readable.{file_bytes}
use Rattle.elf_dynamic.specs.Breaks.IsBadSlot.{other_type, of_null, no_symbol, no_place, no_code, named_by_other, named_by_slot}
use Rattle.elf_dynamic.specs.Breaks.IsBadSlotAt.{bad_slot as bad_at, bad_table as bad_head}

-- ---- rules 13 and 14: the first bad symbol, and the first bad relocation

-- ---- elements of lists that were made of others

pub map_get : {X Y : Type 0} (f : X → Y) (xs : List X) (k : ℕ) (x : X) → slice_get xs k ≡ Some x → slice_get (map f xs) k ≡ Some (f x)
map_get f xs k x e = slice_get-map f xs k ∙ ap (option_map f) e

pub get_map : {X Y : Type 0} (f : X → Y) (xs : List X) (k : ℕ) (y : Y) → slice_get (map f xs) k ≡ Some y → (x : X) × (slice_get xs k ≡ Some x) × (f x ≡ y)
get_map f xs k y e = let at = slice_get-map f xs k in grind arith

pub get_left : {X : Type 0} (xs ys : List X) (k : ℕ) → k < length xs → slice_get (xs ++ ys) k ≡ slice_get xs k
get_left [] ys k within = absurd (omega arith)
get_left (x ∷ xs) ys k within = let rest = get_left xs ys (k - 1) in grind arith

pub get_right : {X : Type 0} (xs ys : List X) (k : ℕ) → slice_get (xs ++ ys) (length xs + k) ≡ slice_get ys k
get_right [] ys k = grind arith
get_right (x ∷ xs) ys k = let rest = get_right xs ys k in grind arith

pub get_both : {X : Type 0} (xs ys : List X) (k : ℕ) (x : X) → slice_get (xs ++ ys) k ≡ Some x
    → (slice_get xs k ≡ Some x) ⊎ ((i : ℕ) × (k ≡ length xs + i) × (slice_get ys i ≡ Some x))
get_both xs ys k x e = let left = get_left xs ys k in let right = get_right xs ys (k - length xs) in grind arith

-- ---- rule 13

symbol_decides : (headers : List Header) (s : Symbol) → Decides (is_bad_symbol (has_storage headers) s) (IsBadSymbol headers s)
symbol_decides headers s =
    let storage = any_at (λ h. h.kind == 7) _ (λ h. Decides-eqb h.kind 7) headers in
    grind (arith, nat_tests, other_binding, no_storage)

pub symbol_finds : (headers : List Header) (symbols : List Symbol) → Finds (IsBadSymbolAt headers symbols) (bad_symbol headers symbols)
unfolding bad_symbol
symbol_finds headers symbols = finds_position (is_bad_symbol (has_storage headers)) (IsBadSymbol headers) (symbol_decides headers) symbols

-- ---- rule 14

get_take : {X : Type 0} (xs : List X) (k j : ℕ) (x : X) → (slice_get (take k xs) j ≡ Some x) ↔ ((j < k) × (slice_get xs j ≡ Some x))
get_take xs zero j x = grind arith
get_take [] (suc k) j x = grind arith
get_take (y ∷ xs) (suc k) zero x = grind arith
get_take (y ∷ xs) (suc k) (suc j) x = let rest = get_take xs k j x in grind arith

shares_decides : (ranges : List Span) (k : ℕ) (a : Span) → slice_get ranges k ≡ Some a → Decides (list_any (overlaps a) (take k ranges)) (SharesBefore ranges k)
shares_decides ranges k a is =
    means (any_at (overlaps a) _ (share_decides a) (take k ranges))
    (λ (j, one, at, share). let (below, stands) = (get_take ranges k j one).0 at in
    record { before = j; is_before = below; one = one; is_one = stands; range = a; is_range = is; share = turn a one share })
    (λ b. (b.before, b.one, (get_take ranges k b.before b.one).1 (b.is_before, b.is_one), turn b.one a (rw (same_some (sym b.is_range ∙ is)) at b.share)))

-- the first word has its lowest bit
odd_decides : (words : List ℕ) → Decides (begins_odd words) ((word : ℕ) × (slice_get words 0 ≡ Some word) × (word % 2 ≡ 1))
odd_decides words = there_decides (λ word. word % 2 == 1) _ (λ word. Decides-eqb (word % 2) 1) (slice_get words 0)

-- 0 where a test passes, and else what is found
first_or : (test : Bool) (P : Type 0) (A : ℕ → Type 0) (o : Option ℕ) → Decides test P → Finds A o
    → Finds (λ i. (P × (i ≡ 0)) ⊎ A i) (if test then Some 0 else o)
first_or test P A o d f = grind arith

module _ (headers : List Header) (symbols : List Symbol) (relocs : List Reloc) (words places : List ℕ) where
  abbrev ranges : List Span
  ranges = map (named_by symbols) relocs

  abbrev all : List Span
  all = named symbols relocs places

  abbrev OfRela : ℕ → Type 0
  OfRela = Again (is_bad_reloc headers symbols) (named_by symbols) [] relocs

  abbrev OfPacked : ℕ → Type 0
  OfPacked i = (((word : ℕ) × (slice_get words 0 ≡ Some word) × (word % 2 ≡ 1)) × (i ≡ 0)) ⊎ Again (is_bad_place headers) doubleword ranges places i

  rela_at : (k : ℕ) (r : Reloc) → slice_get relocs k ≡ Some r
      → Decides (is_bad_reloc headers symbols r || list_any (overlaps (named_by symbols r)) (map (named_by symbols) (take k relocs)))
      (IsBadReloc headers symbols r ⊎ SharesBefore all k)
  rela_at k r is =
      let within : k < length ranges = omega (arith, slice_get_within relocs k r is, length-map relocs (named_by symbols)) in
      let same : take k all ≡ map (named_by symbols) (take k relocs) = take-append-le k ranges _ (omega arith) ∙ take-map (named_by symbols) k relocs in
      rw (← same) (either (reloc_decides headers symbols r) (shares_decides all k _ (get_left ranges _ k within ∙ map_get (named_by symbols) relocs k r is)))

  packed_at : (i v : ℕ) → slice_get places i ≡ Some v
      → Decides (is_bad_place headers v || list_any (overlaps (doubleword v)) (ranges ++ map doubleword (take i places))) ((IsPlace headers v
      → ⊥) ⊎ SharesBefore all (length relocs + i))
  packed_at i v is =
      let same : take (length ranges + i) all ≡ ranges ++ map doubleword (take i places) = rw (take-append-add, take-map) refl in
      rw (← same, ← length-map relocs (named_by symbols))
      (either (place_decides headers v) (shares_decides all _ _ (get_right ranges _ i ∙ map_get doubleword places i v is)))

  to : (k : ℕ) → OfRela k ⊎ ((i : ℕ) × (k ≡ length relocs + i) × OfPacked i) → IsBadRelocAt headers symbols relocs words places k
  to k (inl (r, is, fails)) = elim ((rela_at k r is).0 fails) [ inl bad ↦ by_itself r is bad | inr share ↦ named_twice share ]
  to k (inr (i, e, inl ((word, is, odd), first))) = begins_with_bits word is odd (omega (arith, e, first))
  to k (inr (i, e, inr (v, is, fails))) = elim ((packed_at i v is).0 fails) [ inl bad ↦ bad_place i v e is bad | inr share ↦ named_twice (rw e share) ]

  from : (k : ℕ) → IsBadRelocAt headers symbols relocs words places k → OfRela k ⊎ ((i : ℕ) × (k ≡ length relocs + i) × OfPacked i)
  from k (by_itself r is bad) = inl (r, is, (rela_at k r is).1 (inl bad))
  from k (begins_with_bits word is odd e) = inr (0, omega (arith, e), inl ((word, is, odd), refl))
  from k (bad_place i v e is bad) = inr (i, e, inr (v, is, (packed_at i v is).1 (inl bad)))
  from k (named_twice b) =
      elim (get_both ranges (map doubleword places) k b.range b.is_range) [
        | inl here ↦ let (r, is, own) = get_map (named_by symbols) relocs k b.range here in inl (r, is, (rela_at k r is).1 (inr b))
        | inr (i, at, there) ↦
            let (v, is, own) = get_map doubleword places i b.range there in
            let e : k ≡ length relocs + i = rw length-map at at in
            inr (i, e, inr (v, is, (packed_at i v is).1 (inr (rw e at b))))
      ]

  pub reloc_finds : Finds (IsBadRelocAt headers symbols relocs words places) (bad_reloc headers symbols relocs (begins_odd words) places)
  unfolding bad_reloc bad_rela bad_packed
  reloc_finds =
      finds_like _ (IsBadRelocAt headers symbols relocs words places) to from _
      (finds_append (length relocs) OfRela OfPacked _ _ (λ k (r, is, why). slice_get_within relocs k r is)
      (again_finds (is_bad_reloc headers symbols) (named_by symbols) [] relocs)
      (first_or (begins_odd words) _ _ _ (odd_decides words) (again_finds (is_bad_place headers) doubleword ranges places)))

-- ---- rule 16: the first bad slot, or a bad table of slots

pub code_decides : (bytes : List ℕ) (headers : List Header) (place : ℕ) → Decides (leads_to_code bytes headers place) (LeadsToCode bytes headers place)
code_decides bytes headers place =
    let found = there_decides (λ part. field 8 part 0 % 4 == 0 && in_executable headers (field 8 part 0)) _ (λ part. itself _)
    (file_bytes bytes headers place 8) in
    grind (arith, nat_tests, executable_decides)

-- what is found below n, or else n where a test passes
end_or : (n : ℕ) (A : ℕ → Type 0) (P : Type 0) (o : Option ℕ) (test : Bool) → ((i : ℕ) → A i → i < n) → Finds A o → Decides test P
    → Finds (λ k. A k ⊎ ((k ≡ n) × P)) (option_or o (if test then Some n else None))
end_or n A P o test within f d = grind arith

module _ (bytes : List ℕ) (headers : List Header) (symbols : List Symbol) (others : List Span) (slots : List Reloc) where
  abbrev own_ranges : List Span
  own_ranges = slot_ranges symbols slots

  -- a slot's own range is the one that has its place; any other makes two
  slot_decides : (k : ℕ) (r : Reloc) → slice_get slots k ≡ Some r
      → Decides (is_bad_slot bytes headers symbols others own_ranges r) (IsBadSlot bytes headers symbols others own_ranges k r)
  slot_decides k r is =
      let own : Span = doubleword r.place in
      means
      (or_then
      (either (either (either (either (contrary (Decides-eqb r.kind 5)) (Decides-eqb r.symbol 0)) (past_decides r.symbol (length symbols)))
      (place_decides headers r.place))
      (contrary (code_decides bytes headers r.place)))
      (λ fine.
      let five : r.kind ≡ 5 = decided (Decides-eqb r.kind 5) (λ other. fine (inl (inl (inl (inl other))))) in
      either (any_at (overlaps own) (Share own) (share_decides own) others)
      (twice_decides (overlaps own) (Share own) (share_decides own) own_ranges k own (map_get (named_by symbols) slots k r is ∙ ap Some (rw five refl))
      ((share_decides own own).0 (grind (arith, nat_tests))))))
      (λ why. elim why [
        | inl alone ↦ grind (arith, other_type, of_null, no_symbol, no_place, no_code)
        | inr (inl (j, s, at, share)) ↦ named_by_other j s at share
        | inr (inr (j, other, s, at, share)) ↦ named_by_slot j s other at share
      ])
      (λ bad. grind arith)

  -- ---- the table of slots

  pub table_decides : (start : ℕ)
      → Decides (start % 8 == 0 && in_writable headers (record { start = start; size = 16 }) && not
      (list_any (overlaps (record { start = start; size = 16 })) (others ++ own_ranges)))
      (IsSlotTable headers (others ++ own_ranges) start)
  table_decides start =
      let head : Span = record { start = start; size = 16 } in
      means (both (both (Decides-eqb (start % 8) 0) (writable_decides headers head))
      (contrary (any_at (overlaps head) (Share head) (share_decides head) (others ++ own_ranges))))
      (λ ((a, w), free). record { aligned = a; writable = w; free = λ j s at share. free (j, s, at, share) })
      (λ t. ((t.aligned, t.writable), λ (j, s, at, share). t.free j s at share))

  -- ---- both

  module _ (pltgot : Option ℕ) where
    abbrev BadSlot : ℕ → Type 0
    BadSlot k = (r : Reloc) × (slice_get slots k ≡ Some r) × (is_bad_slot bytes headers symbols others own_ranges r ≡ true)

    abbrev BadHead : Type 0
    BadHead = (0 < length slots) × ((start : ℕ) × (pltgot ≡ Some start) × (IsSlotTable headers (others ++ own_ranges) start → ⊥))

    pub slot_finds : Finds (IsBadSlotAt bytes headers symbols others slots pltgot) (bad_slot bytes headers symbols others slots pltgot)
    unfolding bad_slot
    slot_finds =
        finds_like (λ k. BadSlot k ⊎ ((k ≡ length slots) × BadHead)) (IsBadSlotAt bytes headers symbols others slots pltgot)
        (λ k why. elim why [ inl (r, is, bad) ↦ bad_at r is ((slot_decides k r is).0 bad) | inr (e, (some, (start, at, bad))) ↦ bad_head e some start at bad ])
        (λ k why. elim why [ bad_at r is bad ↦ inl (r, is, (slot_decides k r is).1 bad) | bad_head e some start at bad ↦ inr (e, (some, (start, at, bad))) ]) _
        (end_or (length slots) BadSlot BadHead _ _ (λ k (r, is, bad). slice_get_within slots k r is)
        (finds_position (is_bad_slot bytes headers symbols others own_ranges) _ (λ r. itself (is_bad_slot bytes headers symbols others own_ranges r)) slots)
        (both (λ e. grind (arith, nat_tests), λ some. grind (arith, nat_tests))
        (there_decides (is_bad_table_of_slots headers (others ++ own_ranges)) _ (λ start. contrary (table_decides start)) pltgot)))
