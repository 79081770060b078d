-- No two relocations of an accepted object name one byte.
use Rattle.std.proofs.Common.{◌≡◌, ◌≢◌, ℕ, ◌+◌, ◌<◌, ◌==◌, ◌||◌, true, false, List, ◌++◌, length, get_or, map, arith, sym, ◌∙◌, inl, inr, length-append}
use Rattle.std.proofs.lemmas.Bool.{cases_Bool, eqb-true, false≢true}
use Rattle.std.proofs.lemmas.List.{get_or-append-add, get_or-map, length-map}
use Rattle.std.specs.List.{AllPairs}
use Rattle.ld_base.specs.declared.object.Object.{Object}
use Rattle.ld_base.specs.declared.object.Reloc.{Reloc}
use Rattle.ld_base.specs.declared.object.Span.{Span}
use Rattle.seg_image.specs.Accepted.{Accepted, AreApart, doubleword, named, named_by, symbol_size}
use Rattle.seg_image.specs.Pages.{IsInside}
use Rattle.relocator.specs.Bindings.{is_copy}
use Rattle.relocator.specs.Relocated.{fills_word}
use Rattle.relocator.proofs.Fronts.{pairs_across, pairs_left, pairs_right}

-- two doublewords that are apart have two places
apart_places : (a b : ℕ) → AreApart (doubleword a) (doubleword b) → a ≢ b
apart_places a b apart same = apart (omega arith) (omega arith) (omega arith) (omega arith)

-- a type that fills a word is neither NONE nor COPY
other_kind : (r : Reloc) (kind : ℕ) → fills_word r ≡ true → ((k : ℕ) → (k ≡ kind) → (k == 2 || k == 3 || k == 7 || k == 9 || k == 11) ≡ false) → (r.kind == kind) ≡ false
other_kind r kind fills not_it =
    elim (cases_Bool (r.kind == kind)) [
      | inl is ↦ absurd (false≢true (sym (not_it r.kind (eqb-true r.kind kind is)) ∙ fills))
      | inr other ↦ other
    ]

pub not_none : (r : Reloc) → fills_word r ≡ true → (r.kind == 0) ≡ false
not_none r fills = other_kind r 0 fills (λ k same. rw same)

pub not_copy : (r : Reloc) → fills_word r ≡ true → (r.kind == 4) ≡ false
not_copy r fills = other_kind r 4 fills (λ k same. rw same)

pub names_word : (o : Object) (r : Reloc) → fills_word r ≡ true → named_by o r ≡ doubleword r.place
names_word o r fills = rw (not_none r fills, not_copy r fills)

pub names_copy : (o : Object) (r : Reloc) → is_copy r ≡ true → named_by o r ≡ record { start = r.place; size = symbol_size o r }
names_copy o r copy = let kind = eqb-true r.kind 4 copy in rw kind

module _ (o : Object) (a : Accepted o) where
  abbrev pub relas : List Span
  relas = map (named_by o) o.relocs

  abbrev pub packed : List Span
  packed = map doubleword o.relr

  abbrev pub slots : List Span
  slots = map (λ r. doubleword r.place) o.plt_relocs

  pub all_apart : AllPairs AreApart ((relas ++ packed) ++ slots)
  unfolding named
  all_apart = a.apart

  relas_apart : (i j : ℕ) (d : Reloc) → i < j → j < length o.relocs → AreApart (named_by o (get_or o.relocs i d)) (named_by o (get_or o.relocs j d))
  relas_apart i j d less within =
      let pair = pairs_left AreApart relas packed (pairs_left AreApart (relas ++ packed) slots all_apart) i j (doubleword 0) less (rw (length-map o.relocs (named_by o)) within) in
      rw (get_or-map (named_by o) o.relocs i d (doubleword 0) (omega arith), get_or-map (named_by o) o.relocs j d (doubleword 0) within) at pair

  pub words_apart : (i j : ℕ) (d : Reloc) → i < j → j < length o.relocs → fills_word (get_or o.relocs i d) ≡ true → fills_word (get_or o.relocs j d) ≡ true
      → (get_or o.relocs i d).place ≢ (get_or o.relocs j d).place
  words_apart i j d less within first second =
      apart_places _ _ (rw (names_word o (get_or o.relocs i d) first, names_word o (get_or o.relocs j d) second) at (relas_apart i j d less within))

  pub copies_apart : (i j : ℕ) (d : Reloc) → i < j → j < length o.relocs → is_copy (get_or o.relocs i d) ≡ true → is_copy (get_or o.relocs j d) ≡ true
      → AreApart (record { start = (get_or o.relocs i d).place; size = symbol_size o (get_or o.relocs i d) }) (record { start = (get_or o.relocs j d).place; size = symbol_size o (get_or o.relocs j d) })
  copies_apart i j d less within first second =
      rw (names_copy o (get_or o.relocs i d) first, names_copy o (get_or o.relocs j d) second) at (relas_apart i j d less within)

  pub packed_apart : (i j : ℕ) → i < j → j < length o.relr → get_or o.relr i 0 ≢ get_or o.relr j 0
  packed_apart i j less within =
      let pair = pairs_right AreApart relas packed (pairs_left AreApart (relas ++ packed) slots all_apart) i j (doubleword 0) less (rw (length-map o.relr doubleword) within) in
      apart_places _ _ (rw (get_or-map doubleword o.relr i 0 (doubleword 0) (omega arith), get_or-map doubleword o.relr j 0 (doubleword 0) within) at pair)

  pub slot_span : (j : ℕ) (d : Reloc) → j < length o.plt_relocs → get_or slots j (doubleword 0) ≡ doubleword (get_or o.plt_relocs j d).place
  slot_span j d within = get_or-map (λ r. doubleword r.place) o.plt_relocs j d (doubleword 0) within

  pub slots_apart : (i j : ℕ) (d : Reloc) → i < j → j < length o.plt_relocs → (get_or o.plt_relocs i d).place ≢ (get_or o.plt_relocs j d).place
  slots_apart i j d less within =
      let pair = pairs_right AreApart (relas ++ packed) slots all_apart i j (doubleword 0) less (rw (length-map o.plt_relocs (λ r. doubleword r.place)) within) in
      apart_places _ _ (rw (slot_span i d (omega arith), slot_span j d within) at pair)

  pub packed_slot : (i j : ℕ) (d : Reloc) → i < length o.relr → j < length o.plt_relocs → get_or o.relr i 0 ≢ (get_or o.plt_relocs j d).place
  packed_slot i j d in_packed in_slots =
      let long = length-map o.relr doubleword in
      let pair = pairs_across AreApart (relas ++ packed) slots all_apart (length relas + i) j (doubleword 0) (omega (arith, length-append relas packed)) (rw (length-map o.plt_relocs (λ r. doubleword r.place)) in_slots) in
      apart_places _ _ (rw (get_or-append-add relas packed i (doubleword 0), get_or-map doubleword o.relr i 0 (doubleword 0) in_packed, slot_span j d in_slots) at pair)

  -- the bytes of a copy lie in the memory of a segment
  pub copy_inside : (n k : ℕ) (d : Reloc) → n < length o.relocs → is_copy (get_or o.relocs n d) ≡ true → k < symbol_size o (get_or o.relocs n d) → IsInside o ((get_or o.relocs n d).place + k)
  copy_inside n k d within copy less =
      let w = (a.relocs n d within).copy copy (omega arith) in
      let span = names_copy o (get_or o.relocs n d) copy in
      let low = rw span at w.low in
      let high = rw span at w.high in
      record { segment = w.segment; at = w.at; is = w.is; low = omega arith; high = omega arith }
