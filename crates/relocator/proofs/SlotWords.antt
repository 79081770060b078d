-- The word at a slot's place: what the slot is bound to, or the file's word, moved.
use Rattle.std.proofs.Common.{◌≡◌, ◌≢◌, inl, inr, ℕ, zero, suc, ◌+◌, ◌*◌, ◌/◌, ◌%◌, ◌^◌, ◌<◌, ◌≤◌, ◌==◌, ◌&&◌, not, Bool, true, false, cond, leb, ltb, List, [], ◌∷◌, ◌++◌, length, get_or, Option, Some, None, refl, sym, ap, subst, ◌∙◌, arith, length-append, lit<}
use Rattle.std.specs.Prelude.{if◌then◌else◌, unwrap_or}
use Rattle.std.specs.List.{find, slice_get, zip}
use Rattle.std.specs.Option.{option_map}
use Rattle.std.proofs.lemmas.Bool.{and_parts, and_right, cases_order, eq-eqb, eqb-true, leb-true, ltb-true, ne_eqb, true≢false}
use Rattle.std.proofs.lemmas.List.{get_or-append-add, get_or-map, get_or_append_left, length-map}
use Rattle.std.proofs.lemmas.List.Elements.{All-get_or}
use Rattle.std.proofs.lemmas.Option.{get_or_from_slice_get, slice_get_within}
use Rattle.ld_base.specs.declared.object.Object.{Object}
use Rattle.ld_base.specs.declared.object.Reloc.{Reloc}
use Rattle.ld_base.specs.declared.object.Span.{Span}
use Rattle.seg_image.specs.Accepted.{Accepted, AreApart, IsPlace, doubleword, named, named_by, symbol_size}
use Rattle.seg_image.specs.Roles.{is_linkers}
use Rattle.seg_image.specs.Words.{byte_of, word_of}
use Rattle.relocator.specs.declared.binding.Binding.{Binding}
use Rattle.relocator.specs.declared.binding.ModulePlace.{ModulePlace}
use Rattle.relocator.specs.Bindings.{AreCopied, is_copy, relas_of, slots_of}
use Rattle.relocator.specs.Relocated.{copied_at, fills_word, image_byte, image_word, linkers_at, moved_word, rela_at, settled_word, slot_at, slot_word, value_of, with_copies}
use Rattle.relocator.proofs.Apart.{all_apart, names_copy, names_word, packed, relas, slot_span, slots, slots_apart}
use Rattle.relocator.proofs.Fronts.{pairs_across}
use Rattle.relocator.proofs.Overlays.{word_back}

-- ---- searches

found_at : {X : Type 0} (p : X → Bool) (xs : List X) (x : X) → find p xs ≡ Some x → (n : ℕ) × (slice_get xs n ≡ Some x) × (p x ≡ true)
found_at {X} p [] x e = absurd (let d : None ≡ Some x = e in cc)
found_at {X} p (y ∷ ys) x e = at (λ f. found_at p ys x f) (p y) refl e
  where
    at : (find p ys ≡ Some x → (n : ℕ) × (slice_get ys n ≡ Some x) × (p x ≡ true)) → (t : Bool) → p y ≡ t → cond t (Some y) (find p ys) ≡ Some x → (n : ℕ) × (slice_get (y ∷ ys) n ≡ Some x) × (p x ≡ true)
    at again true is f = let same : y ≡ x = cc in (0, f, sym (ap p same) ∙ is)
    at again false is f = let rest = again f in (suc rest.0, rest.1, rest.2)

none_at : {X : Type 0} (p : X → Bool) (xs : List X) (n : ℕ) (x : X) → find p xs ≡ None → slice_get xs n ≡ Some x → p x ≡ false
none_at {X} p [] n x e at = absurd (let d : None ≡ Some x = at in cc)
none_at {X} p (y ∷ ys) n x e at = by (λ f m h. none_at p ys m x f h) (p y) refl e n at
  where
    by : (find p ys ≡ None → (m : ℕ) → slice_get ys m ≡ Some x → p x ≡ false) → (t : Bool) → p y ≡ t → cond t (Some y) (find p ys) ≡ None → (m : ℕ) → slice_get (y ∷ ys) m ≡ Some x → p x ≡ false
    by again true is f m h = absurd (let d : Some y ≡ None = f in cc)
    by again false is f zero h = let same : y ≡ x = cc in sym (ap p same) ∙ is
    by again false is f (suc m) h = again f m h

-- nothing is found where nothing passes
find_no : {X : Type 0} (p : X → Bool) (xs : List X) → ((n : ℕ) (x : X) → slice_get xs n ≡ Some x → p x ≡ true → ⊥) → find p xs ≡ None
find_no {X} p xs never = at (find p xs) refl
  where
    at : (found : Option X) → find p xs ≡ found → find p xs ≡ None
    at None e = e
    at (Some x) e = let f = found_at p xs x e in absurd (never f.0 x f.1 f.2)

zip_first : {X Y : Type 0} (xs : List X) (ys : List Y) (n : ℕ) (p : X × Y) → slice_get (zip xs ys) n ≡ Some p → slice_get xs n ≡ Some p.0
zip_first {X} {Y} [] ys n p e = absurd (let d : None ≡ Some p = e in cc)
zip_first {X} {Y} (x ∷ xs) [] n p e = absurd (let d : None ≡ Some p = e in cc)
zip_first {X} {Y} (x ∷ xs) (y ∷ ys) zero p e = let same : (x, y) ≡ p = cc in ap (λ (q : X × Y). Some q.0) same
zip_first (x ∷ xs) (y ∷ ys) (suc n) p e = zip_first xs ys n p e

-- words whose eight bytes are the same are the same
words_alike : (f g : ℕ → ℕ) (v : ℕ) → ((i : ℕ) → i < 8 → f (v + i) ≡ g (v + i)) → word_of f v ≡ word_of g v
unfolding word_of
words_alike f g v same =
    rw (same 0 (lit< tt), same 1 (lit< tt), same 2 (lit< tt), same 3 (lit< tt), same 4 (lit< tt), same 5 (lit< tt), same 6 (lit< tt), same 7 (lit< tt))

module _ (o : Object) (a : Accepted o) (bindings : List Binding) (copied : AreCopied o bindings) (k : ℕ) (r : Reloc) (b : Binding) (at : slice_get (slots_of o bindings) k ≡ Some (r, b)) where
  slot_is : slice_get o.plt_relocs k ≡ Some r
  slot_is = zip_first o.plt_relocs _ k (r, b) at

  within : k < length o.plt_relocs
  within = slice_get_within o.plt_relocs k r slot_is

  the_slot : (d : Reloc) → get_or o.plt_relocs k d ≡ r
  the_slot d = get_or_from_slice_get o.plt_relocs k r d slot_is

  aligned : r.place % 8 ≡ 0
  aligned = let place : IsPlace o r.place = rw (the_slot r) at (a.slots k r within) in place.aligned

  -- what a relocation of DT_RELA names is apart from the slot
  rela_slot : (n : ℕ) (q : Reloc) → slice_get o.relocs n ≡ Some q → AreApart (named_by o q) (doubleword r.place)
  rela_slot n q there =
      let less = slice_get_within o.relocs n q there in
      let long = length-map o.relocs (named_by o) in
      let pair = pairs_across AreApart (relas o a ++ packed o a) (slots o a) (all_apart o a) n k (doubleword 0) (omega (arith, length-append (relas o a) (packed o a))) (rw (length-map o.plt_relocs (λ x. doubleword x.place)) within) in
      rw (get_or_append_left (relas o a) (packed o a) (doubleword 0) n (omega arith), get_or-map (named_by o) o.relocs n q (doubleword 0) less, slot_span o a k r within, the_slot r, get_or_from_slice_get o.relocs n q q there) at pair

  -- no copy's byte is one of the slot's
  no_copy : (i : ℕ) → i < 8 → copied_at (relas_of o bindings) (r.place + i) ≡ None
  unfolding copied_at
  no_copy i small = ap (option_map _) (find_no _ (relas_of o bindings) (λ n x there passes.
      let parts = and_parts (is_copy x.0) (leb x.0.place (r.place + i) && ltb (r.place + i) (x.0.place + length x.1.copied)) passes in
      let span = and_parts (leb x.0.place (r.place + i)) (ltb (r.place + i) (x.0.place + length x.1.copied)) parts.1 in
      let from : x.0.place ≤ r.place + i = leb-true x.0.place (r.place + i) span.0 in
      let to : r.place + i < x.0.place + length x.1.copied = ltb-true (r.place + i) (x.0.place + length x.1.copied) span.1 in
      let few : length x.1.copied ≤ symbol_size o x.0 = copied n x.0 x.1 there parts.0 in
      let apart : AreApart (record { start = x.0.place; size = symbol_size o x.0 }) (doubleword r.place) =
      subst (λ (s : Span). AreApart s (doubleword r.place)) (names_copy o x.0 parts.0) (rela_slot n x.0 (zip_first o.relocs bindings n x there)) in
      apart (omega (arith, from, to, few, small)) (omega arith) (omega (arith, from, small)) (omega (arith, to, few))))

  -- no relocation of DT_RELA fills the slot
  no_rela : (base serial : ℕ) (places : List ModulePlace) → rela_at base serial places (relas_of o bindings) r.place ≡ None
  unfolding rela_at
  no_rela base serial places = ap (option_map (value_of base serial places)) (find_no _ (relas_of o bindings) (λ n x there passes.
      let parts = and_parts (x.0.place == r.place) (fills_word x.0) passes in
      let same : x.0.place ≡ r.place = eqb-true x.0.place r.place parts.0 in
      let apart : AreApart (doubleword x.0.place) (doubleword r.place) =
      subst (λ (s : Span). AreApart s (doubleword r.place)) (names_word o x.0 parts.1) (rela_slot n x.0 (zip_first o.relocs bindings n x there)) in
      apart (omega arith) (omega arith) (omega (arith, same)) (omega (arith, same))))

  -- it isn't one of the linker's words
  no_linkers : (serial : ℕ) → linkers_at o serial r.place ≡ None
  unfolding linkers_at named
  no_linkers serial =
      let table = a.table (omega (arith, within)) in
      let apart : AreApart (record { start = table.0; size = 16 }) (doubleword r.place) =
      rw (get_or-append-add (relas o a ++ packed o a) (slots o a) k (doubleword 0), slot_span o a k r within, the_slot r)
      at (All-get_or (AreApart (record { start = table.0; size = 16 })) ((relas o a ++ packed o a) ++ slots o a) (length (relas o a ++ packed o a) + k) (doubleword 0)
      (omega (arith, length-append (relas o a ++ packed o a) (slots o a), length-map o.plt_relocs (λ x. doubleword x.place), within)) table.2.apart) in
      let first : r.place ≢ table.0 = λ (e : r.place ≡ table.0). apart (omega arith) (omega arith) (omega (arith, e)) (omega (arith, e)) in
      let second : r.place ≢ table.0 + 8 = λ (e : r.place ≡ table.0 + 8). apart (omega arith) (omega arith) (omega (arith, e)) (omega (arith, e)) in
      let none : is_linkers o r.place ≡ false = and_right (not (length o.plt_relocs == 0)) _ (rw (table.1, ne_eqb r.place table.0 first, ne_eqb r.place (table.0 + 8) second)) in
      rw none

  -- the search finds the slot itself
  found_slot : find (λ x. x.0.place == r.place) (slots_of o bindings) ≡ Some (r, b)
  found_slot = by (find (λ x. x.0.place == r.place) (slots_of o bindings)) refl
    where
      only : (n : ℕ) (q : Reloc) → slice_get o.plt_relocs n ≡ Some q → q.place ≡ r.place → n ≡ k
      only n q there same = elim (cases_order n k) [
        | inl here ↦ here
        | inr rest ↦ elim rest [
          | inl less ↦ absurd (slots_apart o a n k q less within (ap (λ (x : Reloc). x.place) (get_or_from_slice_get o.plt_relocs n q q there) ∙ same ∙ sym (ap (λ (x : Reloc). x.place) (the_slot q))))
          | inr more ↦ absurd (slots_apart o a k n q more (slice_get_within o.plt_relocs n q there) (ap (λ (x : Reloc). x.place) (the_slot q) ∙ sym same ∙ sym (ap (λ (x : Reloc). x.place) (get_or_from_slice_get o.plt_relocs n q q there))))
        ]
      ]

      by : (found : Option (Reloc × Binding)) → find (λ x. x.0.place == r.place) (slots_of o bindings) ≡ found → find (λ x. x.0.place == r.place) (slots_of o bindings) ≡ Some (r, b)
      by None e = absurd (true≢false (sym (eq-eqb r.place r.place refl) ∙ none_at (λ (x : Reloc × Binding). x.0.place == r.place) (slots_of o bindings) k (r, b) e at))
      by (Some x) e =
          let f = found_at (λ (y : Reloc × Binding). y.0.place == r.place) (slots_of o bindings) x e in
          let n_is : f.0 ≡ k = only f.0 x.0 (zip_first o.plt_relocs _ f.0 x f.1) (eqb-true x.0.place r.place f.2) in
          let both : Some x ≡ Some (r, b) = sym f.1 ∙ ap (slice_get (slots_of o bindings)) n_is ∙ at in
          e ∙ both

  settled_slot : (base serial : ℕ) (places : List ModulePlace) → settled_word o base serial bindings places r.place ≡ slot_word o base r b
  unfolding settled_word slot_at slot_word
  settled_slot base serial places = rw (no_linkers serial, no_rela base serial places, found_slot)

  slot_fits : (base : ℕ) → (b.bound ≡ true → b.value < 2 ^ 64) → slot_word o base r b < 2 ^ 64
  unfolding slot_word moved_word
  slot_fits base fits = by b.bound fits
    where
      by : (t : Bool) → (t ≡ true → b.value < 2 ^ 64) → (if t then b.value else moved_word o base r.place) < 2 ^ 64
      by true h = h refl
      by false h = omega arith

  pub slot_holds : (base serial : ℕ) (places : List ModulePlace) → (b.bound ≡ true → b.value < 2 ^ 64) → image_word o base serial bindings places r.place ≡ slot_word o base r b
  unfolding image_word image_byte with_copies
  slot_holds base serial places fits =
      let settled = settled_word o base serial bindings places in
      words_alike _ (λ v. byte_of (settled (v / 8 * 8)) v) r.place (λ i small. ap (λ (found : Option ℕ). unwrap_or found (byte_of (settled ((r.place + i) / 8 * 8)) (r.place + i))) (no_copy i small))
      ∙ word_back settled r.place aligned (subst (λ (w : ℕ). w < 2 ^ 64) (sym (settled_slot base serial places)) (slot_fits base fits))
      ∙ settled_slot base serial places
