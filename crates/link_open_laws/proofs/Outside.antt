-- The bytes of an object without copies, inside its pages and outside.
use Rattle.std.proofs.Common.{◌≡◌, ◌⊎◌, inl, inr, ⊎_elim, ℕ, zero, suc, ◌+◌, ◌*◌, ◌/◌, ◌%◌, ◌^◌, ◌<◌, ◌≤◌, Bool, true, false, not, ◌&&◌, ◌||◌, List, [], ◌∷◌, map, length, Option, Some, None, nat_le, nat_lt, refl, sym, ap, subst, ◌∙◌, arith}
use Rattle.std.specs.Prelude.{◌==◌, if◌then◌else◌, unwrap_or, IsTrue}
use Rattle.std.specs.Int.{w64, byte_at, from_le_bytes}
use Rattle.std.specs.List.{All, Contains, find, list_any, range_with_len, slice_get, zip}
use Rattle.std.specs.Option.{option_map, option_map_or}
use Rattle.std.proofs.Math.Nat.{zero-div}
use Rattle.std.proofs.lemmas.Option.{slice_get-get_or}
use Rattle.std.proofs.lemmas.Bool.{cases_lt, le-ltb, lt-leb, eqb-true, le-leb, leb-true, lt-ltb, ltb-true, true≢false}
use Rattle.ld_base.specs.declared.object.Object.{Object}
use Rattle.ld_base.specs.declared.object.Reloc.{Reloc}
use Rattle.ld_base.specs.declared.object.Segment.{Segment}
use Rattle.history_state.specs.Lemmas.Lazy.{PageLaws}
use Rattle.history_state.specs.Lemmas.Lists.{found_in, here, later}
use Rattle.link_images.specs.ImageReads.Reads.{byte_within}
use Rattle.relocator.specs.Bindings.{relas_of, slots_of}
use Rattle.relocator.specs.Relocated.{fills_word, image_byte, linkers_at, moved_word, over, packed_at, rela_at, settled_word, slot_at, value_of}
use Rattle.relocator.specs.declared.binding.Binding.{Binding}
use Rattle.relocator.specs.declared.binding.ModulePlace.{ModulePlace}
use Rattle.seg_image.specs.Accepted.{Accepted, IsPlace, IsReloc, IsTable}
use Rattle.seg_image.specs.Pages.{IsInside, end_of, has_page, low_of, pages_of, segment_at, start_of}
use Rattle.seg_image.specs.Words.{byte_in, byte_of, file_byte, file_word, word_of}
use Rattle.link_open_images.specs.Lemmas.Plain.{AllPlain, plain_settled}

-- ---- outside the pages

low_aligned : (o : Object) → low_of o % 4096 ≡ 0
unfolding low_of
low_aligned o = at (slice_get o.segments 0)
  where
    at : (g : Option Segment) → option_map_or start_of g 0 % 4096 ≡ 0
    at None = refl
    at (Some g) = omega arith

module _ (pages : PageLaws) (o : Object) (accepted : Accepted o) where
  abbrev Outside : ℕ → Type 0
  Outside v = (v < low_of o) ⊎ (low_of o + 4096 * pages_of o ≤ v)

  place_inside : (v : ℕ) → IsPlace o v → Outside v → ⊥
  place_inside v place out =
      let inside : IsInside o v = record {
        segment = place.writable.segment;
        at = place.writable.at;
        is = place.writable.is;
        low = place.writable.low;
        high = below _ place.writable.high;
      } in
      ⊎_elim
      (λ (under : v < low_of o). let l : low_of o ≤ v = pages.low o v accepted inside in absurd (omega (arith, under, l)))
      (λ (past : low_of o + 4096 * pages_of o ≤ v). let h : v < low_of o + 4096 * pages_of o = pages.high o v accepted inside in absurd (omega (arith, past, h)))
      out
    where
      below : (a : ℕ) → v + 8 ≤ a → v < a
      below a h = omega (arith, h)

  all_in : {X : Type 0} (P : X → Type 0) (xs : List X) → All P xs → (x : X) → Contains xs x → P x
  all_in P xs all x inside = subst P inside.2 (all inside.0 x inside.1)

  no_linkers : (serial v : ℕ) → Outside v → linkers_at o serial v ≡ None
  unfolding linkers_at
  no_linkers serial v out = by (length o.plt_relocs == 0) refl o.pltgot refl
    where
      by : (b : Bool) → (length o.plt_relocs == 0) ≡ b → (table : Option ℕ) → o.pltgot ≡ table
          → (if not b && option_map_or (λ p. v == p || v == p + 8) table false then Some (if option_map_or (λ p. v == p) table false then 0x80f000 else serial) else None) ≡ None
      by true e table is = refl
      by false e None is = refl
      by false e (Some p) is = at (v == p) refl (v == p + 8) refl
        where
          its : (t : ℕ) → o.pltgot ≡ Some t → IsTable o t
          its t same =
              let have = accepted.table (some_slots e) in
              let found : Some have.0 ≡ Some t = sym have.1 ∙ same in
              let one : have.0 ≡ t = cc in
              subst (IsTable o) one have.2
            where
              some_slots : (length o.plt_relocs == 0) ≡ false → 0 < length o.plt_relocs
              some_slots none = grind (arith, none)

          at : (x : Bool) → (v == p) ≡ x → (y : Bool) → (v == p + 8) ≡ y → (if x || y then Some (if x then 0x80f000 else serial) else None) ≡ None
          at true one y two = absurd (place_inside v (subst (IsPlace o) (sym (eqb-true v p one)) (its p is).first) out)
          at false one true two = absurd (place_inside v (subst (IsPlace o) (sym (eqb-true v (p + 8) two)) (its p is).second) out)
          at false one false two = refl

  no_rela : (base serial : ℕ) (places : List ModulePlace) (bindings : List Binding) (v : ℕ) → Outside v → rela_at base serial places (relas_of o bindings) v ≡ None
  unfolding rela_at
  no_rela base serial places bindings v out =
      ap (option_map (value_of base serial places)) (none o.relocs bindings (λ r inside. all_in (IsReloc o) o.relocs accepted.relocs r inside))
    where
      none : (relocs : List Reloc) (bs : List Binding) → ((r : Reloc) → Contains relocs r → IsReloc o r) → find (λ (x : Reloc × Binding). x.0.place == v && fills_word x.0) (zip relocs bs) ≡ None
      none [] bs all = refl
      none (r ∷ relocs) [] all = refl
      none (r ∷ relocs) (b ∷ bs) all = rw (misses (r.place == v) refl (fills_word r) refl, none relocs bs (λ q inside. all q (later r relocs q inside)))
        where
          kinds : (k : ℕ) → (k == 2 || k == 3 || k == 7 || k == 9 || k == 11) ≡ true → IsTrue (not (k == 0 || k == 4))
          kinds k fills = grind (arith, fills)

          misses : (x : Bool) → (r.place == v) ≡ x → (y : Bool) → fills_word r ≡ y → (x && y) ≡ false
          misses false one y two = refl
          misses true one false two = refl
          misses true one true two = absurd (place_inside v (subst (IsPlace o) (eqb-true r.place v one) ((all r (here r relocs)).place (kinds r.kind two))) out)

  no_slot : (base : ℕ) (bindings : List Binding) (v : ℕ) → Outside v → slot_at o base (slots_of o bindings) v ≡ None
  unfolding slot_at
  no_slot base bindings v out =
      ap (option_map (λ (x : Reloc × Binding). if x.1.bound then x.1.value else moved_word o base v)) (none o.plt_relocs _ (λ r inside. all_in (λ (q : Reloc). IsPlace o q.place) o.plt_relocs accepted.slots r inside))
    where
      none : (relocs : List Reloc) (bs : List Binding) → ((r : Reloc) → Contains relocs r → IsPlace o r.place) → find (λ (x : Reloc × Binding). x.0.place == v) (zip relocs bs) ≡ None
      none [] bs all = refl
      none (r ∷ relocs) [] all = refl
      none (r ∷ relocs) (b ∷ bs) all = rw (misses (r.place == v) refl, none relocs bs (λ q inside. all q (later r relocs q inside)))
        where
          misses : (x : Bool) → (r.place == v) ≡ x → x ≡ false
          misses false one = refl
          misses true one = absurd (place_inside v (subst (IsPlace o) (eqb-true r.place v one) (all r (here r relocs))) out)

  no_packed : (base v : ℕ) → Outside v → packed_at o base o.relr v ≡ None
  unfolding packed_at
  no_packed base v out = ap (λ (b : Bool). if b then Some (moved_word o base v) else None) (none o.relr (λ p inside. all_in (IsPlace o) o.relr accepted.packed p inside))
    where
      none : (packed : List ℕ) → ((p : ℕ) → Contains packed p → IsPlace o p) → list_any (λ place. place == v) packed ≡ false
      none [] all = refl
      none (p ∷ packed) all = by (p == v) refl (none packed (λ q inside. all q (later p packed q inside)))
        where
          by : (x : Bool) → (p == v) ≡ x → list_any (λ place. place == v) packed ≡ false → (x || list_any (λ place. place == v) packed) ≡ false
          by false one rest = rest
          by true one rest = absurd (place_inside v (subst (IsPlace o) (eqb-true p v one) (all p (here p packed))) out)

  no_segment : (v : ℕ) → Outside v → segment_at o v ≡ None
  unfolding segment_at
  no_segment v out = by (segment_at o v) refl
    where
      at_place : (g : Segment) → Contains o.segments g → start_of g ≤ v → v < end_of g → ⊥
      at_place g inside from to = ⊎_elim
          (λ (under : v < low_of o). let l : low_of o ≤ v = pages.from o inside.0 g v accepted (is_at inside) from in omega (arith, under, l))
          (λ (past : low_of o + 4096 * pages_of o ≤ v). let h : v < low_of o + 4096 * pages_of o = pages.to o inside.0 g v accepted (is_at inside) to in omega (arith, past, h))
          out
        where
          is_at : (h : Contains o.segments g) → slice_get o.segments h.0 ≡ Some g
          is_at h = slice_get-get_or o.segments h.0 g h.1 ∙ ap (λ (x : Segment). Some x) h.2

      by : (found : Option Segment) → segment_at o v ≡ found → segment_at o v ≡ None
      by None is = is
      by (Some g) is =
          let at = found_in (has_page v) o.segments g is in
          absurd (at_place g at.0 (leb-true (start_of g) v (and_left (nat_le (start_of g) v) (nat_lt v (end_of g)) at.1)) (ltb-true v (end_of g) (and_right (nat_le (start_of g) v) (nat_lt v (end_of g)) at.1)))
        where
          and_left : (a b : Bool) → (a && b) ≡ true → a ≡ true
          and_left true b e = refl
          and_left false b e = absurd (true≢false (sym e))

          and_right : (a b : Bool) → (a && b) ≡ true → b ≡ true
          and_right true b e = e
          and_right false b e = absurd (true≢false (sym e))

  file_zero : (v : ℕ) → v % 8 ≡ 0 → Outside v → file_word o v ≡ 0
  unfolding file_word file_byte word_of
  file_zero v aligned out = ap (from_le_bytes w64) (same 0 8 (λ i less. each i less)) ∙ zeros
    where
      zeros : from_le_bytes w64 (map (λ i. 0) (range_with_len 0 8)) ≡ 0
      zeros = refl

      further : (i : ℕ) → i < 8 → Outside (v + i)
      further i less = ⊎_elim
          (λ (under : v < low_of o). inl (let l : low_of o % 4096 ≡ 0 = low_aligned o in omega (arith, under, l, aligned, less)))
          (λ (past : low_of o + 4096 * pages_of o ≤ v). inr (omega (arith, past)))
          out

      each : (i : ℕ) → i < 0 + 8 → option_map_or (λ g. byte_in g (v + i)) (segment_at o (v + i)) 0 ≡ 0
      each i less = ap (λ (g : Option Segment). option_map_or (λ h. byte_in h (v + i)) g 0) (no_segment (v + i) (further i (omega (arith, less))))

      same : (a n : ℕ) → ((i : ℕ) → i < a + n → option_map_or (λ g. byte_in g (v + i)) (segment_at o (v + i)) 0 ≡ 0)
          → map (λ i. option_map_or (λ g. byte_in g (v + i)) (segment_at o (v + i)) 0) (range_with_len a n) ≡ map (λ i. 0) (range_with_len a n)
      same a zero all = refl
      same a (suc n) all = rw (all a (omega arith), same (a + 1) n (λ i less. all i (omega (arith, less))))

  settled_zero : (base serial : ℕ) (bindings : List Binding) (places : List ModulePlace) (v : ℕ) → v % 8 ≡ 0 → Outside v → settled_word o base serial bindings places v ≡ 0
  unfolding settled_word
  settled_zero base serial bindings places v aligned out =
      ap (λ (x : Option ℕ). unwrap_or x (over (rela_at base serial places (relas_of o bindings)) (over (slot_at o base (slots_of o bindings)) (over (packed_at o base o.relr) (file_word o))) v)) (no_linkers serial v out)
      ∙ ap (λ (x : Option ℕ). unwrap_or x (over (slot_at o base (slots_of o bindings)) (over (packed_at o base o.relr) (file_word o)) v)) (no_rela base serial places bindings v out)
      ∙ ap (λ (x : Option ℕ). unwrap_or x (over (packed_at o base o.relr) (file_word o) v)) (no_slot base bindings v out)
      ∙ ap (λ (x : Option ℕ). unwrap_or x (file_word o v)) (no_packed base v out)
      ∙ file_zero v aligned out

  -- a byte of the pages, or none outside, is that of the word before copies
  pub plain_within : (base serial : ℕ) (bindings : List Binding) (places : List ModulePlace) → AllPlain bindings → (v : ℕ)
      → byte_within o (image_byte o base serial bindings places) v ≡ byte_of (settled_word o base serial bindings places (v / 8 * 8)) v
  unfolding byte_of
  plain_within base serial bindings places all v = ⊎_elim
      (λ (under : v < low_of o).
      ap (λ (b : Bool). if b && nat_lt v (low_of o + 4096 * pages_of o) then image_byte o base serial bindings places v else 0) (lt-leb (low_of o) v under)
      ∙ sym (outside (inl (let l : low_of o % 4096 ≡ 0 = low_aligned o in omega (arith, under, l)))))
      (λ (from : low_of o ≤ v). ⊎_elim
      (λ (below : v < low_of o + 4096 * pages_of o).
      ap (λ (b : Bool). if b && nat_lt v (low_of o + 4096 * pages_of o) then image_byte o base serial bindings places v else 0) (le-leb (low_of o) v from)
      ∙ ap (λ (b : Bool). if b then image_byte o base serial bindings places v else 0) (lt-ltb v (low_of o + 4096 * pages_of o) below)
      ∙ plain_settled o base serial bindings places all v)
      (λ (past : low_of o + 4096 * pages_of o ≤ v).
      ap (λ (b : Bool). if b && nat_lt v (low_of o + 4096 * pages_of o) then image_byte o base serial bindings places v else 0) (le-leb (low_of o) v from)
      ∙ ap (λ (b : Bool). if b then image_byte o base serial bindings places v else 0) (le-ltb v (low_of o + 4096 * pages_of o) past)
      ∙ sym (outside (inr (let l : low_of o % 4096 ≡ 0 = low_aligned o in omega (arith, past, l)))))
      (cases_lt v (low_of o + 4096 * pages_of o)))
      (cases_lt v (low_of o))
    where
      zero_byte : (w : ℕ) → w ≡ 0 → byte_of w v ≡ 0
      zero_byte w is = ap (byte_at (v % 8)) is ∙ lane (v % 8)
        where
          lane : (i : ℕ) → byte_at i 0 ≡ 0
          lane zero = refl
          lane (suc i) = ap (λ (n : ℕ). n % 256) (zero-div (256 ^ suc i))

      outside : Outside (v / 8 * 8) → byte_of (settled_word o base serial bindings places (v / 8 * 8)) v ≡ 0
      outside out = zero_byte (settled_word o base serial bindings places (v / 8 * 8)) (settled_zero base serial bindings places (v / 8 * 8) (omega arith) out)
