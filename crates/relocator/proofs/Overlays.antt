-- Bytes over bytes, and copies over words.
use Rattle.std.proofs.Common.{◌≡◌, ◌≢◌, ℕ, zero, suc, ◌+◌, ◌-◌, ◌*◌, ◌/◌, ◌%◌, ◌^◌, ◌<◌, ◌≤◌, ◌&&◌, Bool, true, false, nat_le, nat_lt, List, [], length, get_or, map, take, Some, refl, arith, sym, ◌∙◌, ap, subst, inl, inr, lit<}
use Rattle.std.proofs.lemmas.Bool.{and_from, and_left, and_parts, and_right, cases_Bool, cases_eq, cases_lt, eq-eqb, le-leb, leb-true, lt-leb, lt-ltb, le-ltb, ltb-true, ne_eqb, false_from_ne_true}
use Rattle.std.proofs.lemmas.List.{get_or-take, get_or_default, get_or_past, length-take, length-take-le}
use Rattle.std.proofs.lemmas.Nat.{from_le_bytes-to_le_bytes_8}
use Rattle.std.proofs.lemmas.Option.{slice_get-get_or}
use Rattle.std.proofs.lemmas.Slice.Zip.{get_or-zip, length-zip}
use Rattle.std.specs.Int.{w64, byte_at, from_le_bytes, to_le_bytes}
use Rattle.std.specs.List.{range_with_len, slice_get, zip}
use Rattle.ld_base.specs.declared.object.Object.{Object}
use Rattle.ld_base.specs.declared.object.Reloc.{Reloc}
use Rattle.seg_image.specs.declared.image.Image.{Image}
use Rattle.seg_image.specs.Accepted.{Accepted, symbol_size}
use Rattle.seg_image.specs.Images.{AreBytes, IsImage, changed_at}
use Rattle.seg_image.specs.Pages.{IsInside}
use Rattle.seg_image.specs.Words.{byte_of, word_of}
use Rattle.relocator.specs.declared.binding.Binding.{Binding}
use Rattle.relocator.specs.Bindings.{AreBindings, is_copy}
use Rattle.relocator.specs.Copies.{pasted}
use Rattle.relocator.specs.Relocated.{copied_at, with_copies}
use Rattle.relocator.proofs.Apart.{copies_apart, copy_inside}
use Rattle.relocator.proofs.Fronts.{find_hit, find_miss, map_same}
use Rattle.relocator.proofs.Layers.{image_same, image_where, relas_more, take_back}

-- ---- words of bytes

word_same : (f g : ℕ → ℕ) (v : ℕ) → ((a : ℕ) → f a ≡ g a) → word_of f v ≡ word_of g v
unfolding word_of
word_same f g v same = ap (from_le_bytes w64) (map_same (λ i. f (v + i)) (λ i. g (v + i)) (range_with_len 0 8) (λ i. same (v + i)))

pub bytes_same : (o : Object) (base : ℕ) (f g : ℕ → ℕ) (image : Image) → IsImage o base (word_of f) image → ((a : ℕ) → g a ≡ f a) → IsImage o base (word_of g) image
bytes_same o base f g image is same = image_same o base (word_of f) (word_of g) image is (λ v _. word_same g f v same)

pub byte_small : (w v : ℕ) → byte_of w v < 256
unfolding byte_of
byte_small w v = by_lane (v % 8)
  where
    by_lane : (i : ℕ) → byte_at i w < 256
    by_lane zero = omega arith
    by_lane (suc i) = omega arith

-- ---- bytes from a place on

module _ (place : ℕ) (bytes : List ℕ) (old : ℕ → ℕ) where
  pasted_in : (v k : ℕ) → v ≡ place + k → k < length bytes → pasted place bytes old v ≡ get_or bytes k 0
  unfolding pasted
  pasted_in v k at less =
      let lane : v - place ≡ k = omega arith in
      rw (le-leb place v (omega arith), lt-ltb v (place + length bytes) (omega arith), lane)

  pasted_below : (v : ℕ) → v < place → pasted place bytes old v ≡ old v
  unfolding pasted
  pasted_below v less = rw (and_left (nat_le place v) (nat_lt v (place + length bytes)) (lt-leb place v less))

  pasted_above : (v : ℕ) → place + length bytes ≤ v → pasted place bytes old v ≡ old v
  unfolding pasted
  pasted_above v past = rw (and_right (nat_le place v) (nat_lt v (place + length bytes)) (le-ltb v (place + length bytes) past))

  pub pasted_are : ((k : ℕ) → get_or bytes k 0 < 256) → AreBytes old → AreBytes (pasted place bytes old)
  pasted_are small are v =
      elim (cases_lt v place) [
        | inl below ↦ rw (pasted_below v below) (are v)
        | inr from ↦ elim (cases_lt v (place + length bytes)) [
          | inl inside ↦ rw (pasted_in v (v - place) (omega arith) (omega arith)) (small (v - place))
          | inr past ↦ rw (pasted_above v past) (are v)
        ]
      ]

pub take_small : (bytes : List ℕ) (n k : ℕ) → ((i : ℕ) → get_or bytes i 0 < 256) → get_or (take n bytes) k 0 < 256
take_small bytes n k small =
    elim (cases_lt k n) [
      | inl less ↦ rw (get_or-take n bytes k 0 less) (small k)
      | inr past ↦ rw (get_or_past (take n bytes) k 0 (omega (arith, length-take n bytes))) (omega arith)
    ]

pub pasted_none : (place : ℕ) (old : ℕ → ℕ) (v : ℕ) → pasted place [] old v ≡ old v
pasted_none place old v =
    elim (cases_lt v place) [
      | inl below ↦ pasted_below place [] old v below
      | inr from ↦ pasted_above place [] old v (omega arith)
    ]

-- one byte more
pub pasted_more : (place : ℕ) (bytes : List ℕ) (old : ℕ → ℕ) (n v : ℕ) → n < length bytes
    → pasted place (take (n + 1) bytes) old v ≡ changed_at (pasted place (take n bytes) old) (place + n) (get_or bytes n 0) v
unfolding changed_at
pasted_more place bytes old n v less =
    elim (cases_eq v (place + n)) [
      | inl here ↦ rw (eq-eqb v (place + n) here) (pasted_in place (take (n + 1) bytes) old v n here (let two = longer in omega arith) ∙ get_or-take (n + 1) bytes n 0 (omega arith))
      | inr other ↦ rw (ne_eqb v (place + n) other) (elsewhere other)
    ]
  where
    long : length (take n bytes) ≡ n
    long = length-take-le n bytes (omega arith)

    longer : length (take (n + 1) bytes) ≡ n + 1
    longer = length-take-le (n + 1) bytes (omega arith)

    elsewhere : v ≢ place + n → pasted place (take (n + 1) bytes) old v ≡ pasted place (take n bytes) old v
    elsewhere other =
        let one = long in
        let two = longer in
        elim (cases_lt v place) [
          | inl below ↦ pasted_below place (take (n + 1) bytes) old v below ∙ sym (pasted_below place (take n bytes) old v below)
          | inr from ↦ elim (cases_lt v (place + n)) [
            | inl inside ↦ (
                let k = v - place in
                let small : k < n = omega arith in
                pasted_in place (take (n + 1) bytes) old v k (omega arith) (omega arith) ∙ get_or-take (n + 1) bytes k 0 (omega arith)
                ∙ sym (pasted_in place (take n bytes) old v k (omega arith) (omega arith) ∙ get_or-take n bytes k 0 small))
            | inr past ↦ pasted_above place (take (n + 1) bytes) old v (omega arith) ∙ sym (pasted_above place (take n bytes) old v (omega arith))
          ]
        ]

-- ---- the bytes of words

lanes : (v : ℕ) → v % 8 ≡ 0 → (w : ℕ) → map (λ i. byte_of w (v + i)) (range_with_len 0 8) ≡ to_le_bytes w64 w
unfolding byte_of
lanes v aligned w =
    let e0 : (v + 0) % 8 ≡ 0 = omega arith in
    let e1 : (v + 1) % 8 ≡ 1 = omega arith in
    let e2 : (v + 2) % 8 ≡ 2 = omega arith in
    let e3 : (v + 3) % 8 ≡ 3 = omega arith in
    let e4 : (v + 4) % 8 ≡ 4 = omega arith in
    let e5 : (v + 5) % 8 ≡ 5 = omega arith in
    let e6 : (v + 6) % 8 ≡ 6 = omega arith in
    let e7 : (v + 7) % 8 ≡ 7 = omega arith in
    rw (e0, e1, e2, e3, e4, e5, e6, e7)

pub word_back : (value : ℕ → ℕ) (v : ℕ) → v % 8 ≡ 0 → value v < 2 ^ 64 → word_of (λ a. byte_of (value (a / 8 * 8)) a) v ≡ value v
unfolding word_of
word_back value v aligned fits =
    ap (from_le_bytes w64) (map_in (λ i. byte_of (value ((v + i) / 8 * 8)) (v + i)) (λ i. byte_of (value v) (v + i)) (λ i less. let place : (v + i) / 8 * 8 ≡ v = omega arith in rw place)
    ∙ lanes v aligned (value v)) ∙ from_le_bytes-to_le_bytes_8 (value v) fits
  where
    map_in : (f g : ℕ → ℕ) → ((i : ℕ) → i < 8 → f i ≡ g i) → map f (range_with_len 0 8) ≡ map g (range_with_len 0 8)
    map_in f g same = rw (same 0 (lit< tt), same 1 (lit< tt), same 2 (lit< tt), same 3 (lit< tt), same 4 (lit< tt), same 5 (lit< tt), same 6 (lit< tt), same 7 (lit< tt))

-- an image by the bytes of its words
pub image_by_bytes : (o : Object) (base : ℕ) (value : ℕ → ℕ) (image : Image) → IsImage o base value image → IsImage o base (word_of (λ a. byte_of (value (a / 8 * 8)) a)) image
image_by_bytes o base value image is = image_where o base value (word_of (λ a. byte_of (value (a / 8 * 8)) a)) image is (λ v aligned fits. word_back value v aligned fits)

-- ---- copies

pub no_copies : (value : ℕ → ℕ) (a : ℕ) → with_copies [] value a ≡ byte_of (value (a / 8 * 8)) a
unfolding with_copies copied_at
no_copies value a = refl

module _ (o : Object) (a : Accepted o) (bindings : List Binding) (are : AreBindings o bindings) where
  abbrev relas : List (Reloc × Binding)
  relas = zip o.relocs bindings

  enough : length o.relocs ≤ length bindings
  enough = let count = are.count in omega arith

  -- a copy has no more bytes than its symbol
  pub copied_fits : (n : ℕ) (r : Reloc) (b : Binding) → n < length o.relocs → r ≡ get_or o.relocs n r → b ≡ get_or bindings n b → is_copy r ≡ true → length b.copied ≤ symbol_size o r
  copied_fits n r b within is_r is_b copy =
      let long = length-zip o.relocs bindings in
      let some = enough in
      let here : slice_get relas n ≡ Some (r, b) =
      slice_get-get_or relas n (r, b) (omega arith) ∙ ap Some (get_or-zip o.relocs bindings n (r, b) within (omega arith) ∙ cc) in
      let size = (are.relas n r b here).copied copy in
      omega arith

  -- each of them lies in the memory of a segment
  pub copied_inside : (n k : ℕ) (r : Reloc) (b : Binding) → n < length o.relocs → r ≡ get_or o.relocs n r → b ≡ get_or bindings n b → is_copy r ≡ true → k < length b.copied → IsInside o (r.place + k)
  copied_inside n k r b within is_r is_b copy less =
      let fits = copied_fits n r b within is_r is_b copy in
      subst (λ q. is_copy q ≡ true → k < symbol_size o q → IsInside o (q.place + k)) (sym is_r) (λ copied small. copy_inside o a n k r within copied small) copy (omega arith)

  -- whether a copy gives the byte at an address
  abbrev gives : ℕ → Reloc × Binding → Bool
  gives v x = is_copy x.0 && (nat_le x.0.place v && nat_lt v (x.0.place + length x.1.copied))

  none_before : (n k v : ℕ) (r : Reloc) (b : Binding) → n < length o.relocs → r ≡ get_or o.relocs n r → b ≡ get_or bindings n b → gives v (r, b) ≡ true
      → k < length (take n relas) → gives v (get_or (take n relas) k (r, b)) ≡ false
  none_before n k v r b within is_r is_b hit less =
      let long = length-zip o.relocs bindings in
      let some = enough in
      let back = take_back relas n k (r, b) (omega arith) less in
      let before = back.0 in
      let pair = get_or-zip o.relocs bindings k (r, b) (omega arith) (omega arith) in
      rw (back.1, pair) (false_from_ne_true (gives v (get_or o.relocs k r, get_or bindings k b)) (λ also. meets before also))
    where
      parts : (x : Reloc × Binding) → gives v x ≡ true → (is_copy x.0 ≡ true) × (x.0.place ≤ v) × (v < x.0.place + length x.1.copied)
      parts x passes =
          let both = and_parts (is_copy x.0) (nat_le x.0.place v && nat_lt v (x.0.place + length x.1.copied)) passes in
          let range = and_parts (nat_le x.0.place v) (nat_lt v (x.0.place + length x.1.copied)) both.1 in
          (both.0, leb-true x.0.place v range.0, ltb-true v (x.0.place + length x.1.copied) range.1)

      meets : k < n → gives v (get_or o.relocs k r, get_or bindings k b) ≡ true → ⊥
      meets before also =
          let some = enough in
          let mine = parts (r, b) hit in
          let theirs = parts (get_or o.relocs k r, get_or bindings k b) also in
          let q = get_or o.relocs k r in
          let q_is = get_or_default o.relocs k r q (omega arith) in
          let c = get_or bindings k b in
          let c_is = get_or_default bindings k b c (omega arith) in
          let fits = copied_fits n r b within is_r is_b mine.0 in
          let fits_theirs = copied_fits k q c (omega arith) q_is c_is theirs.0 in
          let copy_n : is_copy (get_or o.relocs n r) ≡ true = rw is_r at mine.0 in
          let apart = rw (← is_r) at (copies_apart o a k n r before within theirs.0 copy_n) in
          let low = mine.1 in
          let high = mine.2 in
          let low_theirs = theirs.1 in
          let high_theirs = theirs.2 in
          apart (omega arith) (omega arith) (omega arith) (omega arith)

  -- a relocation that is no copy
  pub copy_skip : (n : ℕ) (r : Reloc) (b : Binding) (value : ℕ → ℕ) (v : ℕ) → n < length o.relocs → r ≡ get_or o.relocs n r → b ≡ get_or bindings n b → is_copy r ≡ false
      → with_copies (take (n + 1) relas) value v ≡ with_copies (take n relas) value v
  unfolding with_copies copied_at
  copy_skip n r b value v within is_r is_b other =
      rw (relas_more o a 0 0 [] bindings enough value n r b within is_r is_b, find_miss (gives v) (take n relas) (r, b) (and_left (is_copy r) (nat_le r.place v && nat_lt v (r.place + length b.copied)) other))

  -- one copy more
  pub copy_step : (n : ℕ) (r : Reloc) (b : Binding) (value : ℕ → ℕ) (v : ℕ) → n < length o.relocs → r ≡ get_or o.relocs n r → b ≡ get_or bindings n b → is_copy r ≡ true
      → with_copies (take (n + 1) relas) value v ≡ pasted r.place b.copied (with_copies (take n relas) value) v
  unfolding with_copies copied_at pasted
  copy_step n r b value v within is_r is_b copy =
      rw (relas_more o a 0 0 [] bindings enough value n r b within is_r is_b)
      (elim (cases_Bool (nat_le r.place v && nat_lt v (r.place + length b.copied))) [
        | inl inside ↦ (
            let hit : gives v (r, b) ≡ true = and_from (is_copy r) (nat_le r.place v && nat_lt v (r.place + length b.copied)) copy inside in
            rw (find_hit (gives v) (take n relas) (r, b) (λ k less. none_before n k v r b within is_r is_b hit less) hit, inside))
        | inr outside ↦ rw (find_miss (gives v) (take n relas) (r, b) (and_right (is_copy r) (nat_le r.place v && nat_lt v (r.place + length b.copied)) outside), outside)
      ])
