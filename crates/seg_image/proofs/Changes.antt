-- Words and bytes of an image, read and changed.
use Rattle.std.proofs.Common.{◌≡◌, ◌≢◌, ℕ, ◌+◌, ◌*◌, ◌%◌, ◌^◌, ◌<◌, ◌≤◌, ◌==◌, ◌⊎◌, List, length, get_or, set, map, refl, arith, sym, ◌∙◌, ap, inl, inr, get_or-set_same, get_or-set_other, zero-add, if◌then◌else◌}
use Rattle.std.proofs.lemmas.Bool.{cases_eq, cases_lt, eq-eqb, ne_eqb}
use Rattle.std.proofs.lemmas.List.{get_or_default, get_or_past, length-set, same_lists}
use Rattle.std.proofs.lemmas.Nat.{le_bytes_8}
use Rattle.std.proofs.lemmas.List.FromFn.{get_or-map-range_with_len}
use Rattle.std.proofs.lemmas.Option.{get_or_from_slice_get}
use Rattle.std.specs.Int.{w64, from_le_bytes, to_le_bytes}
use Rattle.std.specs.List.{range_with_len}
use Rattle.ld_base.specs.declared.object.Object.{Object}
use Rattle.seg_image.specs.declared.image.Image.{Image}
use Rattle.seg_image.specs.declared.image.Word.{Word}
use Rattle.seg_image.specs.Images.{AreBytes, IsImage, changed_at, with_value}
use Rattle.seg_image.specs.Pages.{low_of, pages_of}
use Rattle.seg_image.specs.Roles.{role_of}
use Rattle.seg_image.specs.Words.{word_of}
use Rattle.seg_image.proofs.FileWords.{word_same}
use Rattle.seg_image.proofs.Steps.{length-with_value, value_set}

-- ---- the bytes of a word

-- the bytes of a word that is made of bytes
abbrev bytes_at : (ℕ → ℕ) → ℕ → List ℕ
bytes_at byte v = map (λ i. byte (v + i)) (range_with_len 0 8)

bytes_at_are : (byte : ℕ → ℕ) (v j d : ℕ) → j < 8 → get_or (bytes_at byte v) j d ≡ byte (v + j)
bytes_at_are byte v j d less = get_or-map-range_with_len (λ i. byte (v + i)) 0 8 j j d less (zero-add j)

bytes_back : (byte : ℕ → ℕ) (v : ℕ) → AreBytes byte → to_le_bytes w64 (word_of byte v) ≡ bytes_at byte v
unfolding word_of
bytes_back byte v are = le_bytes_8 (bytes_at byte v) (from_le_bytes w64 (bytes_at byte v)) refl (λ j. small j (cases_lt j 8)) refl
  where
    small : (j : ℕ) → (j < 8) ⊎ (8 ≤ j) → get_or (bytes_at byte v) j 0 < 256
    small j (inl less) = rw (bytes_at_are byte v j 0 less) (are (v + j))
    small j (inr past) = rw (get_or_past (bytes_at byte v) j 0 past) (omega arith)

-- one byte of them changed
byte_changed : (byte : ℕ → ℕ) (v k b : ℕ) → k < 8 → set (bytes_at byte v) k b ≡ bytes_at (changed_at byte (v + k) b) v
unfolding changed_at
byte_changed byte v k b small = same_lists (set (bytes_at byte v) k b) (bytes_at (changed_at byte (v + k) b) v) (length-set (bytes_at byte v) k b) same
  where
    at : (j : ℕ) → j < 8 → (j ≡ k) ⊎ (j ≡ k → ⊥) → get_or (set (bytes_at byte v) k b) j 0 ≡ (if v + j == v + k then b else byte (v + j))
    at j less (inl one) = rw (one, eq-eqb (v + k) (v + k) refl) (get_or-set_same (bytes_at byte v) k b 0 small)
    at j less (inr other) =
        let apart : v + j ≡ v + k → ⊥ = λ e. other (omega arith) in
        rw (ne_eqb (v + j) (v + k) apart) (get_or-set_other (bytes_at byte v) k j b 0 other ∙ bytes_at_are byte v j 0 less)

    same : (j d : ℕ) → j < length (set (bytes_at byte v) k b) → get_or (set (bytes_at byte v) k b) j d ≡ get_or (bytes_at (changed_at byte (v + k) b) v) j d
    same j d within =
        let few : j < 8 = rw (length-set (bytes_at byte v) k b) at within in
        get_or_default (set (bytes_at byte v) k b) j d 0 within ∙ at j few (cases_eq j k) ∙ sym (bytes_at_are (changed_at byte (v + k) b) v j d few)

word_of_changed : (byte : ℕ → ℕ) (v k b : ℕ) → AreBytes byte → k < 8 → from_le_bytes w64 (set (to_le_bytes w64 (word_of byte v)) k b) ≡ word_of (changed_at byte (v + k) b) v
unfolding word_of
word_of_changed byte v k b are small =
    ap (λ bs. from_le_bytes w64 (set bs k b)) (bytes_back byte v are) ∙ ap (from_le_bytes w64) (byte_changed byte v k b small)

-- a word without the byte
word_of_others : (byte : ℕ → ℕ) (v a b : ℕ) → ((i : ℕ) → i < 8 → v + i ≢ a) → word_of (changed_at byte a b) v ≡ word_of byte v
unfolding changed_at
word_of_others byte v a b others = word_same (λ x. if x == a then b else byte x) byte v (λ i less. rw (ne_eqb (v + i) a (others i less)))

-- ---- the words of an image

module _ (o : Object) (base : ℕ) (value : ℕ → ℕ) (image : Image) (is : IsImage o base value image) where
  pub value_read : (k v : ℕ) (d : Word) → k < 512 * pages_of o → low_of o + 8 * k ≡ v → (get_or image.words k d).value ≡ value v
  value_read k v d within at =
      ap (λ w. w.value) (get_or_from_slice_get image.words k (record { value = value (low_of o + 8 * k); role = role_of o (low_of o + 8 * k) }) d (is.words.each k (rw is.all within)))
      ∙ ap value at

  changed_image : (after : ℕ → ℕ) (ws : List Word) (k w : ℕ) → ws ≡ with_value image.words k w → k < 512 * pages_of o → w < 2 ^ 64
      → after (low_of o + 8 * k) ≡ w → ((j : ℕ) → j ≢ k → after (low_of o + 8 * j) ≡ value (low_of o + 8 * j)) → IsImage o base after (record { start = image.start; words = ws })
  changed_image after ws k w changes within fits here others =
      let into : k < length image.words = rw is.all within in
      record {
        start = is.start;
        all = rw changes (length-with_value image.words k w ∙ is.all);
        words = rw changes (value_set (low_of o) (λ u. record { value = value u; role = role_of o u }) (λ u. record { value = after u; role = role_of o u }) image.words k w is.words into fits
            (ap (λ x. record { value = x; role = role_of o (low_of o + 8 * k) }) here)
            (λ j other. ap (λ x. record { value = x; role = role_of o (low_of o + 8 * j) }) (others j other)));
      }

  pub word_changed : (ws : List Word) (k w v : ℕ) → ws ≡ with_value image.words k w → k < 512 * pages_of o → low_of o + 8 * k ≡ v → w < 2 ^ 64
      → IsImage o base (changed_at value v w) (record { start = image.start; words = ws })
  unfolding changed_at
  word_changed ws k w v changes within at fits =
      changed_image (changed_at value v w) ws k w changes within fits (rw (at, eq-eqb v v refl)) (λ j other. let apart : low_of o + 8 * j ≡ v → ⊥ = λ e. other (omega arith) in rw (ne_eqb (low_of o + 8 * j) v apart))

-- a byte changed in an image of bytes
pub byte_set : (o : Object) (base : ℕ) (byte : ℕ → ℕ) (image : Image) → IsImage o base (word_of byte) image → AreBytes byte → (read : List ℕ) (ws : List Word) (k w a b : ℕ)
    → k < 512 * pages_of o → low_of o % 8 ≡ 0 → low_of o + 8 * k ≤ a → a < low_of o + 8 * k + 8 → read ≡ to_le_bytes w64 (word_of byte (low_of o + 8 * k))
    → w ≡ from_le_bytes w64 (set read (a % 8) b) → w < 2 ^ 64 → ws ≡ with_value image.words k w
    → IsImage o base (word_of (changed_at byte a b)) (record { start = image.start; words = ws })
byte_set o base byte image is are read ws k w a b within aligned low high is_read is_word fits changes =
    let v = low_of o + 8 * k in
    let lane : a % 8 < 8 = omega arith in
    let address : v + a % 8 ≡ a = omega arith in
    let word : w ≡ word_of (changed_at byte a b) v = is_word ∙ ap (λ x. from_le_bytes w64 (set x (a % 8) b)) is_read ∙ word_of_changed byte v (a % 8) b are lane ∙ ap (λ x. word_of (changed_at byte x b) v) address in
    changed_image o base (word_of byte) image is (word_of (changed_at byte a b)) ws k w changes within fits (sym word)
    (λ j other. word_of_others byte (low_of o + 8 * j) a b (λ i less e. other (omega arith)))
