-- Words and bytes of an image, by their addresses.
use Rattle.std.proofs.Common.{◌≡◌, ℕ, zero, suc, ◌+◌, ◌*◌, ◌/◌, ◌%◌, ◌^◌, ◌<◌, ◌≤◌, ◌⊎◌, inl, inr, List, [], ◌∷◌, map, get_or, Option, Some, None, refl, ap, subst, ◌∙◌, arith, zero-add}
use Rattle.std.specs.Int.{w64, from_le_bytes, to_le_bytes}
use Rattle.std.specs.List.{All, range_with_len, slice_get}
use Rattle.std.specs.Option.{option_map_or}
use Rattle.std.proofs.lemmas.Bool.{cases_lt, le-leb, lt-ltb}
use Rattle.std.proofs.lemmas.List.{get_or_past}
use Rattle.std.proofs.lemmas.List.FromFn.{get_or-map-range_with_len}
use Rattle.std.proofs.lemmas.Nat.{le_bytes_8}
use Rattle.std.proofs.lemmas.Option.{get_or_from_slice_get}
use Rattle.ld_base.specs.declared.object.Object.{Object}
use Rattle.ld_base.specs.declared.object.Segment.{Segment}
use Rattle.ld_base.specs.declared.object.Span.{Span}
use Rattle.history_state.specs.Accepted.{IsArray}
use Rattle.seg_image.specs.Accepted.{Accepted, IsSegment}
use Rattle.seg_image.specs.Images.{AreBytes, IsImage}
use Rattle.seg_image.specs.Pages.{IsInside, low_of, pages_of, start_of}
use Rattle.seg_image.specs.Roles.{role_of}
use Rattle.seg_image.specs.Words.{word_of}
use Rattle.seg_image.specs.declared.image.Image.{Image}
use Rattle.seg_image.specs.declared.image.Word.{Word}
use Rattle.link_images.specs.ImageReads.Reads.{byte_within}

pub low_aligned : (o : Object) → low_of o % 4096 ≡ 0
unfolding low_of
low_aligned o = at (slice_get o.segments 0)
  where
    at : (g : Option Segment) → option_map_or start_of g 0 % 4096 ≡ 0
    at None = refl
    at (Some g) = omega arith

pub all_at : {X : Type 0} (P : X → Type 0) (xs : List X) → All P xs → (k : ℕ) (x : X) → slice_get xs k ≡ Some x → P x
all_at P [] all k x at = absurd (let d : None ≡ Some x = at in cc)
all_at P (y ∷ xs) all zero x at = let same : y ≡ x = cc in subst P same (all 0 y (omega arith))
all_at P (y ∷ xs) all (suc k) x at = all_at P xs (λ j d lt. all (suc j) d (omega (arith, lt))) k x at

-- the word at a place
pub word_read : (o : Object) (base : ℕ) (value : ℕ → ℕ) (image : Image) → IsImage o base value image → (k v : ℕ) (d : Word) → k < 512 * pages_of o → low_of o + 8 * k ≡ v
    → (get_or image.words k d).value ≡ value v
word_read o base value image is k v d within at =
    ap (λ (w : Word). w.value) (get_or_from_slice_get image.words k (record { value = value (low_of o + 8 * k); role = role_of o (low_of o + 8 * k) }) d (is.words.each k (rw is.all within)))
    ∙ ap value at

-- ---- the bytes of a word that is made of bytes

abbrev bytes_at : (ℕ → ℕ) → ℕ → List ℕ
bytes_at byte v = map (λ i. byte (v + i)) (range_with_len 0 8)

bytes_at_are : (byte : ℕ → ℕ) (v j d : ℕ) → j < 8 → get_or (bytes_at byte v) j d ≡ byte (v + j)
bytes_at_are byte v j d less = get_or-map-range_with_len (λ i. byte (v + i)) 0 8 j j d less (zero-add j)

bytes_back : (byte : ℕ → ℕ) (v : ℕ) → AreBytes byte → to_le_bytes w64 (word_of byte v) ≡ bytes_at byte v
unfolding word_of
bytes_back byte v are = le_bytes_8 (bytes_at byte v) (from_le_bytes w64 (bytes_at byte v)) refl (λ j. small j (cases_lt j 8)) refl
  where
    small : (j : ℕ) → (j < 8) ⊎ (8 ≤ j) → get_or (bytes_at byte v) j 0 < 256
    small j (inl less) = rw (bytes_at_are byte v j 0 less) (are (v + j))
    small j (inr past) = rw (get_or_past (bytes_at byte v) j 0 past) (omega arith)

-- a byte of the word that holds it
pub byte_read : (byte : ℕ → ℕ) (w v a : ℕ) → AreBytes byte → w ≡ word_of byte v → v % 8 ≡ 0 → v ≤ a → a < v + 8 → get_or (to_le_bytes w64 w) (a % 8) 0 ≡ byte a
byte_read byte w v a are is aligned low high =
    let place : v + a % 8 ≡ a = omega (arith, aligned, low, high) in
    ap (λ (bs : List ℕ). get_or bs (a % 8) 0) (ap (to_le_bytes w64) is ∙ bytes_back byte v are) ∙ bytes_at_are byte v (a % 8) 0 (omega arith) ∙ ap byte place

-- ---- inside the pages, and outside

pub inside_is : (o : Object) (byte : ℕ → ℕ) (v : ℕ) → low_of o ≤ v → v < low_of o + 4096 * pages_of o → byte_within o byte v ≡ byte v
inside_is o byte v low high = rw (le-leb (low_of o) v low, lt-ltb v (low_of o + 4096 * pages_of o) high)

pub same_on_range : {X : Type 0} (f g : ℕ → X) (a n : ℕ) → ((i : ℕ) → i < a + n → f i ≡ g i) → map f (range_with_len a n) ≡ map g (range_with_len a n)
same_on_range f g a zero same = refl
same_on_range f g a (suc n) same = rw (same a (omega arith), same_on_range f g (a + 1) n (λ i less. same i (omega arith)))

-- ---- arrays

pub array_low : (o : Object) → Accepted o → (s : Span) → IsArray o s → s.start + s.size ≤ 2 ^ 32
array_low o accepted s array =
    let within = array.within in
    let memory : IsSegment within.segment = all_at IsSegment o.segments accepted.segments within.at within.segment within.is in
    omega (arith, within.high, memory.low)

pub array_inside : (o : Object) (s : Span) → IsArray o s → (k : ℕ) → k < s.size / 8 → IsInside o (s.start + 8 * k)
array_inside o s array k less =
    let within = array.within in
    record {
      segment = within.segment;
      at = within.at;
      is = within.is;
      low = omega (arith, within.low);
      high = omega (arith, within.high, less);
    }
