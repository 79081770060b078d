-- The words of a file.
use Rattle.std.proofs.Common.{◌≡◌, ℕ, zero, suc, ◌+◌, ◌%◌, ◌<◌, Some, None, map, refl, arith, ap, ◌∙◌}
use Rattle.std.specs.Int.{w64, from_le_bytes}
use Rattle.std.specs.List.{range_with_len}
use Rattle.std.specs.Option.{option_map_or}
use Rattle.ld_base.specs.declared.object.Object.{Object}
use Rattle.ld_base.specs.declared.object.Segment.{Segment}
use Rattle.seg_image.specs.Pages.{segment_at}
use Rattle.seg_image.specs.Words.{byte_in, file_byte, file_word, word_of}
use Rattle.seg_image.proofs.Ordered.{same_segment}

same_on_range : (f g : ℕ → ℕ) (a n : ℕ) → ((i : ℕ) → i < a + n → f i ≡ g i) → map f (range_with_len a n) ≡ map g (range_with_len a n)
same_on_range f g a zero same = refl
same_on_range f g a (suc n) same = rw (same a (omega arith), same_on_range f g (a + 1) n (λ i less. same i (omega arith)))

-- bytes that are the same make the same word
pub word_same : (f g : ℕ → ℕ) (v : ℕ) → ((i : ℕ) → i < 8 → f (v + i) ≡ g (v + i)) → word_of f v ≡ word_of g v
unfolding word_of
word_same f g v same = ap (from_le_bytes w64) (same_on_range (λ i. f (v + i)) (λ i. g (v + i)) 0 8 (λ i less. same i (omega arith)))

word_of_zeros : (v : ℕ) → word_of (λ _. 0) v ≡ 0
unfolding word_of
word_of_zeros v = refl

-- the word of the file, by the segment in whose pages it lies
pub file_word_in : (o : Object) (v : ℕ) (g : Segment) → v % 8 ≡ 0 → segment_at o v ≡ Some g → file_word o v ≡ word_of (byte_in g) v
unfolding file_word file_byte
file_word_in o v g aligned at =
    word_same (λ a. option_map_or (λ s. byte_in s a) (segment_at o a) 0) (byte_in g) v
    (λ i small. ap (λ s. option_map_or (λ h. byte_in h (v + i)) s 0) (same_segment o v i aligned small ∙ at))

pub file_word_none : (o : Object) (v : ℕ) → v % 8 ≡ 0 → segment_at o v ≡ None → file_word o v ≡ 0
unfolding file_word file_byte
file_word_none o v aligned at =
    word_same (λ a. option_map_or (λ s. byte_in s a) (segment_at o a) 0) (λ _. 0) v
    (λ i small. ap (λ s. option_map_or (λ h. byte_in h (v + i)) s 0) (same_segment o v i aligned small ∙ at))
    ∙ word_of_zeros v
