-- Sets of indexes as bits of words.
use Rattle.std.proofs.Common.{◌≡◌, ◌∙◌, ap, sym, ℕ, ◌*◌, ◌/◌, ◌%◌, ◌^◌, ◌<◌, ◌==◌, Bool, true, false, if◌then◌else◌, List, length, get_or, replicate, refl, arith, inl, inr, w64}
use Rattle.std.proofs.Math.ListN.{set}
use Rattle.std.proofs.Common.{get_or-set_other, get_or-set_same}
use Rattle.std.proofs.lemmas.Bool.{cases_eq}
use Rattle.std.proofs.lemmas.List.{get_or-replicate}
use Rattle.std.proofs.lemmas.Bool.Decides.{nat_tests}
use Rattle.std.proofs.lemmas.Nat.Bits.{bit_at_set_same, bit_at_set_other, bit_at_clear_same, bit_at_clear_other, bit_at-zero}
use Rattle.std.specs.Int.{bit_at, bit_not}
use Rattle.std.specs.Int.RustNames.{bit_or, bit_and}
use Rattle.ld_base.specs.Marks.{is_marked}

-- a bit that is set
pub set_bit : (word bit k : ℕ) → bit < 64 → bit_at (bit_or word (1 * 2 ^ bit % 2 ^ 64)) k ≡ (if bit == k then 1 else bit_at word k)
set_bit word bit k below =
    elim (cases_eq bit k) [
      | inl same ↦ let test : (bit == k) ≡ true = grind (arith, nat_tests) in rw test (ap (bit_at (bit_or word (1 * 2 ^ bit % 2 ^ 64))) (sym same) ∙ bit_at_set_same w64 word bit below)
      | inr other ↦ let test : (bit == k) ≡ false = grind (arith, nat_tests) in rw test (bit_at_set_other w64 word bit below k (λ same. other (sym same)))
    ]

-- a bit that is cleared
pub cleared_bit : (word bit k : ℕ) → bit < 64 → k < 64 → bit_at (bit_and word (bit_not w64 (1 * 2 ^ bit % 2 ^ 64))) k ≡ (if bit == k then 0 else bit_at word k)
cleared_bit word bit k below within =
    elim (cases_eq bit k) [
      | inl same ↦ let test : (bit == k) ≡ true = grind (arith, nat_tests) in rw test (ap (bit_at (bit_and word (bit_not w64 (1 * 2 ^ bit % 2 ^ 64)))) (sym same) ∙ bit_at_clear_same w64 word bit below)
      | inr other ↦ let test : (bit == k) ≡ false = grind (arith, nat_tests) in rw test (bit_at_clear_other w64 word bit below k within (λ same. other (sym same)))
    ]

-- whether a bit is one after a word was changed in one bit
is_one : (has : Bool) → ((if has then 1 else 0) == 1) ≡ has
is_one true = refl
is_one false = refl

-- one index more, or one less
pub marked_set : (words : List ℕ) (index word k : ℕ) (has : Bool) → index / 64 < length words
    → ((j : ℕ) → j < 64 → bit_at word j ≡ (if index % 64 == j then (if has then 1 else 0) else bit_at (get_or words (index / 64) 0) j))
    → is_marked (set words (index / 64) word) k ≡ (if index == k then has else is_marked words k)
unfolding is_marked
marked_set words index word k has within bits =
    elim (cases_eq (index / 64) (k / 64)) [
      | inl near ↦
          let here : get_or (set words (index / 64) word) (k / 64) 0 ≡ word = rw (← near) (get_or-set_same words (index / 64) word 0 within) in
          elim (cases_eq (index % 64) (k % 64)) [
            | inl bit ↦
                let test : (index == k) ≡ true = grind (arith, nat_tests) in
                let one : (index % 64 == k % 64) ≡ true = grind (arith, nat_tests) in
                rw (here, test, bits (k % 64) (omega arith), one) (is_one has)
            | inr other ↦
                let test : (index == k) ≡ false = grind (arith, nat_tests) in
                let zero : (index % 64 == k % 64) ≡ false = grind (arith, nat_tests) in
                rw (here, test, bits (k % 64) (omega arith), zero, ← near) refl
          ]
      | inr far ↦
          let test : (index == k) ≡ false = grind (arith, nat_tests) in
          rw (test, get_or-set_other words (index / 64) (k / 64) word 0 (λ same. far (sym same))) refl
    ]

-- words without a bit
pub none_marked : (n k : ℕ) → k / 64 < n → is_marked (replicate n 0) k ≡ false
unfolding is_marked
none_marked n k within = rw (get_or-replicate {A = ℕ} n (k / 64) 0 0 within, bit_at-zero (k % 64)) refl

-- the same, by the place of the word
pub marked_at : (words old : List ℕ) (place index word k : ℕ) (has : Bool) → words ≡ old → place ≡ index / 64 → place < length words
    → ((j : ℕ) → j < 64 → bit_at word j ≡ (if index % 64 == j then (if has then 1 else 0) else bit_at (get_or words place 0) j))
    → is_marked (set words place word) k ≡ (if index == k then has else is_marked old k)
marked_at words old place index word k has is here within bits =
    rw (← is, here) (marked_set words index word k has (rw here at within) (λ j below. rw here at (bits j below)))
