-- Addresses of doublewords, and their places.
use Rattle.std.proofs.Common.{◌≡◌, ℕ, ◌*◌, ◌/◌, ◌<◌, ◌≤◌, subst, arith}
use Rattle.word_rule.specs.Layout.{IsDoubleword as IsWordAddress, IsInMemory, doublewords, place_of}
use Rattle.history_memory.specs.Memory.{IsDoubleword, doubleword_of}

-- doublewords of one place are one
pub place_one : (a b : ℕ) → IsDoubleword a → IsDoubleword b → place_of a ≡ place_of b → a ≡ b
unfolding place_of
place_one a b first second same =
    let low_a = first.low in let whole_a = first.whole in let low_b = second.low in let whole_b = second.whole in
    omega (arith, low_a, whole_a, low_b, whole_b, same)

pub place_low : (a : ℕ) → IsDoubleword a → place_of a < doublewords
unfolding place_of doublewords
place_low a is = let high = is.high in omega (arith, high)

pub word_address : (a : ℕ) → IsDoubleword a → IsWordAddress a
word_address a is = let low = is.low in ((low, place_low a is), is.whole)

-- an address and its doubleword have one place
pub place_whole : (a : ℕ) → IsDoubleword (doubleword_of a) → place_of (doubleword_of a) ≡ place_of a
unfolding place_of
place_whole a is = let low = is.low in omega (arith, low)

-- an address in a doubleword of guest memory is one of guest memory
pub in_memory : (a : ℕ) → IsDoubleword (doubleword_of a) → IsInMemory a
in_memory a is = let low : 0x10000 ≤ a / 8 * 8 = is.low in ((omega (arith, low)), subst (λ (d : ℕ). d < doublewords) (place_whole a is) (place_low (doubleword_of a) is))
