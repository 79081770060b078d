-- Addresses of an object's own and of guest memory, where its pages begin at A and the object's own at low.
use Rattle.std.proofs.Common.{◌≡◌, ℕ, ◌+◌, ◌-◌, ◌%◌, ◌^◌, ◌<◌, ◌≤◌, arith}
use Rattle.seg_image.specs.Pages.{guest_address, own_address}

-- an address of the pages, as the object's own
pub own_of : (low A a n : ℕ) → low + n ≤ 2 ^ 33 → A + n ≤ 2 ^ 33 → A ≤ a → a < A + n → own_address (own_address low A) a ≡ low + (a - A)
unfolding own_address
own_of low A a n small fits from to = omega (arith, small, fits, from, to)

-- an address that is one of the object's own pages is one of these
pub own_in : (low A a n : ℕ) → low + n ≤ 2 ^ 33 → A + n ≤ 2 ^ 33 → a < 2 ^ 64 → low ≤ own_address (own_address low A) a → own_address (own_address low A) a < low + n → (A ≤ a) × (a < A + n)
unfolding own_address
own_in low A a n small fits word from to = (omega (arith, small, fits, word, from, to), omega (arith, small, fits, word, from, to))

-- and back
pub guest_of : (low A v n : ℕ) → low + n ≤ 2 ^ 33 → A + n ≤ 2 ^ 33 → low ≤ v → v < low + n → guest_address (own_address low A) v ≡ A + (v - low)
unfolding own_address guest_address
guest_of low A v n small fits from to = omega (arith, small, fits, from, to)

pub moved_of : (low A v n : ℕ) → low + n ≤ 2 ^ 33 → A + n ≤ 2 ^ 33 → low ≤ v → v < low + n → (v + own_address low A) % 2 ^ 64 ≡ A + (v - low)
unfolding own_address
moved_of low A v n small fits from to = omega (arith, small, fits, from, to)
