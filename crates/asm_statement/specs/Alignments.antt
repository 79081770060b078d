-- Alignments: the powers of two from 1 to 4,096.
use Rattle.std.specs.Prelude.{ℕ, Bool, ◌≡◌, ◌≤◌, ◌==◌, ◌^◌, List, [], ◌∷◌}
use Rattle.std.specs.List.{list_any}

abbrev pub alignments : List ℕ
alignments = 1 ∷ 2 ∷ 4 ∷ 8 ∷ 16 ∷ 32 ∷ 64 ∷ 128 ∷ 256 ∷ 512 ∷ 1024 ∷ 2048 ∷ 4096 ∷ []

unfoldable pub is_alignment : ℕ → Bool
is_alignment bytes = list_any (λ power. power == bytes) alignments

-- a power of two from 1 to 4,096
abbrev pub IsPower : ℕ → Type 0
IsPower bytes = (exponent : ℕ) × (exponent ≤ 12) × (bytes ≡ 2 ^ exponent)
