-- Places that the packed table can name.
use Rattle.std.specs.Prelude.{◌≡◌, ℕ, ◌+◌, ◌%◌, ◌≤◌, ⊤, List, [], ◌∷◌}

-- each place is even and stands behind the one before, the first from here on
abbrev pub AreAscending : ℕ → List ℕ → Type 0
AreAscending from [] = ⊤
AreAscending from (place ∷ places) = (from ≤ place) × ((place % 2 ≡ 0) × AreAscending (place + 1) places)
