-- Ranges that lie apart, as a map from where each begins to where it ends: for loops of this crate alone.
use Rattle.std.specs.Prelude.{◌≡◌, ℕ, ◌<◌, ◌≤◌, Some}
use Rattle.std.specs.BTreeMap.{BTreeMap, get}
use Rattle.std.specs.Ordering.{nat_cmp}

-- each has bytes, and ends before the next one begins
pub record LieApart (ends : BTreeMap ℕ ℕ) : Type 0 where
  pub some : (start end : ℕ) → get nat_cmp ends start ≡ Some end → start < end
  pub apart : (start end next past : ℕ) → get nat_cmp ends start ≡ Some end → get nat_cmp ends next ≡ Some past → start < next → end ≤ next

-- one that begins before an end and ends past a start
pub record Meets (ends : BTreeMap ℕ ℕ) (start end first past : ℕ) : Type 0 where
  pub stands : get nat_cmp ends first ≡ Some past
  pub begins : first < end
  pub reaches : start < past

-- there is one
abbrev pub IsMet : BTreeMap ℕ ℕ → ℕ → ℕ → Type 0
IsMet ends start end = (first : ℕ) × ((past : ℕ) × Meets ends start end first past)
