-- Counts that only go up, and stand still at the end of their type.
use Rattle.std.specs.Prelude.{◌≡◌, ℕ, ◌+◌, ◌-◌, ◌^◌, ◌≤◌, ◌⊎◌, nat_lt, if◌then◌else◌}

-- the count has risen by this much at least, or it stands at the end of its type
abbrev pub RisesBy : ℕ → ℕ → ℕ → Type 0
RisesBy much before after = (before + much ≤ after) ⊎ (2 ^ 64 - 1 ≤ after)

-- the count has risen
abbrev pub Rises : ℕ → ℕ → Type 0
Rises before after = RisesBy 1 before after

-- the count after one more: at the end of its type it stands still
abbrev pub one_more : ℕ → ℕ
one_more count = if nat_lt count (2 ^ 64 - 1) then count + 1 else count

-- the count is one more where this holds, and else the same
pub record CountsIf (this : Type 0) (before after : ℕ) : Type 0 where
  pub rises : this → after ≡ one_more before
  pub stays : ¬ this → after ≡ before
