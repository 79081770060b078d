-- The least rule that is broken, and the first number that is bad.
use Rattle.std.specs.Prelude.{ℕ, ◌<◌}
use Rattle.ld_base.specs.declared.fault.NotAccepted.{NotAccepted}

-- the rule is broken with this number, and no rule before it is broken
pub record IsFirstBroken (Breaks : ℕ → ℕ → Type 0) (fault : NotAccepted) : Type 0 where
  pub broken : Breaks fault.rule fault.number
  pub kept : (rule number : ℕ) → rule < fault.rule → Breaks rule number → ⊥

-- no rule is broken
abbrev pub NoneBroken : (ℕ → ℕ → Type 0) → Type 0
NoneBroken Breaks = (rule number : ℕ) → Breaks rule number → ⊥

-- the first number of which Bad holds
pub record IsFirst (Bad : ℕ → Type 0) (k : ℕ) : Type 0 where
  pub bad : Bad k
  pub before : (j : ℕ) → j < k → Bad j → ⊥
