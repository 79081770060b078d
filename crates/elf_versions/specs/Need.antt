-- A file of which versions are needed.
use Rattle.std.specs.Prelude.{ℕ, List}

pub record Need : Type 0 where
  pub file : List ℕ
  -- where the first of their records stands, and how many there are
  pub versions : ℕ
  pub count : ℕ
