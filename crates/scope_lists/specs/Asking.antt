-- What scopes are made of: for the code of this crate alone.
use Rattle.std.specs.Prelude.{ℕ, List}
use Rattle.scope_rule.specs.Seen.{Seen}

-- what is seen of a namespace, and the serials of those that ask for their scopes
pub record Asking : Type 0 where
  pub seen : Seen
  pub owners : List ℕ
