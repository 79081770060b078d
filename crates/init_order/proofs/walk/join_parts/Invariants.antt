use Rattle.std.proofs.Common.{◌≡◌, ℕ, ◌<◌, List, ◌++◌, length}
use Rattle.std.specs.List.{All}
use Rattle.init_order.proofs.walk.join_parts.Given as goal

-- what was taken off was behind
abbrev pub invariant-loop-start : goal.invariant-loop-start
invariant-loop-start l = (gone : List ℕ) × (l.fn.starts.items ≡ l.starts.items ++ gone) × All (λ s. l.place < s) gone

abbrev pub decreases-loop-start : goal.decreases-loop-start
decreases-loop-start l = length l.starts.items
