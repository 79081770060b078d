use Rattle.std.proofs.Common.{◌≡◌, ℕ, ltb}
use Rattle.std.specs.BTreeSet.{contains}
use Rattle.std.specs.Ordering.{nat_cmp}
use Rattle.init_order.proofs.tasks.all_below.Given as goal

-- the numbers so far are in the set, and no others
abbrev pub invariant-loop-number : goal.invariant-loop-number
invariant-loop-number l = (q : ℕ) → contains nat_cmp l.set q ≡ ltb q l.number
