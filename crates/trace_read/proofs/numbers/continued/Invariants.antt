use Rattle.std.proofs.Common.{◌≡◌, length}
use Rattle.trace_read.specs.Numbers.{continued}
use Rattle.trace_read.proofs.numbers.continued.Given as goal

-- the digits that are left make the same number behind those that are read
abbrev pub invariant-loop-rest : goal.invariant-loop-rest
invariant-loop-rest l = continued l.base l.value l.rest ≡ continued l.base 0 l.digits

abbrev pub decreases-loop-rest : goal.decreases-loop-rest
decreases-loop-rest l = length l.rest
