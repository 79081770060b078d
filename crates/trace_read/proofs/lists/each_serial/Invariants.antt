use Rattle.std.proofs.Common.{◌≡◌, length, map}
use Rattle.trace_read.specs.Lists.{each}
use Rattle.trace_read.proofs.Looped.{onto}
use Rattle.trace_read.specs.Numbers.{numeral}
use Rattle.trace_read.proofs.lists.each_serial.Given as goal

-- the serials so far stand before those of the texts that are left
abbrev pub invariant-loop-rest : goal.invariant-loop-rest
invariant-loop-rest l = onto l.serials (each (numeral 10) (map (λ text. text.now) l.rest)) ≡ each (numeral 10) (map (λ text. text.now) l.texts)

abbrev pub decreases-loop-rest : goal.decreases-loop-rest
decreases-loop-rest l = length l.rest
