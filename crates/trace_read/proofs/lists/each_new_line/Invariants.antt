use Rattle.std.proofs.Common.{◌≡◌, length, map}
use Rattle.trace_read.specs.Lists.{each, new_line}
use Rattle.trace_read.proofs.Looped.{onto}
use Rattle.trace_read.proofs.lists.each_new_line.Given as goal

-- the objects so far stand before those of the texts that are left
abbrev pub invariant-loop-rest : goal.invariant-loop-rest
invariant-loop-rest l = onto l.lines (each new_line (map (λ text. text.now) l.rest)) ≡ each new_line (map (λ text. text.now) l.texts)

abbrev pub decreases-loop-rest : goal.decreases-loop-rest
decreases-loop-rest l = length l.rest
