use Rattle.std.proofs.Common.{◌≡◌, map, take}
use Rattle.trace_read.specs.Said.{said_of_new}
use Rattle.trace_rows.proofs.said.openings.says_each.Given as goal

-- so far each line says what its object is
abbrev pub invariant-loop-index : goal.invariant-loop-index
invariant-loop-index l = map said_of_new (take l.index l.new) ≡ take l.index l.said
