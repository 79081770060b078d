use Rattle.std.proofs.Common.{◌≡◌, length}
use Rattle.trace_read.proofs.Looped.{onto}
use Rattle.trace_read.specs.Names.{unescape}
use Rattle.trace_read.specs.Names.Stage.{plain}
use Rattle.trace_read.proofs.names.unescaped.Given as goal

-- the bytes so far stand before those of the text that is left
abbrev pub invariant-loop-rest : goal.invariant-loop-rest
invariant-loop-rest l = onto l.bytes.items (unescape plain l.rest) ≡ unescape plain l.text

abbrev pub decreases-loop-rest : goal.decreases-loop-rest
decreases-loop-rest l = length l.rest
