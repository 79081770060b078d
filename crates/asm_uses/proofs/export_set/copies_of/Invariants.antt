use Rattle.std.proofs.Common.{take}
use Rattle.asm_uses.specs.Lines.{AreCopiesOf}
use Rattle.asm_uses.proofs.export_set.copies_of.Given as goal

-- the copies are those of the lines so far
abbrev pub invariant-loop-number : goal.invariant-loop-number
invariant-loop-number l = AreCopiesOf (take l.number l.line-items) l.copies
