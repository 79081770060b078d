use Rattle.std.proofs.Common.{◌≡◌}
use Rattle.asm_uses.proofs.Again.{symbols_before}
use Rattle.asm_uses.proofs.export_set.symbols_of.Given as goal

-- the symbols of the lines so far
abbrev pub invariant-loop-number : goal.invariant-loop-number
invariant-loop-number l = l.set ≡ symbols_before l.line-items l.number
