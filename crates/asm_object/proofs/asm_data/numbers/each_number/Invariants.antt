use Rattle.asm_object.specs.AsmBytes.Numbers.{AreNumbersTo}
use Rattle.asm_object.proofs.asm_data.numbers.each_number.Given as goal

-- the numbers of the lines so far
abbrev pub invariant-loop-number : goal.invariant-loop-number
invariant-loop-number l = AreNumbersTo l.line-items l.starts l.number l.numbers
