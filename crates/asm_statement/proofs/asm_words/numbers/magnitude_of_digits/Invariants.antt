use Rattle.std.proofs.Common.{◌≡◌, length, Some}
use Rattle.asm_statement.specs.AsmWords.Magnitude.{magnitude}
use Rattle.asm_statement.proofs.asm_words.numbers.magnitude_of_digits.Given as goal

-- the digits that are left make the same magnitude after those that are read
abbrev pub invariant-loop-rest : goal.invariant-loop-rest
invariant-loop-rest l = magnitude l.base l.value l.rest ≡ magnitude l.base (Some 0) l.digits

abbrev pub decreases-loop-rest : goal.decreases-loop-rest
decreases-loop-rest l = length l.rest
