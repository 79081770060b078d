use Rattle.std.proofs.Common.{◌≡◌, ◌+◌, length}
use Rattle.asm_statement.specs.AsmWords.Text.{until_mark}
use Rattle.asm_statement.proofs.asm_words.text.until_mark.Given as goal

-- the mark is where that of what is left is
abbrev pub invariant-loop-rest : goal.invariant-loop-rest
invariant-loop-rest l = record {
  place : until_mark l.mark l.rest + l.count ≡ until_mark l.mark l.text;
  read : length l.rest + l.count ≡ length l.text;
}

abbrev pub decreases-loop-rest : goal.decreases-loop-rest
decreases-loop-rest l = length l.rest
