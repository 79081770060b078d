use Rattle.std.proofs.Common.{◌≡◌, length, reverse}
use Rattle.asm_statement.specs.AsmWords.Text.{after_blanks}
use Rattle.asm_statement.proofs.asm_words.text.before_blanks.Given as goal

-- what is left has the same text before its blanks
abbrev pub invariant-loop-text : goal.invariant-loop-text
invariant-loop-text l = after_blanks (reverse l.text) ≡ after_blanks (reverse l.fn.text)

abbrev pub decreases-loop-text : goal.decreases-loop-text
decreases-loop-text l = length l.text
