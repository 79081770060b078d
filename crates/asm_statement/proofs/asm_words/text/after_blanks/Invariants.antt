use Rattle.std.proofs.Common.{◌≡◌, length}
use Rattle.asm_statement.specs.AsmWords.Text.{after_blanks}
use Rattle.asm_statement.proofs.asm_words.text.after_blanks.Given as goal

-- what is left has the same text behind its blanks
abbrev pub invariant-loop-text : goal.invariant-loop-text
invariant-loop-text l = after_blanks l.text ≡ after_blanks l.fn.text

abbrev pub decreases-loop-text : goal.decreases-loop-text
decreases-loop-text l = length l.text
