use Rattle.std.proofs.Common.{length}
use Rattle.cli_read.specs.SaidWords.Words.{texts}
use Rattle.cli_read.proofs.SaidWords.Counting.{At}
use Rattle.cli_read.proofs.said_words.said.Said.of.Given as goal

-- what the words so far say
abbrev pub invariant-loop-word : goal.invariant-loop-word
invariant-loop-word l = At l.known (texts l.words) l.said (texts l.rest)

abbrev pub decreases-loop-word : goal.decreases-loop-word
decreases-loop-word l = length l.rest
