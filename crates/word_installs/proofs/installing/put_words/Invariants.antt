use Rattle.word_installs.specs.Installed.{Puts}
use Rattle.word_installs.proofs.Putting.{OfFirst}
use Rattle.word_installs.proofs.installing.put_words.Given as goal

-- those in front are there
abbrev pub invariant-loop-index : goal.invariant-loop-index
invariant-loop-index g l = Puts (OfFirst l.index l.start l.words) l.fn.keeper l.keeper
