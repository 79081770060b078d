use Rattle.kept_words.specs.Gone.{IsOfOther}
use Rattle.word_installs.specs.Unmapped.{Retires}
use Rattle.word_installs.proofs.unmapping.retire_other.Given as goal

-- it was found locked, and so nothing else changed
abbrev pub invariant-loop : goal.invariant-loop
invariant-loop g l = (goal.iterator-loop g).can_next l.iterator' × (goal.iterator-loop g).is_finite l.iterator' × Retires IsOfOther l.ranges l.fn.keeper l.keeper
