use Rattle.hart_moves.specs.Lemmas.Legality.{turns_count, ended_stays}
use Rattle.hart_moves.proofs.law.turns_are_counted.Goals as goal

pub returns-clause-count : goal.returns-clause-count
returns-clause-count c = turns_count

pub returns-clause-ended : goal.returns-clause-ended
returns-clause-ended c = ended_stays
