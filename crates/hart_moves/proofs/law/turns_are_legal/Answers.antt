use Rattle.hart_moves.specs.Lemmas.Legality.{turns_legal, turns_own}
use Rattle.hart_moves.proofs.law.turns_are_legal.Goals as goal

pub returns-clause-legal : goal.returns-clause-legal
returns-clause-legal c = turns_legal

pub returns-clause-own : goal.returns-clause-own
returns-clause-own c = turns_own
