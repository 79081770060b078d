use Rattle.history_worked.proofs.Chosen.{own_legal, symbolic_not_programs}
use Rattle.history_worked.proofs.choosing.symbolic_comes_first.Goals as goal

pub returns-clause-own : goal.returns-clause-own
returns-clause-own c = own_legal

pub returns-clause-not_the_programs : goal.returns-clause-not_the_programs
returns-clause-not_the_programs c = symbolic_not_programs
