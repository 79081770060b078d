use Rattle.history_worked.proofs.Chosen.{deep_libes_legal, deep_not_programs, plain_not_libes, programs_legal}
use Rattle.history_worked.proofs.choosing.deep_comes_first.Goals as goal

pub returns-clause-deep : goal.returns-clause-deep
returns-clause-deep c = deep_libes_legal

pub returns-clause-not_the_programs : goal.returns-clause-not_the_programs
returns-clause-not_the_programs c = deep_not_programs

pub returns-clause-plain : goal.returns-clause-plain
returns-clause-plain c = programs_legal

pub returns-clause-not_libes : goal.returns-clause-not_libes
returns-clause-not_libes c = plain_not_libes
