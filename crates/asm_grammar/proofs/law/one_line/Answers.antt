use Rattle.asm_grammar.proofs.Verdicts.{either_one, never_both, one_said, one_cause}
use Rattle.asm_grammar.proofs.law.one_line.Goals as goal

pub returns-clause-either : goal.returns-clause-either
returns-clause-either c = either_one

pub returns-clause-never_both : goal.returns-clause-never_both
returns-clause-never_both c = never_both

pub returns-clause-one : goal.returns-clause-one
returns-clause-one c = one_said

pub returns-clause-one_cause : goal.returns-clause-one_cause
returns-clause-one_cause c = one_cause
