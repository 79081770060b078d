use Rattle.history_worked.proofs.Chosen.{hidden_legal, hidden_not_found, protected_legal, protected_not_programs}
use Rattle.history_worked.proofs.choosing.visibility_is_kept.Goals as goal

pub returns-clause-protected : goal.returns-clause-protected
returns-clause-protected c = protected_legal

pub returns-clause-not_the_programs : goal.returns-clause-not_the_programs
returns-clause-not_the_programs c = protected_not_programs

pub returns-clause-hidden : goal.returns-clause-hidden
returns-clause-hidden c = hidden_legal

pub returns-clause-not_found : goal.returns-clause-not_found
returns-clause-not_found c = hidden_not_found
