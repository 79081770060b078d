use Rattle.history_worked.proofs.Chosen.{not_without_version, version_legal}
use Rattle.history_worked.proofs.choosing.hidden_versions_are_asked_for.Goals as goal

pub returns-clause-by_version : goal.returns-clause-by_version
returns-clause-by_version c = version_legal

pub returns-clause-not_without : goal.returns-clause-not_without
returns-clause-not_without c = not_without_version
