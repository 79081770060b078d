use Rattle.history_state.proofs.Separate.{namespaces_legal, namespaces_whole, not_the_others}
use Rattle.history_state.proofs.journals.namespaces_are_apart.Goals as goal

pub returns-clause-legal : goal.returns-clause-legal
returns-clause-legal c = namespaces_legal

pub returns-clause-whole : goal.returns-clause-whole
returns-clause-whole c = namespaces_whole

pub returns-clause-other_namespace : goal.returns-clause-other_namespace
returns-clause-other_namespace c = not_the_others
