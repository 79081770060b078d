use Rattle.history_state.specs.Lemmas.History.{after_push, legal_is_lawful, legal_push, legal_take, lawful_push, lawful_take}
use Rattle.history_state.proofs.law.legal_step_by_step.Goals as goal

pub returns-clause-state : goal.returns-clause-state
returns-clause-state c = after_push

pub returns-clause-lawful : goal.returns-clause-lawful
returns-clause-lawful c = legal_is_lawful

pub returns-clause-push : goal.returns-clause-push
returns-clause-push c = legal_push

pub returns-clause-front : goal.returns-clause-front
returns-clause-front c w events k legal = legal_take w events k legal

pub returns-clause-lawful_push : goal.returns-clause-lawful_push
returns-clause-lawful_push c = lawful_push

pub returns-clause-lawful_front : goal.returns-clause-lawful_front
returns-clause-lawful_front c = lawful_take
