use Rattle.history_calls.specs.Lemmas.Examples.{another_opens, another_waits, itself_opens}
use Rattle.history_calls.proofs.worked_calls.waits_for_another_hart.Goals as goal

pub returns-clause-waits : goal.returns-clause-waits
returns-clause-waits c = another_waits

pub returns-clause-itself : goal.returns-clause-itself
returns-clause-itself c = itself_opens

pub returns-clause-not_another : goal.returns-clause-not_another
returns-clause-not_another c = another_opens (record { one_walk = c.one_outcome.ensures.one_walk; one_stop = c.one_outcome.ensures.one_stop; not_both = c.one_outcome.ensures.not_both })
