use Rattle.history_calls.specs.Lemmas.InOrder.{ask_first, passed, stages_in_order, symbols_in_order}
use Rattle.history_calls.proofs.law.refusals_come_in_order.Goals as goal

pub returns-clause-asked : goal.returns-clause-asked
returns-clause-asked c = ask_first

pub returns-clause-stages : goal.returns-clause-stages
returns-clause-stages c = stages_in_order (record { one_walk = c.one_outcome.ensures.one_walk; one_stop = c.one_outcome.ensures.one_stop; not_both = c.one_outcome.ensures.not_both })

pub returns-clause-symbols : goal.returns-clause-symbols
returns-clause-symbols c = symbols_in_order

pub returns-clause-passed : goal.returns-clause-passed
returns-clause-passed c = passed (record { one_walk = c.one_outcome.ensures.one_walk; one_stop = c.one_outcome.ensures.one_stop; not_both = c.one_outcome.ensures.not_both })
