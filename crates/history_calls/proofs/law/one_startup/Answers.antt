use Rattle.history_calls.proofs.OneStartup.{fails_one_way, starts_one_way, starts_or_fails}
use Rattle.history_calls.proofs.law.one_startup.Goals as goal

pub returns-clause-one : goal.returns-clause-one
returns-clause-one c = starts_or_fails (record { one_walk = c.one_outcome.ensures.one_walk; one_stop = c.one_outcome.ensures.one_stop; not_both = c.one_outcome.ensures.not_both })

pub returns-clause-starts : goal.returns-clause-starts
returns-clause-starts c = starts_one_way (record { one_walk = c.one_outcome.ensures.one_walk; one_stop = c.one_outcome.ensures.one_stop; not_both = c.one_outcome.ensures.not_both })

pub returns-clause-fails : goal.returns-clause-fails
returns-clause-fails c = fails_one_way (record { one_walk = c.one_outcome.ensures.one_walk; one_stop = c.one_outcome.ensures.one_stop; not_both = c.one_outcome.ensures.not_both })
