use Rattle.history_calls.specs.Lemmas.Told.{one_answer, one_opening}
use Rattle.history_calls.proofs.law.one_answer.Goals as goal

pub returns-clause-calls : goal.returns-clause-calls
returns-clause-calls c = one_answer (record { serials = c.serials_follow.ensures; leads = c.found_stands.ensures.names; founds = c.found_stands.ensures.founds }) c.names_find.ensures

pub returns-clause-openings : goal.returns-clause-openings
returns-clause-openings c = one_opening (record { one_walk = c.one_outcome.ensures.one_walk; one_stop = c.one_outcome.ensures.one_stop; not_both = c.one_outcome.ensures.not_both })
