use Rattle.std.proofs.Common.{refl}
use Rattle.history_calls.specs.Lemmas.Examples.{is_absent_by, is_missing, opens_by_flags, refuses_flags, refuses_name, refuses_shorter}
use Rattle.history_calls.proofs.worked_calls.judges_what_is_asked.Goals as goal

pub returns-clause-both : goal.returns-clause-both
returns-clause-both c = refuses_flags 3 refl

pub returns-clause-neither : goal.returns-clause-neither
returns-clause-neither c = refuses_flags 0 refl

pub returns-clause-deep_alone : goal.returns-clause-deep_alone
returns-clause-deep_alone c = refuses_flags 8 refl

pub returns-clause-not_opened : goal.returns-clause-not_opened
returns-clause-not_opened c = opens_by_flags 3 refl

pub returns-clause-absent : goal.returns-clause-absent
returns-clause-absent c = is_absent_by

pub returns-clause-not_missing : goal.returns-clause-not_missing
returns-clause-not_missing c = is_missing (record { one_walk = c.one_outcome.ensures.one_walk; one_stop = c.one_outcome.ensures.one_stop; not_both = c.one_outcome.ensures.not_both })

pub returns-clause-long : goal.returns-clause-long
returns-clause-long c = refuses_name

pub returns-clause-not_long : goal.returns-clause-not_long
returns-clause-not_long c = refuses_shorter (record { one_walk = c.one_outcome.ensures.one_walk; one_stop = c.one_outcome.ensures.one_stop; not_both = c.one_outcome.ensures.not_both })
