use Rattle.ldso_cli.proofs.Decided.{one_end}
use Rattle.ldso_cli.proofs.law.one_end.Goals as goal

pub returns : goal.returns
returns c = one_end c.one_outcome.ensures.one_walk c.one_outcome.ensures.one_stop c.one_outcome.ensures.not_both
    (record { one = c.one_answer.ensures.one; never_both = c.one_answer.ensures.never_both; one_fault = c.one_answer.ensures.one_fault })
