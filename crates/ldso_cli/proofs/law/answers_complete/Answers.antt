use Rattle.ldso_cli.proofs.Completing.{complete}
use Rattle.ldso_cli.proofs.law.answers_complete.Goals as goal

pub returns : goal.returns
returns c = complete (record {
  one_walk = c.one_outcome.ensures.one_walk;
  not_both = c.one_outcome.ensures.not_both;
  never_both = c.one_answer.ensures.never_both;
  starts = c.one_startup.ensures.one;
  one_set = c.one_set.ensures;
  one_verdict = c.one_verdict.ensures;
})
