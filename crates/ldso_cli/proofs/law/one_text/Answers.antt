use Rattle.ldso_cli.proofs.Same.{one_text}
use Rattle.ldso_cli.proofs.law.one_text.Goals as goal

pub returns : goal.returns
returns c = one_text c.one_outcome.ensures.one_walk c.one_answer.ensures.one
