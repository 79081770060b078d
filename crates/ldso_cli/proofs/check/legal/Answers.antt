use Rattle.std.proofs.Common.{◌∙◌}
use Rattle.ldso_cli.specs.Status.{legal_text}
use Rattle.ldso_cli.proofs.check.legal.Goals as goal

pub returns-clause-text : goal.returns-clause-text
unfolding legal_text
returns-clause-text c = c.done.ensures.text ∙ c.in_ok-text.ensures.ok
