use Rattle.ldso_cli.proofs.Traces.{one_checked}
use Rattle.ldso_cli.proofs.law.one_judgement.Goals as goal

pub returns : goal.returns
returns c = λ check files. one_checked c.one_verdict.ensures check files
