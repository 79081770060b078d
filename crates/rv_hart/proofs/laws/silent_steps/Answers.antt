use Rattle.rv_hart.proofs.Trails.{silent_steps}
use Rattle.rv_hart.proofs.laws.silent_steps.Goals as goal

pub returns : goal.returns
returns c = silent_steps
