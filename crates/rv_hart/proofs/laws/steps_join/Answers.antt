use Rattle.rv_hart.proofs.Trails.{step_leads, leads_join}
use Rattle.rv_hart.proofs.laws.steps_join.Goals as goal

pub returns : goal.returns
returns c = record { step = step_leads; join = leads_join }
