use Rattle.scope_rule.proofs.Records.{leads_stand, founds_stand}
use Rattle.scope_rule.proofs.law.found_stands.Goals as goal

pub returns : goal.returns
returns c = record { names = leads_stand; founds = founds_stand }
