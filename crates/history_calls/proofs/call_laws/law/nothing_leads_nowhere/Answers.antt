use Rattle.history_calls.proofs.CallLaws.Nowhere.{leads_nowhere}
use Rattle.history_calls.proofs.call_laws.law.nothing_leads_nowhere.Goals as goal

pub returns : goal.returns
returns c = leads_nowhere
