use Rattle.history_calls.proofs.CallLaws.Examples.{refusals_are}
use Rattle.history_calls.proofs.call_laws.worked.refusals_are_told_apart.Goals as goal

pub returns : goal.returns
returns c = refusals_are
