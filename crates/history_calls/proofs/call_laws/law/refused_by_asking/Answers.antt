use Rattle.history_calls.proofs.CallLaws.Asking.{refused_by_asking}
use Rattle.history_calls.proofs.call_laws.law.refused_by_asking.Goals as goal

pub returns : goal.returns
returns c = refused_by_asking
