use Rattle.history_calls.proofs.CallLaws.Closed.{images_kept, order_kept}
use Rattle.history_calls.proofs.call_laws.law.closings_keep.Goals as goal

pub returns-clause-images : goal.returns-clause-images
returns-clause-images c = images_kept

pub returns-clause-order : goal.returns-clause-order
returns-clause-order c = order_kept
