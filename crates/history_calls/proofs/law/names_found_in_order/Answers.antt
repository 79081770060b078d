use Rattle.history_calls.proofs.OpeningLaws.{found_by_name}
use Rattle.history_calls.proofs.law.names_found_in_order.Goals as goal

pub returns : goal.returns
returns c = found_by_name c.names_find.ensures
