use Rattle.history_calls.specs.Lemmas.Examples.{ends_unloaded, ends_without_slot}
use Rattle.history_calls.proofs.worked_calls.ends_without_a_slot.Goals as goal

pub returns-clause-unloaded : goal.returns-clause-unloaded
returns-clause-unloaded c = ends_unloaded

pub returns-clause-no_slot : goal.returns-clause-no_slot
returns-clause-no_slot c = ends_without_slot
