use Rattle.world_threads.proofs.Slots.{runs_end_slots}
use Rattle.world_threads.proofs.law.slots_end.Goals as goal

pub returns : goal.returns
returns c = runs_end_slots c.grants_are_tidy.ensures
