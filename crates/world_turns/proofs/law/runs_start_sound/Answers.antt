use Rattle.world_turns.specs.Lemmas.Starting.{start_sound}
use Rattle.world_turns.proofs.law.runs_start_sound.Goals as goal

pub returns : goal.returns
returns c = start_sound c.memory_begins.ensures c.events_keep.ensures.kept
