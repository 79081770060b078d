use Rattle.history_state.specs.Lemmas.History.{legal_is_lawful}
use Rattle.world_turns.specs.Memory.{memory_of}
use Rattle.world_turns.specs.World.{winners}
use Rattle.world_turns.proofs.law.slots_are_true.Goals as goal

pub returns : goal.returns
returns c w world only sound =
    c.slots_are_true.ensures w.machine world.journal (winners world.harts) (memory_of world.words) only (legal_is_lawful w world.journal sound.legal) sound.holds
