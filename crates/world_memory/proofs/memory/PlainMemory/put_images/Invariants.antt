use Rattle.std.proofs.Common.{List, take}
use Rattle.history_event.specs.declared.event.Range.{Range}
use Rattle.history_state.specs.State.{State}
use Rattle.history_calls.specs.Served.{AreImages}
use Rattle.world_memory.specs.Pages.{AreGuest, RemakesEach, reserved_word}
use Rattle.world_memory.proofs.memory.PlainMemory.put_images.Given as goal

-- those in front are there
abbrev pub invariant-loop-image : goal.invariant-loop-image
invariant-loop-image l = (s : State) (ranges : List Range) → AreImages s ranges l.images → AreGuest ranges
    → RemakesEach (reserved_word s) (take l.image-index ranges) l.initial.self l.self
