use Rattle.std.proofs.Common.{◌+◌, ◌*◌}
use Rattle.history_event.specs.declared.event.Range.{Range}
use Rattle.history_state.specs.State.{State}
use Rattle.history_calls.specs.Served.{AreWordsOf}
use Rattle.world_memory.specs.Pages.{IsGuest, RemakesAt, reserved_word}
use Rattle.world_memory.proofs.Putting.{between}
use Rattle.world_memory.proofs.memory.PlainMemory.put_words.Given as goal

-- those in front are there
abbrev pub invariant-loop-index : goal.invariant-loop-index
invariant-loop-index l = (s : State) (r : Range) → AreWordsOf s r (record { start = l.start; words = l.words }) → IsGuest r
    → RemakesAt (between r.address (r.address + 8 * l.index)) (reserved_word s) l.initial.self l.self
