use Rattle.std.proofs.Common.{take}
use Rattle.world_memory.specs.Pages.{AreGuest, RemakesEach, released_word}
use Rattle.world_memory.proofs.memory.PlainMemory.release.Given as goal

-- those in front are taken away
abbrev pub invariant-loop-range : goal.invariant-loop-range
invariant-loop-range l = AreGuest l.ranges → RemakesEach released_word (take l.range-index l.ranges) l.initial.self l.self
