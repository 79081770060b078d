use Rattle.std.proofs.Common.{◌+◌, ◌*◌}
use Rattle.world_memory.specs.Pages.{IsGuest, RemakesAt, released_word}
use Rattle.world_memory.proofs.Putting.{between}
use Rattle.world_memory.proofs.memory.PlainMemory.release_pages.Given as goal

-- those in front are taken away
abbrev pub invariant-loop-index : goal.invariant-loop-index
invariant-loop-index l = IsGuest l.range → RemakesAt (between l.range.address (l.range.address + 8 * l.index)) released_word l.initial.self l.self
