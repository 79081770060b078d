use Rattle.std.proofs.Common.{map, take}
use Rattle.world_turns.specs.SchedulesPart.Grammar.{AreItems}
use Rattle.cli_read.proofs.schedule_read.items.items_of.Given as goal

-- the turns so far are the items of the parts so far
abbrev pub invariant-loop-part : goal.invariant-loop-part
invariant-loop-part l = AreItems l.harts (map (λ part. part.now) (take l.part-index l.parts)) l.turns
