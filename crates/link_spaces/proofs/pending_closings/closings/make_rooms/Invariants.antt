use Rattle.std.proofs.Common.{◌≡◌, ◌++◌, map, take, drop}
use Rattle.link_spaces.specs.PendingClosingsPart.Pending.{with_more}
use Rattle.link_spaces.proofs.pending_closings.closings.make_rooms.Given as goal

-- those that were passed have more room
abbrev pub invariant-loop-closing : goal.invariant-loop-closing
invariant-loop-closing l = l.closings ≡ map with_more (take l.closing-index l.initial.closings) ++ drop l.closing-index l.initial.closings
