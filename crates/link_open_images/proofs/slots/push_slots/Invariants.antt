use Rattle.std.proofs.Common.{◌≡◌, ◌++◌, map, take}
use Rattle.history_calls.specs.Served.{slot_word}
use Rattle.link_open_images.proofs.slots.push_slots.Given as goal

-- those in front
abbrev pub invariant-loop-slot : goal.invariant-loop-slot
invariant-loop-slot l = l.slots ≡ l.initial.slots ++ map (slot_word l.object) (take l.slot-index l.slot-items)
