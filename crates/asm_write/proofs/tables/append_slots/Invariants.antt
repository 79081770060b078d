-- What is still to come stands behind what is there.
use Rattle.std.proofs.Common.{◌≡◌, ◌++◌, drop}
use Rattle.asm_write.specs.Values.{lazy_words}
use Rattle.asm_write.proofs.tables.append_slots.Given as goal

abbrev pub invariant-loop-slot : goal.invariant-loop-slot
invariant-loop-slot l = l.out.items ++ lazy_words l.plt (drop l._slot-index l.slots) ≡ l.initial.out.items ++ lazy_words l.plt l.slots
