use Rattle.word_installs.specs.Installed.{Puts}
use Rattle.word_installs.proofs.Putting.{OfFirstSlots}
use Rattle.word_installs.proofs.installing.put_slots.Given as goal

-- those in front are there
abbrev pub invariant-loop-slot : goal.invariant-loop-slot
invariant-loop-slot g l = Puts (OfFirstSlots l.slot-index l.images l.slots) l.fn.keeper l.keeper
