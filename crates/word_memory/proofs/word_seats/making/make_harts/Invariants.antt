use Rattle.std.proofs.Common.{◌≡◌}
use Rattle.word_memory.specs.WordSeats.Making.{IsMade, new_harts}
use Rattle.word_memory.proofs.word_seats.making.make_harts.Given as goal

abbrev pub invariant-loop-number : goal.invariant-loop-number
invariant-loop-number g l = (l.seats ≡ new_harts l.number) × IsMade l.keeper 512 l.number
