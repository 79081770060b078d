use Rattle.word_memory.specs.WordSeats.Making.{IsMade}
use Rattle.word_memory.proofs.word_seats.making.make_linker_page.Given as goal

abbrev pub invariant-loop-index : goal.invariant-loop-index
invariant-loop-index g l = IsMade l.keeper l.index 0
