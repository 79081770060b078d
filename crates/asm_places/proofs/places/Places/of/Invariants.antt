use Rattle.std.proofs.Common.{take}
use Rattle.asm_places.specs.Counts.{Counts, ArePlacesTo}
use Rattle.asm_places.proofs.places.Places.of.Given as goal

-- the places of the lines so far, and what these lines leave
abbrev pub invariant-loop-line : goal.invariant-loop-line
invariant-loop-line l = record {
  counts : Counts (take l.line-index l.line-items) l.end;
  places : ArePlacesTo l.line-items l.line-index l.lines;
}
