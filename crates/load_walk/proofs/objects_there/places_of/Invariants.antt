use Rattle.std.proofs.Common.{take}
use Rattle.load_walk.specs.Places.{OfLoaded}
use Rattle.load_walk.proofs.objects_there.places_of.Given as goal

-- the places are those of the objects so far
abbrev pub invariant-loop-place : goal.invariant-loop-place
invariant-loop-place l = OfLoaded (take l.place l.objects) l.places
