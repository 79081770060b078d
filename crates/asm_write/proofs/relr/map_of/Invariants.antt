-- The places that are left, put into the word, give the whole.
use Rattle.std.proofs.Common.{◌≡◌, drop, fold}
use Rattle.asm_write.specs.Relr.{with_place}
use Rattle.asm_write.proofs.relr.map_of.Given as goal

abbrev pub invariant-loop-place : goal.invariant-loop-place
invariant-loop-place l = fold (with_place l.base) l.word (drop l.place-index l.places) ≡ fold (with_place l.base) 1 l.places
