use Rattle.std.proofs.Common.{◌≡◌, take}
use Rattle.asm_write.specs.Values.{packed_places}
use Rattle.asm_write.proofs.object.packed_places.Given as goal

abbrev pub invariant-loop-fix : goal.invariant-loop-fix
invariant-loop-fix l = l.places.items ≡ packed_places l.starts (take l.fix-index l.fixes)
