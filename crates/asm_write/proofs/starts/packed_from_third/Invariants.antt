use Rattle.std.proofs.Common.{◌≡◌, take}
use Rattle.asm_write.specs.Starts.{packed_from}
use Rattle.asm_write.proofs.starts.packed_from_third.Given as goal

abbrev pub invariant-loop-fix : goal.invariant-loop-fix
invariant-loop-fix l = l.places.items ≡ packed_from l.starts (take l.fix-index l.fixes)
