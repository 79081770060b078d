use Rattle.std.proofs.Common.{◌≡◌, take, map}
use Rattle.asm_write.specs.Starts.{plain_extent}
use Rattle.asm_write.proofs.sizes.plain_extents.Given as goal

abbrev pub invariant-loop-part : goal.invariant-loop-part
invariant-loop-part l = l.extents.items ≡ map (plain_extent l.contents) (take l.part-index l.parts)
