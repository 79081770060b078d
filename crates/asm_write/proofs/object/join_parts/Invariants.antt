-- The parts that are left, joined to what is there, give the whole.
use Rattle.std.proofs.Common.{◌≡◌, drop, fold, []}
use Rattle.asm_write.specs.Values.{join_part}
use Rattle.asm_write.proofs.object.join_parts.Given as goal

abbrev pub invariant-loop-part : goal.invariant-loop-part
invariant-loop-part l =
    fold (join_part l.starts l.contents l.code) l.out.items (drop l.part-index l.parts) ≡ fold (join_part l.starts l.contents l.code) [] l.parts
