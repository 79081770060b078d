use Rattle.std.proofs.Common.{◌≡◌, take, flat_map}
use Rattle.asm_write.specs.Values.{word_in}
use Rattle.asm_write.proofs.tables.fixed_bytes.Given as goal

abbrev pub invariant-loop-fix : goal.invariant-loop-fix
invariant-loop-fix l = l.out.items ≡ flat_map (word_in l.starts l.part) (take l.fix-index l.fixes)
