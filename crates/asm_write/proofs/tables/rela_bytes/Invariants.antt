use Rattle.std.proofs.Common.{◌≡◌, take, flat_map}
use Rattle.asm_write.specs.Values.{listed_bytes}
use Rattle.asm_write.proofs.tables.rela_bytes.Given as goal

abbrev pub invariant-loop-fix : goal.invariant-loop-fix
invariant-loop-fix l = l.out.items ≡ flat_map (listed_bytes l.starts) (take l.fix-index l.fixes)
