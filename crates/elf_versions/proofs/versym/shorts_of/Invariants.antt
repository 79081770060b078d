use Rattle.std.proofs.Common.{◌≡◌}
use Rattle.ld_base.specs.Field.{field}
use Rattle.elf_head.specs.AcceptancePart.Table.{table}
use Rattle.elf_versions.proofs.versym.shorts_of.Given as goal

abbrev pub invariant-loop-index : goal.invariant-loop-index
invariant-loop-index l = l.shorts.items ≡ table (field 2 l.bytes) 0 2 l.index
