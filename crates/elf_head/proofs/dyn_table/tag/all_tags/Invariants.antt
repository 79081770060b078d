use Rattle.std.proofs.Common.{◌≡◌}
use Rattle.elf_head.specs.AcceptancePart.Table.{table}
use Rattle.elf_head.specs.DynTable.Tag.{tag_at}
use Rattle.elf_head.proofs.dyn_table.tag.all_tags.Given as goal

abbrev pub invariant-loop-index : goal.invariant-loop-index
invariant-loop-index l = l.tags.items ≡ table (tag_at l.bytes) 0 16 l.index
