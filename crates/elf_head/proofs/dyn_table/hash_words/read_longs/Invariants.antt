use Rattle.std.proofs.Common.{◌≡◌}
use Rattle.ld_base.specs.Field.{field}
use Rattle.elf_head.specs.AcceptancePart.Table.{table}
use Rattle.elf_head.proofs.dyn_table.hash_words.read_longs.Given as goal

abbrev pub invariant-loop-index : goal.invariant-loop-index
invariant-loop-index l = l.words.items ≡ table (field 8 l.bytes) l.at 8 l.index
