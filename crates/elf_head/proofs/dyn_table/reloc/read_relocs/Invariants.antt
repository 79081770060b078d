use Rattle.std.proofs.Common.{◌≡◌}
use Rattle.elf_head.specs.AcceptancePart.Table.{table}
use Rattle.elf_head.specs.DynTable.Reloc.{reloc_at}
use Rattle.elf_head.proofs.dyn_table.reloc.read_relocs.Given as goal

abbrev pub invariant-loop-index : goal.invariant-loop-index
invariant-loop-index l = l.relocs.items ≡ table (reloc_at l.bytes) 0 24 l.index
