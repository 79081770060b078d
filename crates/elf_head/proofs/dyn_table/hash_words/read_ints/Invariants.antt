use Rattle.std.proofs.Common.{◌≡◌, length}
use Rattle.ld_base.specs.Field.{field}
use Rattle.elf_head.specs.AcceptancePart.Table.{table}
use Rattle.elf_head.proofs.dyn_table.hash_words.read_ints.Given as goal

abbrev pub invariant-loop-index : goal.invariant-loop-index
invariant-loop-index l = record {
  words : l.words.items ≡ table (field 4 l.bytes) l.at 4 l.index;
  len : length l.words.items ≡ l.index;
}
