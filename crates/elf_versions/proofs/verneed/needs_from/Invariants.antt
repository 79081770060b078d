use Rattle.std.proofs.Common.{◌≡◌, length, map}
use Rattle.elf_versions.specs.Names.{need_of}
use Rattle.elf_versions.specs.Record.{distance}
use Rattle.elf_versions.specs.Verneed.{need_at}
use Rattle.elf_versions.proofs.Reading.{ReadUpTo}
use Rattle.elf_versions.proofs.verneed.needs_from.Given as goal

abbrev pub invariant-loop-index : goal.invariant-loop-index
invariant-loop-index l = record {
  linked : ReadUpTo (need_at l.records) (distance l.records 16 12) l.start l.count l.index l.at (map (need_of l.records.strings) l.needs.items);
  len : length l.needs.items ≡ l.index;
}
