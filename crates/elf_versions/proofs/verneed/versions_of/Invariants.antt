use Rattle.std.proofs.Common.{map}
use Rattle.elf_head.specs.DynTable.Name.{string_in}
use Rattle.elf_versions.specs.Names.{needed}
use Rattle.elf_versions.specs.Record.{distance}
use Rattle.elf_versions.specs.Verneed.{vernaux_at}
use Rattle.elf_versions.proofs.Reading.{ReadUpTo}
use Rattle.elf_versions.proofs.verneed.versions_of.Given as goal

abbrev pub invariant-loop-index : goal.invariant-loop-index
invariant-loop-index l =
    ReadUpTo (vernaux_at l.records (string_in l.records.strings l.need.file)) (distance l.records 16 12) l.need.versions l.need.count l.index l.at
    (map (needed l.records.strings) l.verneeds.items)
