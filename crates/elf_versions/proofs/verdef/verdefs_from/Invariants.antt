use Rattle.std.proofs.Common.{map}
use Rattle.elf_versions.specs.Names.{defined}
use Rattle.elf_versions.specs.Record.{distance}
use Rattle.elf_versions.specs.Verdef.{verdef_at}
use Rattle.elf_versions.proofs.Reading.{ReadUpTo}
use Rattle.elf_versions.proofs.verdef.verdefs_from.Given as goal

abbrev pub invariant-loop-index : goal.invariant-loop-index
invariant-loop-index l =
    ReadUpTo (verdef_at l.records) (distance l.records 20 16) l.start l.count l.index l.at (map (defined l.records.strings) l.verdefs.items)
