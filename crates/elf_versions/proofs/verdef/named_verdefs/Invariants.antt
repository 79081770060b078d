use Rattle.std.proofs.Common.{◌≡◌, map, take}
use Rattle.elf_versions.specs.Names.{defined}
use Rattle.elf_versions.proofs.verdef.named_verdefs.Given as goal

-- the records so far have their names
abbrev pub invariant-loop-record : goal.invariant-loop-record
invariant-loop-record l = l.verdefs ≡ map (defined l.strings) (take l.record-index l.records)
