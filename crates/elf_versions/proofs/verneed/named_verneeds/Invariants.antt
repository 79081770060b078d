use Rattle.std.proofs.Common.{◌≡◌, map, take}
use Rattle.elf_versions.specs.Names.{needed}
use Rattle.elf_versions.proofs.verneed.named_verneeds.Given as goal

-- the records so far have their names
abbrev pub invariant-loop-record : goal.invariant-loop-record
invariant-loop-record l = l.verneeds ≡ map (needed l.strings) (take l.record-index l.records)
