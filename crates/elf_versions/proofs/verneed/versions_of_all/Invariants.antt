use Rattle.std.proofs.Common.{◌≡◌, drop, map}
use Rattle.elf_versions.specs.Names.{need_of, needed}
use Rattle.elf_versions.specs.Verneed.{versions_of_all}
use Rattle.elf_versions.proofs.Reading.{after}
use Rattle.elf_versions.proofs.verneed.versions_of_all.Given as goal

-- the versions so far, and those of the files that are left, are all
abbrev pub invariant-loop-need : goal.invariant-loop-need
invariant-loop-need l = after (map (needed l.records.strings) l.verneeds.items) (versions_of_all l.records (map (need_of l.records.strings) (drop l.need-index l.needs))) ≡ versions_of_all l.records (map (need_of l.records.strings) l.needs)
