use Rattle.std.proofs.Common.{◌≡◌, take}
use Rattle.elf_dynamic.specs.Named.{slot_ranges}
use Rattle.elf_dynamic.proofs.slot_rules.slot_ranges.Given as goal

-- the ranges of the slots so far
abbrev pub invariant-loop-slot : goal.invariant-loop-slot
invariant-loop-slot l = l.ranges.items ≡ slot_ranges l.symbols (take l.slot-index l.slots)
