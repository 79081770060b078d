use Rattle.std.proofs.Common.{◌≡◌, drop, Some}
use Rattle.relocator.specs.Storage.{offset_of}
use Rattle.link_open_plan.proofs.object_choices.faults.offset_of.Given as goal

-- the search of the rest is the search of the whole
abbrev pub invariant-loop-place : goal.invariant-loop-place
invariant-loop-place l = offset_of (drop l.place-index l.place-items) (Some l.serial) ≡ offset_of l.place-items (Some l.serial)
