use Rattle.std.proofs.Common.{◌≡◌, ◌<◌, take}
use Rattle.std.specs.List.{fold}
use Rattle.link_open_plan.proofs.ObjectPlaces.Given.{align_by}
use Rattle.link_open_plan.proofs.object_places.wanted.storage_align.Given as goal

-- what those in front ask for
abbrev pub invariant-loop-object : goal.invariant-loop-object
invariant-loop-object l = record {
  is : l.align ≡ fold align_by 4096 (take l.object-index l.added);
  some : 0 < l.align;
}
