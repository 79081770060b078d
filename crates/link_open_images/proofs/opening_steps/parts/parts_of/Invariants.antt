use Rattle.std.proofs.Common.{◌≡◌, map, take}
use Rattle.link_images.specs.Parts.{part_of}
use Rattle.ld_base.specs.declared.linking.Loaded.{Loaded}
use Rattle.history_state.specs.State.{Linked}
use Rattle.link_open_images.specs.OpeningSteps.Steps.{AreOfRecords}
use Rattle.link_open_images.proofs.opening_steps.parts.parts_of.Given as goal

-- those of the objects in front
abbrev pub invariant-loop-index : goal.invariant-loop-index
invariant-loop-index l = (record_of : Loaded → Linked) → AreOfRecords record_of l.objects l.images → l.parts.items ≡ map part_of (map record_of (take l.index l.objects))
