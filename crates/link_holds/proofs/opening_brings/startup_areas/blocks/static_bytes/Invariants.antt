use Rattle.link_holds.proofs.OpeningBrings.StartupAreas.Written.{InFront}
use Rattle.link_holds.proofs.opening_brings.startup_areas.blocks.static_bytes.Given as goal

-- those of the objects in front
abbrev pub invariant-loop-index : goal.invariant-loop-index
invariant-loop-index l = InFront l.tp l.size l.objects l.parts l.index l.bytes.items
