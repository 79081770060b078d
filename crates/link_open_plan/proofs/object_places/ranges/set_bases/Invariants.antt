use Rattle.std.proofs.Common.{◌≡◌, map, take}
use Rattle.history_state.specs.Areas.{AreBased}
use Rattle.link_open_plan.specs.ObjectPlaces.Placing.{unbased}
use Rattle.link_open_plan.proofs.object_places.ranges.set_bases.Given as goal

-- those in front have their bases
abbrev pub invariant-loop-index : goal.invariant-loop-index
invariant-loop-index l = record {
  same : map unbased l.added ≡ map unbased l.fn.added;
  based : AreBased (take l.index l.added) l.ranges;
}
