use Rattle.std.proofs.Common.{sym, ◌∙◌}
use Rattle.trace_view.proofs.Lanes.{has_stays}
use Rattle.trace_view.proofs.picture.add_lane.Goals as goal

pub returns-then-has_lane : goal.returns-then-has_lane
returns-then-has_lane c =
    let there = sym c.has_lane.ensures ∙ c.if-has_lane.true in
    has_stays c.args.lanes.now.items c.args.hart c.in-Some.hart c.in-Some.is (rw c.as_slice.ensures.value at there)
