use Rattle.std.proofs.Common.{◌≡◌, ◌<◌, length, sym, subst, arith}
use Rattle.address_space.specs.declared.regions.NoRoom.{NoRoom}
use Rattle.link_open_plan.specs.ObjectPlaces.Placing.{IsLacking}
use Rattle.link_open_plan.specs.declared.object_places.placing.PlaceFault.{PlaceFault}
use Rattle.link_open_plan.specs.declared.object_places.placing.PlaceFault.TheVariants.{Full}
use Rattle.link_open_plan.proofs.ObjectPlaces.Given.{given_more, lacks_at}
use Rattle.link_open_plan.proofs.ObjectPlaces.Same.{if_err}
use Rattle.link_open_plan.proofs.object_places.ranges.reserve_all.Goals as goal

pub returns-in_err-reserve-clause-lacks : goal.returns-in_err-reserve-clause-lacks
returns-in_err-reserve-clause-lacks c =
    let lt : c.loop-area.area-index < length c.args.wanted.now = omega arith in
    let e : NoRoom = c.in_err-reserve.field-0.0 in
    if_err c.from_residual.result (λ (f : PlaceFault). f ≡ Full e.0) (IsLacking c.args.regions.now c.args.wanted.now) c.from_residual.ensures.1
    (λ f is. subst (IsLacking c.args.regions.now c.args.wanted.now) (sym is)
    (lacks_at c.args.regions.now c.args.wanted.now c.loop-area.area-index c.area-item.result c.loop-area.ranges c.loop-area.regions e.0 lt c.area-item.is c.loop-area.invariant
    c.in_err-reserve.ensures.none c.in_err-reserve.ensures.pages))

pub loop-area-preserved : goal.loop-area-preserved
loop-area-preserved c =
    let lt : c.loop-area.area-index < length c.args.wanted.now = omega arith in
    given_more c.args.regions.now c.args.wanted.now c.loop-area.area-index c.area-item.result c.loop-area.ranges c.push.new.self c.loop-area.regions c.reserve.new.regions c.in_ok-reserve.field-0 lt c.area-item.is
    c.loop-area.invariant c.in_ok-reserve.ensures.given c.in_ok-reserve.ensures.left c.in_ok-push.ensures.ok
