use Rattle.std.proofs.Common.{ap, ◌∙◌}
use Rattle.link_open_plan.specs.ObjectPlaces.Placing.{area_of_hart}
use Rattle.link_open_plan.proofs.ObjectPlaces.Same.{pushed_more}
use Rattle.link_open_plan.proofs.object_places.wanted.push_static_areas.Goals as goal

pub loop-hart-preserved : goal.loop-hart-preserved
loop-hart-preserved c =
    pushed_more (area_of_hart c.args.pages c.args.align) c.args.wanted.now.items c.loop-hart.wanted.items c.push.new.self.items c.loop-hart.hart c.anywhere.result c.loop-hart.invariant
    (c.anywhere.ensures ∙ ap (λ h. area_of_hart c.args.pages c.args.align h) c.new.ensures) c.in_ok-push.ensures.items
