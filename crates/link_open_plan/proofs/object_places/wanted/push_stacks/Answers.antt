use Rattle.std.proofs.Common.{ap, ◌∙◌}
use Rattle.history_event.specs.declared.event.Purpose.TheVariants.{Stack}
use Rattle.history_state.specs.Areas.{anywhere, stack_area}
use Rattle.link_open_plan.proofs.ObjectPlaces.Same.{pushed_more}
use Rattle.link_open_plan.proofs.object_places.wanted.push_stacks.Goals as goal

pub loop-hart-preserved : goal.loop-hart-preserved
loop-hart-preserved c =
    pushed_more stack_area c.args.wanted.now.items c.loop-hart.wanted.items c.push.new.self.items c.loop-hart.hart c.anywhere.result c.loop-hart.invariant
    (c.anywhere.ensures ∙ ap (λ h. record { pages = 16; place = anywhere 4096; purpose = Stack h }) c.new.ensures) c.in_ok-push.ensures.items
