use Rattle.std.proofs.Common.{◌+◌, ◌++◌, ◌∷◌, [], List, sym, ap, subst, ◌∙◌}
use Rattle.history_graph.specs.declared.graph.Edge.{Edge}
use Rattle.init_order.specs.Jobs.{Adds, IsWholeNeed}
use Rattle.init_order.proofs.Pushes.{whole_pushed}
use Rattle.init_order.proofs.needs.push_components.Goals as goal

pub loop-component-preserved : goal.loop-component-preserved
loop-component-preserved c =
    let old : List Edge = c.args.needs.now.items in
    let new : List Edge = c.loop-component.needs.items in
    subst (λ (es : List Edge). Adds old es (IsWholeNeed (c.loop-component.component + 1)))
    (sym (c.in_ok-push.ensures.items ∙ ap (λ (e : Edge). new ++ e ∷ []) c.need.ensures))
    (whole_pushed old new c.loop-component.component c.loop-component.invariant)
