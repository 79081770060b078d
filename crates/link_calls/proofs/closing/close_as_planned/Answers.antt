use Rattle.std.proofs.Common.{◌≡◌, ℕ, List, ap, subst, sym, ◌∙◌}
use Rattle.history_event.specs.declared.event.CloseAnswer.TheVariants as closings
use Rattle.history_event.specs.declared.event.Event.TheVariants.{Close}
use Rattle.history_state.specs.After.{after}
use Rattle.history_state.specs.Allowed.{Closes}
use Rattle.history_calls.specs.Functions.{AreDestructors}
use Rattle.link_state.specs.Table.{appended}
use Rattle.link_calls.proofs.Closed.{closed_dies, closed_stays}
use Rattle.link_calls.proofs.Empty.{none_of, some_of}
use Rattle.link_calls.proofs.closing.close_as_planned.Goals as goal

pub returns-then-is_empty-clause-served : goal.returns-then-is_empty-clause-served
returns-then-is_empty-clause-served c =
    closed_stays c.args.state.now c.close_planned.new.self c.args.hart c.args.handle c.args.plan.list c.in_ok-dying.ensures.ok c.requires.closes
    (sym c.in_ok-dying.ensures.dying ∙ none_of c.in_ok-dying.dying.list c.is_empty.result c.is_empty.ensures c.if-is_empty.true)

pub returns-clause-served : goal.returns-clause-served
returns-clause-served c =
    let same : c.args.plan.list ≡ c.in_ok-dying.dying.list = sym c.in_ok-dying.ensures.dying in
    closed_dies c.closings_keep.ensures.images c.closings_keep.ensures.order c.args.state.now c.close_planned.new.self c.args.hart c.args.handle c.in_ok-dying.dying c.in_ok-functions.functions
    (c.in_ok-dying.ensures.ok ∙ ap (λ (ds : List ℕ). appended c.args.state.now (Close c.args.hart c.args.handle (closings.Done ds))) same)
    (subst (Closes (after c.args.state.now.events) c.args.handle) same c.requires.closes)
    (some_of c.in_ok-dying.dying.list c.is_empty.result c.is_empty.ensures c.if-is_empty.false)
    (subst (λ (ds : List ℕ). AreDestructors (after c.args.state.now.events) ds c.in_ok-functions.functions) (c.as_slice.ensures ∙ same) c.in_ok-functions.ensures)
