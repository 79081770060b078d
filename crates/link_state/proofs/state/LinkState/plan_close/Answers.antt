use Rattle.std.proofs.Common.{◌≡◌, Some, sym, ap, subst, ◌∙◌}
use Rattle.std.specs.Prelude.{map}
use Rattle.std.specs.List.{find}
use Rattle.close_mark.specs.ClosingGraph.Graphs.{has_closable}
use Rattle.close_mark.specs.ClosingLaws.Given.{IsGraphOf}
use Rattle.history_journal.specs.Following.{machine_of}
use Rattle.history_state.specs.After.{after}
use Rattle.history_state.specs.Allowed.{IsOpened}
use Rattle.history_state.specs.Laws.{SerialsAreInOrder}
use Rattle.history_state.specs.Links.{IsUnneeded}
use Rattle.history_state.specs.Objects.{serial_of}
use Rattle.history_state.specs.Step.{lower}
use Rattle.link_state.specs.Closing.{IsPlanOf}
use Rattle.link_state.specs.Inside.{lists_of}
use Rattle.link_state.specs.Table.{LinkTable}
use Rattle.link_state.proofs.Closed.{plan_of}
use Rattle.link_holds.specs.Lemmas.Closed.{graph_of}
use Rattle.link_state.proofs.state.LinkState.plan_close.Goals as goal

pub returns-clause-ok : goal.returns-clause-ok
returns-clause-ok c =
    let are : c.as_slice-namespaces.result.now ≡ (after c.self.inside.journal.events).namespaces = c.as_slice-namespaces.ensures.value ∙ c.self.invariant.running.spaces in
    let found : find (has_closable c.args.handle) (after c.self.inside.journal.events).namespaces ≡ Some c.in-Some.namespace.now =
    sym (c.in-Some.ensures ∙ ap (find (has_closable c.args.handle)) are) in
    let opened : IsOpened (after c.self.inside.journal.events) c.args.handle c.in-Some.namespace.now =
    c.first_is_opened.ensures.opened (after c.self.inside.journal.events) c.args.handle c.in-Some.namespace.now found in
    let order : SerialsAreInOrder (after c.self.inside.journal.events) =
    c.serials_are_in_order.ensures.order (machine_of c.self.inside.journal.harts) c.self.inside.journal.events c.journal.ensures.lawful in
    let graph : IsGraphOf (after c.self.inside.journal.events) c.as_slice-2.result.now c.as_slice.result.now c.as_slice-3.result.now =
    graph_of (after c.self.inside.journal.events) (lists_of c.self.inside) c.as_slice-2.result.now c.as_slice.result.now c.as_slice-3.result.now c.self.invariant order
    c.as_slice-2.ensures (c.as_slice.ensures.value ∙ c.in_ok-fixed.ensures) c.as_slice-3.ensures in
    let exactly : IsUnneeded (lower c.args.handle (after c.self.inside.journal.events)) (map serial_of c.in-Some.namespace.now.objects) c.in_ok-set.set =
    subst (λ h. IsUnneeded (lower h (after c.self.inside.journal.events)) (map serial_of c.in-Some.namespace.now.objects) c.in_ok-set.set) c.new.ensures
    (c.in_ok-set.ensures (after c.self.inside.journal.events) (sym are) graph) in
    subst (λ (v : LinkTable). IsPlanOf (after v.events) c.args.hart c.args.handle c.in_ok-plan.plan) c.self.view_is
    (plan_of (after c.self.inside.journal.events) c.args.hart c.args.handle (lists_of c.self.inside) c.as_slice-namespaces.result.now c.in-Some.namespace.now c.in_ok-set.set
    c.in_ok-plan.plan c.self.invariant are opened exactly c.in_ok-plan.ensures.list c.in_ok-plan.ensures.dying c.in_ok-plan.ensures.waits c.in_ok-plan.ensures.roomy)
