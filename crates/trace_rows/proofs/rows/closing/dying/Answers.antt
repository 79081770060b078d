use Rattle.std.proofs.Common.{◌≡◌, ◌++◌, List, map, sym, ap, ◌∙◌}
use Rattle.std.specs.List.{filter}
use Rattle.close_mark.specs.ClosingLaws.Given.{IsGraphOf}
use Rattle.history_event.specs.declared.event.Event.{Event}
use Rattle.history_event.specs.declared.state.Granting.{Granting}
use Rattle.history_journal.specs.Following.{machine_of}
use Rattle.history_state.specs.After.{after}
use Rattle.history_state.specs.Grants.{is_open}
use Rattle.history_state.specs.Links.{IsUnneeded}
use Rattle.history_state.specs.Objects.{serial_of}
use Rattle.history_state.specs.State.{State}
use Rattle.history_state.specs.Step.{lower}
use Rattle.trace_replay.specs.Shown.{Shows}
use Rattle.trace_rows.proofs.Closed.{graph_is, if_ok}
use Rattle.trace_rows.proofs.rows.closing.dying.Goals as goal

pub returns : goal.returns
returns c =
    if_ok c.closing_set.result
    (λ set. (s : State) → s.namespaces ≡ c.namespaces.result.now → IsGraphOf s c.as_slice-2.result.now c.as_slice.result.now c.open.result.now
    → IsUnneeded (lower c.args.handle s) (map serial_of c.args.namespace.now.objects) set)
    (λ set. (past : List Event) → Shows past c.args.replay.now → IsUnneeded (lower c.args.handle (after past)) (map serial_of c.args.namespace.now.objects) set)
    (λ set exactly past x.
    exactly (after past) (sym (c.namespaces.ensures ∙ x.state.namespaces))
    (graph_is (after past) c.args.replay.now c.as_slice-2.result.now c.as_slice.result.now c.open.result.now x.state (c.serials_are_in_order.ensures.order (machine_of c.args.replay.now.harts) past x.lawful)
    (c.as_slice-2.ensures.value ∙ c.in_ok-held.ensures (after past) x.state)
    (c.as_slice.ensures.value ∙ c.in_ok-extend_from_slice.ensures.items ∙ ap (λ ds. ds ++ c.pinned.result.now) (c.in_ok-fixed.ensures.items ∙ c.startup.ensures) ∙ ap (λ ds. c.args.replay.now.startup ++ ds) c.pinned.ensures)
    (c.open.ensures ∙ ap (λ (gs : List Granting). filter is_open gs) c.grants.ensures)))
    c.closing_set.ensures
