use Rattle.std.proofs.Common.{◌≡◌, Some, None, sym, ap, ◌∙◌}
use Rattle.std.specs.Option.{option_copied}
use Rattle.history_state.specs.After.{after}
use Rattle.history_state.specs.Areas.{free_pages}
use Rattle.history_state.specs.State.{State, empty_namespace, empty_state}
use Rattle.link_startup.proofs.First.{base_is, nothing_yet, statics_are}
use Rattle.link_startup.proofs.starting.plan_startup.Goals as goal

pub unreachable-requires : goal.unreachable-requires
unreachable-requires g c =
    let some = base_is c.args.state.now.events (option_copied c.namespace.result) c.requires.first c.namespace.ensures in
    let none : Some (empty_namespace 0) ≡ None = sym some ∙ ap option_copied c.in_default.is in
    cc

pub plan_program-requires-clause-first : goal.plan_program-requires-clause-first
plan_program-requires-clause-first g c =
    let at : after c.args.state.now.events ≡ empty_state = nothing_yet c.args.state.now.events c.requires.first in
    let some : Some c.in-Some.namespace.now ≡ Some (empty_namespace 0) =
    sym (ap option_copied c.in-Some.is) ∙ base_is c.args.state.now.events (option_copied c.namespace.result) c.requires.first c.namespace.ensures in
    record {
      namespace = cc;
      next = c.next_serial.ensures ∙ ap (λ (s : State). s.next) at;
      free = c.regions.ensures ∙ ap (λ (s : State). free_pages s.ranges) at;
      modules = c.modules.ensures.modules ∙ ap (λ (s : State). s.modules) at;
      statics = statics_are c.modules.result.now (after c.args.state.now.events).statics c.modules.ensures.size c.modules.ensures.tp ∙ ap (λ (s : State). s.statics) at;
      binds = c.binds_now.ensures ∙ ap (λ (s : State). s.now) at;
    }
