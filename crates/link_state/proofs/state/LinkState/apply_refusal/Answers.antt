use Rattle.std.proofs.Common.{◌≡◌, List, ap, ◌∙◌}
use Rattle.history_event.specs.declared.event.Event.{Event}
use Rattle.history_state.specs.After.{after}
use Rattle.history_state.specs.Step.{keep, step}
use Rattle.link_state.specs.Inside.{lists_of}
use Rattle.link_holds.specs.Lemmas.Held.{holds_after, holds_keep, refused_step}
use Rattle.link_state.proofs.state.LinkState.apply_refusal.Goals as goal

pub invariant_of-self : goal.invariant_of-self
invariant_of-self c =
    let state : after c.push.new.self.events ≡ keep c.args.hart c.args.fault (after c.self.inside.journal.events) =
    c.push.ensures.state ∙ ap (step (after c.room_for_refusal.new.journal.events)) c.refusal_event.ensures ∙ refused_step (after c.room_for_refusal.new.journal.events) c.args.hart c.args.ask c.args.fault
    ∙ ap (λ (es : List Event). keep c.args.hart c.args.fault (after es)) c.room_for_refusal.ensures.events in
    holds_after (keep c.args.hart c.args.fault (after c.self.inside.journal.events)) (after c.push.new.self.events)
    (record (lists_of c.self.inside) { kept = c.keep.new.self }) state
    (holds_keep (after c.self.inside.journal.events) c.args.hart (lists_of c.self.inside) c.room_for_refusal.new.kept.kept c.keep.new.self c.args.fault c.in-Ok.copy
    c.self.invariant c.room_for_refusal.ensures.kept c.in-Ok.ensures.copy c.keep.ensures)
