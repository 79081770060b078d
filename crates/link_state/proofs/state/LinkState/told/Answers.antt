use Rattle.std.proofs.Common.{◌≡◌, List, sym, ap, ◌∙◌}
use Rattle.history_event.specs.declared.event.Event.{Event}
use Rattle.history_event.specs.declared.event.Event.TheVariants.{Told}
use Rattle.history_journal.specs.LinkHarts.Kept.{fault_of}
use Rattle.history_state.specs.After.{after}
use Rattle.history_state.specs.Allowed.{kept_for}
use Rattle.link_holds.specs.Lemmas.Held.{follows}
use Rattle.link_state.proofs.state.LinkState.told.Goals as goal

pub push-requires-clause-may : goal.push-requires-clause-may
push-requires-clause-may c =
    let is : c.in_ok-fault.fault ≡ kept_for (after c.make_room.new.self.events) c.args.hart =
    c.in_ok-fault.ensures ∙ ap (fault_of c.args.hart) c.self.invariant.faults ∙ sym (ap (λ (es : List Event). kept_for (after es) c.args.hart) c.make_room.ensures.events) in
    follows c.make_room.new.self.harts c.make_room.new.self.events (Told c.args.hart c.in_ok-fault.fault) is
