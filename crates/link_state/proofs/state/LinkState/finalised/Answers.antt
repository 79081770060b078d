use Rattle.history_state.specs.After.{after}
use Rattle.history_state.specs.Step.{finalise}
use Rattle.link_state.specs.Inside.{lists_of}
use Rattle.link_holds.specs.Lemmas.Advance.{all_finalised}
use Rattle.link_holds.specs.Lemmas.Held.{holds_after}
use Rattle.link_state.proofs.state.LinkState.finalised.Goals as goal

pub invariant_of-self : goal.invariant_of-self
invariant_of-self c =
    holds_after (finalise c.args.serial (after c.self.inside.journal.events)) (after c.push_owed.new.self.events)
    (record (lists_of c.self.inside) { unfinished = c.remove.new.self }) c.push_owed.ensures.state
    (all_finalised (after c.self.inside.journal.events) c.args.serial (lists_of c.self.inside) c.remove.new.self c.self.invariant c.remove.ensures.serials c.remove.ensures.room)
