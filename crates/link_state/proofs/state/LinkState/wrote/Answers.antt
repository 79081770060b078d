use Rattle.std.proofs.Common.{sym, subst}
use Rattle.history_event.specs.declared.event.Event.TheVariants.{Wrote}
use Rattle.history_state.specs.Allowed.{MayWrite}
use Rattle.link_holds.specs.Lemmas.Held.{follows}
use Rattle.link_state.proofs.state.LinkState.wrote.Goals as goal

pub push-requires-clause-may : goal.push-requires-clause-may
push-requires-clause-may c =
    follows c.make_room.new.self.harts c.make_room.new.self.events (Wrote c.args.hart c.in_ok-bytes.bytes) (subst MayWrite (sym c.in_ok-bytes.ensures) c.requires)
