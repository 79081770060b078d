use Rattle.std.proofs.Common.{sym, subst}
use Rattle.word_rule.specs.KeeperSteps.{KeeperReady}
use Rattle.word_steps.proofs.Desks.{desk_long, desk_ready, desk_still}
use Rattle.word_steps.proofs.desk.Desk.add_word.Goals as goal

pub add_as-requires-clause-ready : goal.add_as-requires-clause-ready
add_as-requires-clause-ready g c = desk_ready c.args.kind _ c.self.invariant.1 (subst (KeeperReady c.args.kind) (sym c.self.view_is) c.requires.ready)

pub invariant_of-self : goal.invariant_of-self
invariant_of-self g c = (
  c.add_as.ensures.table,
  desk_still c.args.kind _ _ _ c.self.invariant.1 c.add_as.ensures.view,
  desk_long c.args.kind _ _ _ c.self.invariant.1 c.self.invariant.2 (subst (KeeperReady c.args.kind) (sym c.self.view_is) c.requires.ready) c.add_as.ensures.view,
)
