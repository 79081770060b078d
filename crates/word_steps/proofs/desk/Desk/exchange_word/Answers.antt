use Rattle.std.proofs.Common.{sym, subst}
use Rattle.word_rule.specs.KeeperSteps.{KeeperReady}
use Rattle.word_steps.proofs.Desks.{desk_ready}
use Rattle.word_steps.proofs.desk.Desk.exchange_word.Goals as goal

pub exchange_as-requires-clause-ready : goal.exchange_as-requires-clause-ready
exchange_as-requires-clause-ready g c = desk_ready c.args.kind _ c.self.invariant.1 (subst (KeeperReady c.args.kind) (sym c.self.view_is) c.requires.ready)
