use Rattle.std.proofs.Common.{sym, subst, ◌<◌}
use Rattle.word_rule.specs.declared.view.KeeperView.{KeeperView}
use Rattle.word_steps.proofs.Desks.{desk_room}
use Rattle.word_steps.proofs.desk.Desk.split_hart.Goals as goal

pub split_hart-requires-clause-room : goal.split_hart-requires-clause-room
split_hart-requires-clause-room g c = desk_room _ c.self.invariant.1 (subst (λ (k : KeeperView). k.harts < 16) (sym c.self.view_is) c.requires)
