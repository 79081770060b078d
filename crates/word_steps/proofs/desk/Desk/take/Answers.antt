use Rattle.std.proofs.Common.{sym, subst}
use Rattle.word_rule.specs.declared.view.KeeperView.{KeeperView}
use Rattle.word_rule.specs.declared.view.View.TheVariants.{Keeper}
use Rattle.word_rule.specs.Joining.{MayTake}
use Rattle.word_steps.proofs.Desks.{desk_may}
use Rattle.word_steps.proofs.desk.Desk.take.Goals as goal

pub join_seat-requires-clause-may : goal.join_seat-requires-clause-may
join_seat-requires-clause-may g c = desk_may _ _ c.self.invariant.1 (subst (λ (k : KeeperView). MayTake (Keeper k) c.args.other.me.0) (sym c.self.view_is) c.requires.may)
