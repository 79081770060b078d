use Rattle.std.proofs.Common.{sym, ◌∙◌}
use Rattle.scope_lists.proofs.Stands.{sees_all}
use Rattle.scope_lists.proofs.scoping.Scopes.visible.Goals as goal

pub returns-then-sees_all : goal.returns-then-sees_all
returns-then-sees_all c = sees_all c.args.self.now.seen c.args.owner.now c.args.whole (sym c.sees_all.ensures ∙ c.if-sees_all.true)
