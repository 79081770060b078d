use Rattle.std.proofs.Common.{sym, ◌∙◌}
use Rattle.scope_lists.proofs.Parts.{any_global}
use Rattle.scope_lists.proofs.scoping.Scopes.scope.Goals as goal

pub shared-requires-clause-sees : goal.shared-requires-clause-sees
shared-requires-clause-sees c = sym c.sees_all.ensures ∙ c.if-sees_all.true

pub returns-else-sees_all : goal.returns-else-sees_all
returns-else-sees_all c = any_global c.args.self.now.seen c.args.owner.now c.alone.result c.alone.ensures
