use Rattle.std.proofs.Common.{ap, sym, ◌∙◌}
use Rattle.scope_rule.specs.Scope.{scope}
use Rattle.scope_lists.specs.Asking.{Asking}
use Rattle.scope_lists.proofs.scoping.Scopes.alone.Goals as goal

pub unshared-requires-clause-places : goal.unshared-requires-clause-places
unshared-requires-clause-places c = c.self.invariant.0.places

pub unshared-requires-clause-list : goal.unshared-requires-clause-list
unshared-requires-clause-list c = c.as_slice.ensures ∙ c.in_ok-list.ensures ∙ ap (λ (x : Asking). scope x.seen c.args.owner.now) (sym c.self.view_is)

pub returns : goal.returns
returns c = rw (← c.self.view_is) c.unshared.ensures
