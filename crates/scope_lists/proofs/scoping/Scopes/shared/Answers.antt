use Rattle.std.proofs.Common.{List, ℕ, ap, subst, sym, ◌∙◌}
use Rattle.std.specs.Prelude.{◌||◌, not}
use Rattle.std.specs.List.{list_any}
use Rattle.scope_rule.specs.Loading.{is_dying}
use Rattle.scope_rule.specs.Seen.{seen}
use Rattle.scope_lists.specs.Asking.{Asking}
use Rattle.scope_lists.specs.Kept.{IsOwn}
use Rattle.scope_lists.proofs.scoping.Scopes.shared.Goals as goal

pub beside_global-requires-clause-places : goal.beside_global-requires-clause-places
beside_global-requires-clause-places c = c.self.invariant.0.places

pub beside_global-requires-clause-own : goal.beside_global-requires-clause-own
beside_global-requires-clause-own c =
    subst (λ (l : List ℕ). IsOwn (seen c.self.inside.view) c.args.owner.now l) (sym c.as_slice.ensures) (subst (λ (x : Asking). IsOwn x.seen c.args.owner.now c.in_ok-own.own) (sym c.self.view_is) c.in_ok-own.ensures)

pub beside_global-requires-clause-sees : goal.beside_global-requires-clause-sees
beside_global-requires-clause-sees c = ap (λ (x : Asking). is_dying c.args.owner.now || not (list_any is_dying x.seen.objects)) c.self.view_is ∙ c.requires.sees

pub returns : goal.returns
returns c = rw (← c.self.view_is) c.beside_global.ensures
