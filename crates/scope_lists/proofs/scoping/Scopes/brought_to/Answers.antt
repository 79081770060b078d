use Rattle.std.proofs.Common.{◌≡◌, ap, true, ◌∙◌}
use Rattle.scope_rule.specs.Breadth.{has}
use Rattle.scope_rule.specs.Seen.{seen}
use Rattle.scope_lists.specs.Asking.{Asking}
use Rattle.scope_lists.specs.Brought.{brought_in, brought_of}
use Rattle.scope_lists.proofs.Stands.{brought_found}
use Rattle.scope_lists.proofs.scoping.Scopes.brought_to.Goals as goal

pub returns : goal.returns
returns c =
    let own : has c.self.inside.owners.serials.keys c.args.serial ≡ true = ap (λ (x : Asking). has x.owners c.args.serial) c.self.view_is ∙ c.requires in
    rw (← c.self.view_is) (brought_found c.to.result (brought_of c.self.inside.brought c.args.serial) (brought_in (seen c.self.inside.view) c.args.serial) (c.self.invariant.1 c.args.serial own) c.to.ensures)
