use Rattle.std.proofs.Common.{ap, inr, sym, ◌∙◌}
use Rattle.scope_rule.specs.Seen.{seen}
use Rattle.scope_lists.specs.Asking.{Asking}
use Rattle.scope_lists.specs.Brought.{brought_in}
use Rattle.scope_lists.proofs.Parts.{whole_own}
use Rattle.scope_lists.proofs.scoping.Scopes.own.Goals as goal

pub returns-then-has : goal.returns-then-has
returns-then-has c = rw (← c.self.view_is) (inr (c.new.ensures, c.if-not-owner.true, c.self.invariant.2 c.args.owner.now.serial (sym c.has.ensures ∙ c.if-has.true)))

pub returns : goal.returns
returns c =
    rw (← c.self.view_is)
    (whole_own (seen c.self.inside.view) c.args.owner.now c.with_libraries.result c.in_ok-brought.brought c.as_slice.result.now (c.in_ok-brought.ensures ∙ ap (λ (x : Asking). brought_in x.seen c.args.owner.now.serial) (sym c.self.view_is))
    (c.as_slice.ensures.keys ∙ c.in_ok-libraries.ensures) c.with_libraries.ensures)
