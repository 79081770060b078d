use Rattle.std.proofs.Common.{List, ℕ, ap, sym, ◌∙◌}
use Rattle.scope_rule.specs.Breadth.{extend}
use Rattle.scope_rule.specs.Seen.{seen}
use Rattle.scope_lists.proofs.Covers.{covers, covers_none}
use Rattle.scope_lists.proofs.covering.Covering.of.Goals as goal

pub returns-then-has_whatever : goal.returns-then-has_whatever
returns-then-has_whatever c =
    covers (seen c.args.view.now) c.args.links.now c.extend.new.order.keys c.requires
    (c.in_ok-extend.ensures ∙ ap (λ (l : List ℕ). extend l c.args.view.now.global.now) c.new-serials.ensures.empty) (sym c.has_whatever.ensures ∙ c.if-has_whatever.true)

pub returns-else-has_whatever : goal.returns-else-has_whatever
returns-else-has_whatever c = covers_none (seen c.args.view.now) c.none.result.serials.keys c.none.ensures
