use Rattle.std.proofs.Common.{◌==◌, ap, ◌∙◌}
use Rattle.std.specs.List.{list_any}
use Rattle.history_graph.proofs.SerialSets.Found.{found}
use Rattle.history_graph.proofs.serial_sets.set.SerialSet.has.Goals as goal

pub returns-then-self : goal.returns-then-self
returns-then-self c =
    c.is_ok.ensures.value ∙ found c.self.inside.serials.now c.args.serial c.binary_search.result c.binary_search.ensures.position (c.self.invariant c.if-self.true) ∙ ap (list_any (λ y. y == c.args.serial)) c.self.view_is
