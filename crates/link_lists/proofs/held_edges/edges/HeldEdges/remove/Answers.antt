use Rattle.std.proofs.Common.{◌≡◌, Bool, not, rules, ap, ◌∙◌}
use Rattle.std.specs.List.{filter}
use Rattle.std.proofs.lemmas.Fn.{filter_same}
use Rattle.history_graph.specs.Initialised.{is_one_of}
use Rattle.history_graph.specs.declared.graph.Edge.{Edge}
use Rattle.link_lists.specs.HeldEdgesPart.Roomy.{EdgesWithRoom}
use Rattle.link_lists.proofs.held_edges.edges.HeldEdges.remove.Goals as goal

pub returns-clause-edges : goal.returns-clause-edges
returns-clause-edges c =
    let other : Edge → Bool = λ e. not (is_one_of c.args.set.now e.source) in
    let others : c.retain.new.self.items ≡ filter other c.self.inside.edges.items =
    filter_same _ other _ (λ x b f' k. search rules) _ _ c.retain.ensures.filtered in
    others ∙ ap (λ (v : EdgesWithRoom). filter other v.edges) c.self.view_is
