use Rattle.std.proofs.Common.{List, length, subst, ◌∙◌}
use Rattle.std.specs.List.Sorted.{IsPermutation}
use Rattle.history_graph.specs.declared.graph.Edge.{Edge}
use Rattle.init_order.proofs.Whole.{are_components}
use Rattle.init_order.proofs.components.components_of.Goals as goal

pub returns-clause-components : goal.returns-clause-components
returns-clause-components c =
    let w = c.in_ok-marks.field-0 in
    let edges : List Edge = c.args.graph.now.edges in
    let successors : List Edge = c.in_ok-successors.successors in
    let same : IsPermutation edges successors = subst (λ (es : List Edge). IsPermutation es successors) c.as_slice.ensures c.in_ok-successors.ensures in
    are_components edges successors c.args.roots.now w.starts.items w.visited.items w.pending.items (length w.components.items) w.path.items (record { marks = w.marks; count = c.len-count.result })
    (c.len-count.ensures ∙ w.components.ok.0) same c.in_ok-marks.ensures.free c.in_ok-marks.ensures.roots c.in_ok-marks.ensures.walked
