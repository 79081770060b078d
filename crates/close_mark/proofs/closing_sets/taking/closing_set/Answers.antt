use Rattle.std.proofs.Common.{List, map, sym, ap, subst, ◌∙◌}
use Rattle.close_mark.specs.ClosingGraph.Graphs.{all_edges, all_roots}
use Rattle.ld_base.specs.declared.linking.Loaded.{Loaded}
use Rattle.history_graph.specs.Reached.{Unneeded}
use Rattle.history_state.specs.Objects.{serial_of}
use Rattle.scope_rule.specs.declared.namespace.Namespace.{Namespace}
use Rattle.close_mark.proofs.ClosingSets.Moved.{moved}
use Rattle.close_mark.proofs.closing_sets.taking.closing_set.Goals as goal

pub returns : goal.returns
returns c = λ s are graph.
    let found : Unneeded (all_edges c.args.namespaces.now c.args.held.now) (all_roots c.args.namespaces.now c.args.handle c.args.fixed.now c.args.granted.now) (map serial_of c.args.namespace.now.objects) c.from-4.result =
    moved c.from-2.result (all_edges c.args.namespaces.now c.args.held.now) c.from-3.result (all_roots c.args.namespaces.now c.args.handle c.args.fixed.now c.args.granted.now) c.from.result
    (map serial_of c.args.namespace.now.objects) c.in_ok-set.set.items c.from-4.result (c.from-2.ensures ∙ c.in_ok-edges.ensures) (c.from-3.ensures ∙ c.in_ok-roots.ensures)
    (c.from.ensures ∙ c.in_ok-nodes.ensures ∙ ap (λ (os : List Loaded). map serial_of os) c.as_slice.ensures) (sym c.from-4.ensures) c.in_ok-set.ensures in
    c.closes_exactly.ensures s c.args.handle c.args.held.now c.args.fixed.now c.args.granted.now (map serial_of c.args.namespace.now.objects) c.from-4.result graph
    (subst (λ (nss : List Namespace). Unneeded (all_edges nss c.args.held.now) (all_roots nss c.args.handle c.args.fixed.now c.args.granted.now) (map serial_of c.args.namespace.now.objects) c.from-4.result) (sym are) found)
