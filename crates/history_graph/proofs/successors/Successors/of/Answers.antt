use Rattle.std.proofs.Common.{◌≡◌, ◌≤◌, ℕ, List, true, false, ltb, leb, length, take, drop, rules, of_calls, subst, sym, ap, ◌∙◌}
use Rattle.std.specs.List.{filter}
use Rattle.std.specs.List.Sorted.{IsPartitionPoint}
use Rattle.std.proofs.lemmas.Fn.{always_returns_same}
use Rattle.std.proofs.lemmas.List.Sorted.{IsPartitionedBy-ltb, IsPartitionedBy-leb, IsNonDecreasingBy-drop}
use Rattle.history_graph.specs.declared.graph.Edge.{Edge}
use Rattle.history_graph.specs.Reached.{leads_from}
use Rattle.history_graph.specs.Sources.{source_of, IsBySource}
use Rattle.history_graph.proofs.BySource.{between_is_filter}
use Rattle.history_graph.proofs.successors.Successors.of.Goals as goal

pub returns : goal.returns
returns c =
    let xs : List Edge = c.as_slice-edges.result.now in
    let rest : List Edge = c.split_at.result.1.now in
    let source : ℕ = c.args.source in
    let start : ℕ = c.partition_point-start.result in
    let end : ℕ = c.partition_point-end.result in
    let sorted : IsBySource xs = subst IsBySource (sym c.as_slice-edges.ensures.value) c.self.invariant in
    let back : rest ≡ drop start xs = c.split_at.ensures.back in
    let still : IsBySource rest = subst IsBySource (sym back) (IsNonDecreasingBy-drop source_of start xs sorted) in
    let first : IsPartitionPoint (λ e. ltb (source_of e) source ≡ true) (λ e. ltb (source_of e) source ≡ false) xs start =
    c.partition_point-start.ensures.partitioned (λ e. ltb (source_of e) source) (always_returns_same _ _ _ (λ a r f k. search (rules, of_calls)))
    (IsPartitionedBy-ltb source_of xs source sorted) in
    let second : IsPartitionPoint (λ e. leb (source_of e) source ≡ true) (λ e. leb (source_of e) source ≡ false) rest end =
    c.partition_point-end.ensures.partitioned (λ e. leb (source_of e) source) (always_returns_same _ _ _ (λ a r f k. search (rules, of_calls)))
    (IsPartitionedBy-leb source_of rest source still) in
    let low : start ≤ length xs = c.partition_point-start.ensures.bound in
    let high : end ≤ length rest = c.partition_point-end.ensures.bound in
    let there = between_is_filter source start end xs low (subst (λ (ys : List Edge). end ≤ length ys) back high) first
    (subst (λ (ys : List Edge). IsPartitionPoint (λ e. leb (source_of e) source ≡ true) (λ e. leb (source_of e) source ≡ false) ys end) back second) in
    c.split_at-2.ensures.front ∙ ap (take end) back ∙ there ∙ ap (filter (leads_from source)) (c.as_slice-edges.ensures.value ∙ c.self.view_is)
