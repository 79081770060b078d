use Rattle.std.proofs.Common.{rules}
use Rattle.std.proofs.lemmas.List.Sorted.{IsNonDecreasingBy-from_sort_by_key}
use Rattle.history_graph.specs.Sources.{source_of}
use Rattle.history_graph.proofs.successors.Successors.new.Goals as goal

pub invariant_of-result : goal.invariant_of-result
invariant_of-result c = IsNonDecreasingBy-from_sort_by_key source_of _ c.in_ok-sort_by_key.ensures.sorted (λ a r q k. search rules)
