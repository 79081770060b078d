use Rattle.std.proofs.lemmas.Bool.{MatchBool-at_true}
use Rattle.std.proofs.lemmas.List.Sorted.{non_decreasing_from_is_sorted}
use Rattle.history_graph.proofs.serial_sets.set.SerialSet.new.Goals as goal

pub invariant_of-result : goal.invariant_of-result
invariant_of-result c ascends =
    MatchBool-at_true _ _ ascends (non_decreasing_from_is_sorted c.args.serials.now c.is_sorted.result c.is_sorted.ensures.cases)
