use Rattle.std.proofs.Common.{subst}
use Rattle.std.specs.List.Sorted.{IsNonDecreasing}
use Rattle.std.proofs.lemmas.Bool.{MatchBool-at_true}
use Rattle.std.proofs.lemmas.List.Sorted.{non_decreasing_from_is_sorted}
use Rattle.scope_rule.proofs.places.Places.of.Goals as goal

pub invariant_of-result : goal.invariant_of-result
invariant_of-result c ascends =
    subst IsNonDecreasing c.as_slice.ensures.value
    (MatchBool-at_true _ _ ascends (non_decreasing_from_is_sorted c.as_slice.result.now c.is_sorted-ascends.result c.is_sorted-ascends.ensures.cases))
