use Rattle.std.proofs.Common.{◌≡◌}
use Rattle.word_rule.specs.HartSteps.{with_lane_of}
use Rattle.link_keeper.proofs.rows.await_entry.Given as goal

-- the row wasn't the hart's yet: nothing is known but the state found last
abbrev pub invariant-loop : goal.invariant-loop
invariant-loop g l =
    (goal.iterator-loop g).can_next l.iterator' × (goal.iterator-loop g).is_finite l.iterator'
    × (l.seat ≡ with_lane_of (record l.fn.seat.lane { found = l.seat.lane.found }) l.fn.seat)
