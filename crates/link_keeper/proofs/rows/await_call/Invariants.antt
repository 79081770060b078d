use Rattle.std.proofs.Common.{◌≡◌}
use Rattle.link_keeper.proofs.rows.await_call.Given as goal

-- the hart wasn't found calling yet, so the view is as it was
abbrev pub invariant-loop : goal.invariant-loop
invariant-loop g l =
    (goal.iterator-loop g).can_next l.iterator' × (goal.iterator-loop g).is_finite l.iterator' × (l.keeper ≡ l.fn.keeper)
