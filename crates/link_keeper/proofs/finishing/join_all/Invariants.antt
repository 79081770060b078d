use Rattle.std.proofs.Common.{◌≡◌}
use Rattle.std.specs.List.{All}
use Rattle.link_keeper.specs.Joining.{IsFront, joins}
use Rattle.link_keeper.proofs.finishing.join_all.Given as goal

-- the seats so far are joined
abbrev pub invariant-loop-seat : goal.invariant-loop-seat
invariant-loop-seat g l = record {
  joined : l.keeper ≡ joins l.yielded l.fn.keeper;
  fronts : All (IsFront l.fn.keeper.events) l.yielded;
}
