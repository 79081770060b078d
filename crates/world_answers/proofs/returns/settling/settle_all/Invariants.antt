use Rattle.std.proofs.Common.{◌≡◌, ◌++◌, map, take, drop}
use Rattle.world_turns.specs.World.{settling}
use Rattle.world_answers.specs.ReturnsPart.Settling.{freed_in, harts_in}
use Rattle.world_answers.proofs.returns.settling.settle_all.Given as goal

-- those in front are settled
abbrev pub invariant-loop-hart : goal.invariant-loop-hart
invariant-loop-hart l = record {
  harts : l.harts ≡ map freed_in (take l.hart-index l.fn.harts) ++ drop l.hart-index l.fn.harts;
  journal : l.state ≡ record l.fn.state { events = l.fn.state.events ++ settling (harts_in (take l.hart-index l.fn.harts)) };
}
