use Rattle.std.proofs.Common.{◌≡◌, length, ◌++◌, List}
use Rattle.history_event.specs.declared.event.Event.{Event}
use Rattle.link_keeper.specs.Passing.{HasPassed, IsPassing, left_of}
use Rattle.link_keeper.proofs.passing.pass_rest.Given as goal

abbrev pub invariant-loop-index : goal.invariant-loop-index
invariant-loop-index g l = record {
  place : l.index ≡ length l.keeper.events;
  passing : IsPassing g.J.RunNaming.setting g.J.RunNaming.journal l.state l.keeper l.seat l.id;
  own : List Event;
  before : left_of l.state l.fn.keeper ≡ own ++ left_of l.state l.keeper;
  passed : HasPassed own l.fn.keeper l.keeper l.fn.seat l.seat;
}
