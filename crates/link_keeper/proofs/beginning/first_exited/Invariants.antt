use Rattle.std.proofs.Common.{◌≡◌, ◌+◌, true, length, take}
use Rattle.std.specs.List.{list_all}
use Rattle.history_state.specs.Setting.{exited}
use Rattle.link_keeper.specs.Beginning.{ends_in}
use Rattle.link_keeper.proofs.beginning.first_exited.Given as goal

-- all ends so far are exits, and so many more are wanted
abbrev pub invariant-loop-event : goal.invariant-loop-event
invariant-loop-event l = record {
  count : l.left + length (ends_in (take l.event-index l.events)) ≡ l.fn.harts;
  exits : list_all exited (ends_in (take l.event-index l.events)) ≡ true;
}
