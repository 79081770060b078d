use Rattle.std.proofs.Common.{◌≡◌, take}
use Rattle.world_threads.proofs.setting_up.count_all.Given as goal

-- the events so far are counted
abbrev pub invariant-loop-event : goal.invariant-loop-event
invariant-loop-event g l = l.keeper ≡ record l.fn.keeper { events = take l.event-index l.events }
