use Rattle.std.proofs.Common.{◌≡◌, take}
use Rattle.history_state.specs.After.{after}
use Rattle.history_calls.specs.Startup.{entries_from}
use Rattle.link_startup.proofs.start_parts.entries.entries_of.Given as goal

-- those of the harts so far
abbrev pub invariant-loop-index : goal.invariant-loop-index
invariant-loop-index l = l.entries ≡ entries_from (after l.state.events) 0 (take l.index l.starts)
