use Rattle.std.proofs.Common.{◌≡◌, drop}
use Rattle.std.specs.List.{find}
use Rattle.history_event.specs.declared.event.Range.{Range}
use Rattle.history_calls.specs.Startup.{is_stack}
use Rattle.link_startup.proofs.start_parts.entries.stack_of.Given as goal

-- the search of the rest is the search of the whole
abbrev pub invariant-loop-range : goal.invariant-loop-range
invariant-loop-range l =
    find (λ (r : Range). is_stack l.hart r.purpose) (drop l.range-index l.ranges) ≡ find (λ (r : Range). is_stack l.hart r.purpose) l.ranges
