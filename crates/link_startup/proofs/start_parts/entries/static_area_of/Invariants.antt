use Rattle.std.proofs.Common.{◌≡◌, drop}
use Rattle.std.specs.List.{find}
use Rattle.history_event.specs.declared.event.Range.{Range}
use Rattle.history_state.specs.Storage.{is_static_area}
use Rattle.link_startup.proofs.start_parts.entries.static_area_of.Given as goal

-- the search of the rest is the search of the whole
abbrev pub invariant-loop-range : goal.invariant-loop-range
invariant-loop-range l =
    find (λ (r : Range). is_static_area l.hart r.purpose) (drop l.range-index l.ranges) ≡ find (λ (r : Range). is_static_area l.hart r.purpose) l.ranges
