use Rattle.std.proofs.Common.{◌≡◌, take}
use Rattle.history_calls.specs.Served.{InstallsNothing}
use Rattle.link_startup.specs.StartParts.Harts.{FoundAll}
use Rattle.link_startup.proofs.start_parts.harts.find_harts.Given as goal

-- those of the names so far are found, and nothing is made
abbrev pub invariant-loop-index : goal.invariant-loop-index
invariant-loop-index l =
    FoundAll l.fn.state.events (take l.index l.setup.harts) l.starts l.state.events × (l.state.harts ≡ l.fn.state.harts)
    × (InstallsNothing l.fn.state.made → InstallsNothing l.state.made)
