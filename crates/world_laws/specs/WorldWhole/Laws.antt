-- A run is whole at its end.
use Rattle.std.specs.Prelude.{ℕ, List}
use Rattle.history_calls.specs.declared.link_served.startup.Setup.{Setup}
use Rattle.history_state.specs.Accepted.{AcceptsOnly}
use Rattle.history_state.specs.Legal.{Whole}
use Rattle.history_state.specs.Setting.{Setting}
use Rattle.world_turns.specs.declared.schedules.schedule.TurnItem.{TurnItem}
use Rattle.world_turns.specs.Run.{Run}
use Rattle.world_turns.specs.Sound.{Sound}
use Rattle.world_turns.specs.Turn.{Turn}
use Rattle.world_turns.specs.World.{World}
use Rattle.world_laws.specs.WorldWhole.Saw.{SeesSlots}

-- what a grant that is lost saw stays in its slot, turn by turn
abbrev pub TurnsKeepSeen : Type 0
TurnsKeepSeen = (w : Setting) (h : ℕ) (old new : World) → AcceptsOnly w.machine → Sound w old → Turn w h old new
    → SeesSlots old → SeesSlots new

-- at the end of a run the journal is whole: no grant is open, each lost one of a mapped object saw what its slot holds, and where each hart ended once, by exit,
-- what was initialised was finalised
abbrev pub RunsAreWhole : Type 0
RunsAreWhole = (w : Setting) (setup : Setup) (items : List TurnItem) (world : World) → AcceptsOnly w.machine
    → Run w setup items world → Whole w world.journal
