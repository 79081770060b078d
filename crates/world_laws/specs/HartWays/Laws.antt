-- Each hart of a run follows to its end.
use Rattle.std.specs.Prelude.{◌≡◌, List, map, Some}
use Rattle.history_event.specs.declared.hart_end.HartEnd.{HartEnd}
use Rattle.history_calls.specs.declared.link_served.startup.Setup.{Setup}
use Rattle.history_state.specs.Setting.{Setting}
use Rattle.hart_moves.specs.Follows.{HartsFollow}
use Rattle.world_turns.specs.declared.schedules.schedule.TurnItem.{TurnItem}
use Rattle.world_turns.specs.Run.{Run}
use Rattle.world_turns.specs.World.{World}

-- whatever the schedule: over the journal of a run that has ended, and the ends of its harts
abbrev pub RunsFollow : Type 0
RunsFollow = (w : Setting) (setup : Setup) (items : List TurnItem) (world : World) (ends : List HartEnd) → Run w setup items world
    → map (λ b. b.«end») world.harts ≡ map Some ends → HartsFollow w setup world.journal ends
