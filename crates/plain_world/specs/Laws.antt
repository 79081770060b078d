-- What a run comes to.
use Rattle.std.specs.Prelude.{false, List, ◌++◌}
use Rattle.history_event.specs.declared.handed.HartEntry.{HartEntry}
use Rattle.history_state.specs.Setting.{Setting}
use Rattle.history_calls.specs.declared.link_served.startup.Setup.{Setup}
use Rattle.hart_moves.specs.Starting.{starting_registers}
use Rattle.world_turns.specs.declared.schedules.schedule.TurnItem.{TurnItem}
use Rattle.plain_world.specs.Started.{StartsAt}
use Rattle.world_turns.specs.Run.{Run}
use Rattle.world_turns.specs.World.{World}
use Rattle.plain_world.specs.Playing.{Plays, TakesByHand}

-- a run that starts, and is played by a schedule from there on, is a run by that schedule
abbrev pub PlayedIsRun : Type 0
PlayedIsRun = (w : Setting) (setup : Setup) (entry : HartEntry) (items : List TurnItem) (started world : World) → StartsAt w setup started entry
    → Plays w false (starting_registers entry) items started world → Run w setup items world

-- so it is where turns were taken by hand before: those behind startup's constructors come first in its schedule
abbrev pub HandedIsRun : Type 0
HandedIsRun = (w : Setting) (setup : Setup) (entry : HartEntry) (taken items : List TurnItem) (started between world : World) → StartsAt w setup started entry
    → TakesByHand w taken started between → Plays w false (starting_registers entry) items between world → Run w setup (taken ++ items) world
