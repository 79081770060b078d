-- Whose events the journal of a run has.
use Rattle.std.specs.Prelude.{List}
use Rattle.history_calls.specs.RunJournal.{IsRunJournal}
use Rattle.history_calls.specs.declared.link_served.startup.Setup.{Setup}
use Rattle.history_state.specs.Setting.{Setting}
use Rattle.world_turns.specs.Run.{Run}
use Rattle.world_turns.specs.World.{World}
use Rattle.world_turns.specs.declared.schedules.schedule.TurnItem.{TurnItem}

-- startup's events, and then those of harts that there are and that run; a count of ends by exit is one of each hart
abbrev pub RunsHaveJournals : Type 0
RunsHaveJournals = (w : Setting) (setup : Setup) (items : List TurnItem) (world : World) → Run w setup items world → IsRunJournal w setup world.journal
