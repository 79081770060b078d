-- What the files, the setup and the schedule settle of a run.
use Rattle.std.specs.Prelude.{◌≡◌, Some, List}
use Rattle.ld_base.specs.declared.linking.File.{File}
use Rattle.history_calls.specs.declared.link_served.startup.Setup.{Setup}
use Rattle.history_state.specs.Accepted.{AcceptsOnly}
use Rattle.history_state.specs.Setting.{Setting}
use Rattle.world_turns.specs.declared.schedules.schedule.TurnItem.{TurnItem}
use Rattle.world_laws.specs.TurnOnce.Laws.{NothingFails}
use Rattle.world_turns.specs.Run.{Run}
use Rattle.world_turns.specs.World.{World}

-- where the library tells its files, a run by a schedule comes to one world, failed reads and want of memory apart
abbrev pub OneRun : Type 0
OneRun = (w : Setting) (setup : Setup) (items : List TurnItem) (files : List File) (world other : World) → w.files ≡ Some files → AcceptsOnly w.machine
    → Run w setup items world → Run w setup items other → NothingFails world.journal → NothingFails other.journal → world ≡ other
