-- How a run ends, and what it leaves: on one thread, but for what runs on threads share with it.
use Rattle.std.specs.Prelude.{◌≡◌, ◌⊎◌, ℕ, List, [], Option, Result, Ok, Err}
use Rattle.ld_base.specs.declared.fault.DlFault.{DlFault}
use Rattle.ld_base.specs.declared.fault.DlFault.TheVariants as dl
use Rattle.ld_base.specs.declared.linking.File.{File}
use Rattle.library_source.specs.Count.{Rises}
use Rattle.history_calls.specs.CallLaws.Counts.{AreMissed, ArePathsAtStart}
use Rattle.history_event.specs.declared.event.Event.{Event}
use Rattle.history_calls.specs.declared.link_served.startup.Setup.{Setup}
use Rattle.history_calls.specs.Startup.{FailsToStart}
use Rattle.link_open_plan.specs.Startup.{run_of}
use Rattle.plain_world.specs.Ends.{AreEndsOf}
use Rattle.trace_text.specs.RunTexts.Ends.{IsRunEnd, end_line}
use Rattle.trace_text.specs.declared.run_texts.record.RunRecord.{RunRecord}
use Rattle.trace_text.specs.declared.run_texts.run_end.RunEnd.{RunEnd}
use Rattle.world_turns.specs.declared.schedules.schedule.TurnItem.{TurnItem}
use Rattle.world_turns.specs.Counts.{ShowInCounts}
use Rattle.world_turns.specs.Run.{Run}
use Rattle.world_turns.specs.World.{World}
use Rattle.ldso_cli.specs.Outside.{LibraryAt, counts_in}
use Rattle.ldso_cli.specs.Status.{refused_text}
use Rattle.ldso_cli.specs.declared.outcome.Cause.{Cause}
use Rattle.ldso_cli.specs.declared.outcome.Cause.TheVariants as causes

-- startup is refused, at the end of these events. What is left is them, and no hart has ended
pub record LeavesRefusal (fault : DlFault) (events : List Event) (ended : Result RunEnd DlFault) (left : RunRecord) : Type 0 where
  pub ended_is : ended ≡ Err fault
  pub journal : left.journal.events ≡ events
  pub no_ends : left.ends ≡ []

-- the program doesn't start, over the files as the library tells them: the first refusal, and that is left
pub record IsNotRun (setup : Setup) (files : Option (List File)) (ended : Result RunEnd DlFault) (left : RunRecord) : Type 0 where
  pub fault : DlFault
  pub events : List Event
  pub fails : FailsToStart (run_of setup files) setup fault events
  pub leaves : LeavesRefusal fault events ended left

-- a run that ended at this world. What is left is its journal, and how each hart ended
pub record LeavesRun (world : World) (ended : Result RunEnd DlFault) (left : RunRecord) : Type 0 where
  pub run_end : RunEnd
  pub ended_is : ended ≡ Ok run_end
  pub journal : left.journal.events ≡ world.journal
  pub ends : AreEndsOf world.harts left.ends
  pub decides : IsRunEnd left.ends run_end

-- it runs by the items of a schedule, and that is left
pub record IsRun (setup : Setup) (items : List TurnItem) (files : Option (List File)) (ended : Result RunEnd DlFault) (left : RunRecord) : Type 0 where
  pub world : World
  pub runs : Run (run_of setup files) setup items world
  pub leaves : LeavesRun world ended left

-- startup missed each path that the name may have
abbrev pub StartMisses : Setup → LibraryAt → LibraryAt → List ℕ → Type 0
StartMisses setup before after name = AreMissed (ArePathsAtStart setup.folders setup.program name) before.misses after.misses

-- how a run comes to its end, while its library goes on from one state to another: it doesn't start, or it runs so; and no failure is invented
pub record ComesToEnd (Runs : Type 0) (setup : Setup) (before after : LibraryAt) (ended : Result RunEnd DlFault) (left : RunRecord) : Type 0 where
  pub is : IsNotRun setup before.files ended left ⊎ Runs
  pub read_fault : (path : List ℕ) → ended ≡ Err (dl.ReadFault path) → Rises before.faults after.faults
  pub missing : (name : List ℕ) → ended ≡ Err (dl.MissingLibrary name) → StartMisses setup before after name
  -- over the whole journal: an opening of a guest's may be refused so, too
  pub counted : ShowInCounts setup.folders left.journal.events (counts_in before) (counts_in after)

-- by the items of a schedule
abbrev pub IsPlayed : Setup → List TurnItem → LibraryAt → LibraryAt → Result RunEnd DlFault → RunRecord → Type 0
IsPlayed setup items before after ended left = ComesToEnd (IsRun setup items before.files ended left) setup before after ended left

-- why a command ends whose run ended so, and the last line of what it prints
abbrev pub run_cause : Result RunEnd DlFault → Cause
run_cause (Ok run_end) = causes.Ran run_end
run_cause (Err fault) = causes.Refused fault

abbrev pub last_line : Result RunEnd DlFault → List ℕ
last_line (Ok run_end) = end_line run_end
last_line (Err fault) = refused_text fault
