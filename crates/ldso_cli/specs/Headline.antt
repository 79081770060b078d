-- The headline: for all files, programs and interleavings of the harts' turns, or of their steps on threads, the journal that is kept of a run is
-- one legal history.
use Rattle.std.specs.Prelude.{◌≡◌, ◌≢◌, ℕ, List, [], take, Option, Some, None}
use Rattle.cli_words.specs.declared.command.Command.{Command}
use Rattle.cli_words.specs.declared.command.Command.TheVariants as commands
use Rattle.cli_words.specs.declared.command.Turns.{Turns}
use Rattle.history_calls.specs.RunJournal.{IsRunJournal}
use Rattle.history_calls.specs.Startup.{FailsToStart}
use Rattle.history_calls.specs.declared.link_served.startup.Setup.{Setup}
use Rattle.history_state.specs.Legal.{Legal, Whole}
use Rattle.hart_moves.specs.Follows.{HartsFollow}
use Rattle.ld_base.specs.declared.fault.DlFault.{DlFault}
use Rattle.ld_base.specs.declared.linking.File.{File}
use Rattle.lib_gen.specs.Set.{AreSetOf}
use Rattle.library_source.specs.Count.{Rises}
use Rattle.link_open_plan.specs.Startup.{run_of}
use Rattle.link_startup.specs.Startup.{CanStart}
use Rattle.plain_world.specs.Ends.{AreEndsOf}
use Rattle.trace_text.specs.declared.run_texts.record.RunRecord.{RunRecord}
use Rattle.world_laws.specs.RunMoments.Laws.{IsTrueThroughout}
use Rattle.world_laws.specs.RunMoments.OfJournal.{JournalIsTrue}
use Rattle.world_turns.specs.declared.schedules.schedule.TurnItem.{TurnItem}
use Rattle.world_turns.specs.Run.{Run}
use Rattle.world_turns.specs.World.{World}
use Rattle.word_rule.specs.declared.view.KeeperView.{KeeperView}
use Rattle.world_threads.specs.Slots.{SlotsEnd}
use Rattle.world_threads.specs.Threaded.{IsThreaded}
use Rattle.ldso_cli.specs.Generate.{set_at, set_setup}
use Rattle.ldso_cli.specs.Outside.{LibraryAt}
use Rattle.ldso_cli.specs.Turns.{Schedules}
use Rattle.ldso_cli.specs.declared.outcome.End.{End}

-- the program ran: a run on one thread by these items, each of whose turns is one of its hart's, left this journal and these ends
pub record HasRun (setup : Setup) (items : List TurnItem) (files : Option (List File)) (left : RunRecord) : Type 0 where
  pub world : World
  pub run : Run (run_of setup files) setup items world
  pub journal : left.journal.events ≡ world.journal
  pub ends : AreEndsOf world.harts left.ends
  -- its events are startup's, and then those of harts that there are and that hadn't ended
  pub by : IsRunJournal (run_of setup files) setup left.journal.events
  -- each hart follows from its start to its end, by the table of turns, and none of its events is left out
  pub follow : HartsFollow (run_of setup files) setup left.journal.events left.ends
  -- no grant is open, what a lost grant of a mapped object saw is its slot's value, and where each hart ended once, by exit, what was initialised
  -- was finalised
  pub whole : Whole (run_of setup files) left.journal.events
  -- in each world that turns lead to, slots, blocks and closings are what they should be, and a bound slot stays from each to each later one
  pub moments : IsTrueThroughout run

-- the program ran: a run on threads, each of whose harts has a trail, left this journal and these ends
pub record HasRunOnThreads (setup : Setup) (files : Option (List File)) (left : RunRecord) (trails : Option KeeperView) : Type 0 where
  pub view : KeeperView
  pub trails_are : trails ≡ Some view
  -- the journal is a whole legal history, which came round after round; each hart follows from its start to its end, by the table of turns; none of its
  -- events is left out; and its trail says what the journal says
  pub is : IsThreaded (run_of setup files) setup left view
  -- each exchange of a slot of an object that is mapped at the end put there or found its one value, or no grant of it was made
  pub slots : SlotsEnd left.journal.events view.joined
  -- behind each of its events the choices, the blocks of thread-local storage and the closings are what they should be
  pub moments : (k : ℕ) → JournalIsTrue (run_of setup files) (take k left.journal.events)

-- what is kept of the run of a program, over the files as the library tells them; `Ran` is what it is where the program ran
pub record IsHistoryOf (Ran : Type 0) (setup : Setup) (before after : LibraryAt) (left : RunRecord) : Type 0 where
  -- the journal is one legal history, whether the program starts or not
  pub legal : Legal (run_of setup before.files) left.journal.events
  -- where a hart has ended, the program ran; where none has, startup was refused at the end of these events
  pub ran : left.ends ≢ [] → Ran
  pub refused : left.ends ≡ [] → (fault : DlFault) × FailsToStart (run_of setup before.files) setup fault left.journal.events
  -- and it runs where it may start over files that are told, and no read fails
  pub runs : (files : List File) → before.files ≡ Some files → ¬ (Rises before.faults after.faults) → CanStart (run_of setup before.files) setup
      → left.ends ≢ []

-- by the items of a schedule
abbrev pub IsHistory : Setup → List TurnItem → LibraryAt → LibraryAt → RunRecord → Type 0
IsHistory setup items before after left = IsHistoryOf (HasRun setup items before.files left) setup before after left

-- what is kept of turns: a history by the items that its schedule says
pub record IsHistoryOfTurns (turns : Turns) (before after : LibraryAt) (left : RunRecord) : Type 0 where
  pub items : List TurnItem
  pub says : Schedules turns items
  pub is : IsHistory turns.setup items before after left

-- what is kept of gen: a history of the program of its set, over a library that has the set's files and never fails
pub record IsHistoryOfSet (number : ℕ) (left : RunRecord) : Type 0 where
  pub files : List File
  pub are : AreSetOf number files
  pub is : IsHistory set_setup [] (set_at files 0) (set_at files 0) left

-- what is kept of run: a history of a run on threads, with its harts' trails if it started
pub record IsHistoryOfThreads (setup : Setup) (before after : LibraryAt) (left : RunRecord) (trails : Option KeeperView) : Type 0 where
  pub is : IsHistoryOf (HasRunOnThreads setup before.files left trails) setup before after left
  pub no_trails : left.ends ≡ [] → trails ≡ None

-- a record is kept by a command that runs a program alone, and trails by a run on threads alone
abbrev pub IsKept : Command → LibraryAt → LibraryAt → RunRecord → Option KeeperView → Type 0
IsKept (commands.Bind bind) before after left trails = ⊥
IsKept (commands.Dump path) before after left trails = ⊥
IsKept (commands.Assemble path) before after left trails = ⊥
IsKept (commands.Turns turns) before after left trails = IsHistoryOfTurns turns before after left × (trails ≡ None)
IsKept (commands.Run run) before after left trails = IsHistoryOfThreads run.setup before after left trails
IsKept (commands.Check check) before after left trails = ⊥
IsKept (commands.Generate number) before after left trails = IsHistoryOfSet number left × (trails ≡ None)

-- so it is of what the words of a command keep: no trails without a record
abbrev pub AreKept : Option Command → LibraryAt → LibraryAt → Option RunRecord → Option KeeperView → Type 0
AreKept command before after None trails = trails ≡ None
AreKept None before after (Some left) trails = ⊥
AreKept (Some command) before after (Some left) trails = IsKept command before after left trails

abbrev pub Headline : Option Command → LibraryAt → LibraryAt → End → Type 0
Headline command before after end = AreKept command before after end.kept end.trails
