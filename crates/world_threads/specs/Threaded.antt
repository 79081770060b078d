-- What a run on threads leaves. For whoever prints it, and for whoever judges its harts' trails.
use Rattle.std.specs.Prelude.{◌≡◌, ℕ, zero, suc, ◌+◌, ◌≤◌, List, [], ◌++◌, length, Some, Result, Ok, Err, Contains}
use Rattle.std.specs.List.{slice_get}
use Rattle.history_event.specs.declared.event.Event.{Event}
use Rattle.history_event.specs.declared.hart_end.HartEnd.{HartEnd}
use Rattle.history_calls.specs.declared.link_served.startup.Setup.{Setup}
use Rattle.history_calls.specs.declared.link_served.startup.StartFault.{StartFault}
use Rattle.history_calls.specs.declared.link_served.startup.StartFault.TheVariants as starts
use Rattle.history_calls.specs.declared.link_served.startup.Started.{Started}
use Rattle.history_calls.specs.RunJournal.{IsRunJournal}
use Rattle.history_state.specs.After.{after}
use Rattle.history_state.specs.Legal.{Legal, Whole}
use Rattle.history_state.specs.Setting.{Setting}
use Rattle.hart_moves.specs.Starting.{HartStart, IsStartOf}
use Rattle.hart_threads.specs.Constructed.{GoesOn, IsConstructed}
use Rattle.hart_trails.specs.Fuel.{turns_of}
use Rattle.hart_trails.specs.Trails.{LeavesToItsEnd}
use Rattle.kept_words.specs.Kept.{AreKept, IsFateEvent}
use Rattle.kept_words.specs.Over.{IsOver}
use Rattle.link_keeper.specs.Finishing.{IsExchangeOf, TrailIsClosed}
use Rattle.link_keeper.specs.Rounds.{AreAllRounds}
use Rattle.trace_text.specs.RunTexts.Ends.{AreLastEnds}
use Rattle.trace_text.specs.declared.run_texts.record.RunRecord.{RunRecord}
use Rattle.word_rule.specs.Generations.{MarksOnce}
use Rattle.word_rule.specs.declared.view.Fate.{Fate}
use Rattle.word_rule.specs.declared.view.HartView.{HartView}
use Rattle.word_rule.specs.declared.view.KeeperView.{KeeperView}
use Rattle.world_threads.specs.declared.run.Ran.{Ran}

-- behind these events a hart takes its first turn: the first one behind startup's, each other one behind its constructors, too
abbrev pub set_off_behind : (past alone : List Event) → ℕ → List Event
set_off_behind past alone zero = past
set_off_behind past alone (suc h) = past ++ alone

-- what a hart did over the run's journal, of which startup appended `past`, and behind which `alone` stands where its constructors are over: its last
-- view has its whole trail
pub record HartRan (w : Setting) (setup : Setup) (past alone : List Event) (started : Started) (constructed : IsConstructed w setup past alone started)
    (journal : List Event) (h : ℕ) (reason : HartEnd) (hart : HartView) : Type 0 where
  pub start : HartStart
  pub sets_off : IsStartOf setup.fuel (set_off_behind past alone h) started h start
  -- its trail is what its turns left, one after another, each a move behind the events that stood there then: they bring it from where startup
  -- sets it off to this end, the one that counts for it, and none of its events is left out
  pub way : LeavesToItsEnd w journal start h reason hart.trail
  -- the first hart's turns run the constructors first
  pub first : h ≡ 0 → GoesOn w setup past alone started constructed journal reason hart.trail
  -- each entry of the trail is true of the journal, and those of events are its events behind startup's, in order; exchanges that won are of its
  -- grants that were bound, the others of those that were lost, and no grant is exchanged twice; each block that it read itself is that of the
  -- last answer before
  pub says : TrailIsClosed w past journal h hart
  -- and no block is answered twice without an event, of a module at a generation
  pub once : MarksOnce [] hart.trail
  -- no more turns led there than its fuel and three: a slot that it was granted in the last one is bound behind that, and then it ends
  pub few : length (turns_of way) ≤ setup.fuel + 3

-- the events of a run: of one that is over, or of one that is refused, up to the refusal
abbrev pub left_events : Result Ran StartFault → List Event
left_events (Ok ran) = ran.left.journal.events
left_events (Err (starts.Refused fault journal)) = journal.events
left_events (Err starts.Memory) = []

-- a run that started and is over: the keeper has its harts' last views, in the order of their numbers, and no others
pub record IsThreaded (w : Setting) (setup : Setup) (left : RunRecord) (trails : KeeperView) : Type 0 where
  -- its events are startup's, and then those of harts that there are and that hadn't ended
  pub by : IsRunJournal w setup left.journal.events
  -- startup's constructors come first: where these stand behind its events they are over, and none of these is another hart's
  pub alone : List Event
  pub more : List Event
  pub others_are : by.others ≡ alone ++ more
  pub constructed : IsConstructed w setup by.startup alone by.started
  -- one legal history: no grant is open, what a lost grant of a mapped object saw is its slot's value, and where each hart ended once, by exit,
  -- what was initialised was finalised
  pub legal : Legal w left.journal.events
  pub whole : Whole w left.journal.events
  -- the keeper counted these very events, and its view of memory is what they left: the words of each image that is there, and of no other
  pub counted : trails.events ≡ left.journal.events
  pub kept : AreKept w by.startup trails
  -- what became of each grant is known, and what was seen of a slot is the value of the one that was bound
  pub over : IsOver trails
  -- behind startup they came round after round, each one turn of one hart at the linker: grants are settled first, in the order of their harts, and whose
  -- grant is left open was asked for in that very round; behind the rounds the last grants are settled, so that none is open
  pub rounds : AreAllRounds w by.startup left.journal.events trails.opens
  -- each hart has an end, which is the last one that the journal has of it
  pub last : AreLastEnds w.machine.harts (after left.journal.events).endings left.ends
  -- and a trail that leads there
  pub all_told : length trails.joined ≡ w.machine.harts
  pub each : (h : ℕ) (reason : HartEnd) (hart : HartView) → slice_get left.ends h ≡ Some reason → slice_get trails.joined h ≡ Some hart
      → HartRan w setup by.startup alone by.started constructed left.journal.events h reason hart
  -- each grant that was bound is one that an exchange in its hart's trail won, and each that was lost one that it lost, to the word that its event shows
  pub fates : (number : ℕ) (f : Fate) (e : Event) → Contains left.journal.events e → IsFateEvent number f e
      → IsExchangeOf left.journal.events trails.joined number f e
