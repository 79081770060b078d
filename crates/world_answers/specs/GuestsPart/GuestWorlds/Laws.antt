-- What holds of the turns of a run, as its parts take them.
use Rattle.std.specs.Prelude.{◌≡◌, ℕ, ◌<◌, ◌++◌, Bool, true, false, List, length, map, slice_set, Option, Some, None, IsTrue}
use Rattle.std.specs.List.{slice_get}
use Rattle.ld_base.specs.declared.linking.File.{File}
use Rattle.history_event.specs.declared.event.Event.{Event}
use Rattle.history_state.specs.After.{after}
use Rattle.history_state.specs.Objects.{has, is_startup}
use Rattle.history_state.specs.Setting.{Setting}
use Rattle.history_state.specs.Slots.{HasNoGrant}
use Rattle.history_calls.specs.declared.link_served.startup.Setup.{Setup}
use Rattle.history_calls.specs.Call.{Call}
use Rattle.history_calls.specs.CallLaws.Coming.{IsOn}
use Rattle.history_journal.specs.Following.{machine_of}
use Rattle.rv_hart.specs.declared.doubleword.Doubleword.{Doubleword}
use Rattle.rv_hart.specs.Registers.{Registers}
use Rattle.hart_moves.specs.Due.{Due, Return, due}
use Rattle.hart_moves.specs.Harts.{HartState}
use Rattle.hart_moves.specs.Moves.{Did, Moves, events_of, freed, settles}
use Rattle.world_answers.specs.Answers.{HasFinishedFirst, WritesSome}
use Rattle.world_answers.specs.ReturnsPart.Completing.{MayPass}
use Rattle.world_answers.specs.ReturnsPart.FinalTurns.Planned.{FinalsMayFollow}
use Rattle.world_memory.specs.TurnAnswers.Following.{MayFollowAll}
use Rattle.world_turns.specs.Memory.{Does}
use Rattle.world_turns.specs.Run.{RunBegins, IsStarted, LacksMemory, harts_have_exited, settled}
use Rattle.world_turns.specs.Turn.{Turn}
use Rattle.world_turns.specs.World.{World, settling}
use Rattle.world_answers.specs.GuestsPart.GuestWorlds.Worlds.{MayBeAt, MayEndNow, TakesOver}

-- ---- how a turn is put together

-- of a hart that settles nothing and appends nothing
abbrev pub QuietTurns : Type 0
QuietTurns = (w : Setting) (h : ℕ) (old : World) (words : List Doubleword) (b c : HartState) (did : Did) → settles did ≡ false
    → slice_get old.harts h ≡ Some b → Moves w old.journal h b did c → Does old.journal old.words did words
    → Turn w h old (record old { words = words; harts = slice_set old.harts h c })

-- of a service, which settles each grant whose hart is done with it first
abbrev pub ServiceTurns : Type 0
ServiceTurns = (w : Setting) (h : ℕ) (old : World) (words : List Doubleword) (b c : HartState) (did : Did) → IsTrue (settles did)
    → slice_get old.harts h ≡ Some b → Moves w (old.journal ++ settling old.harts) h b did c
    → Does (old.journal ++ settling old.harts) old.words did words
    → Turn w h old (record { journal = (old.journal ++ settling old.harts) ++ events_of did; words = words; harts = slice_set (map freed old.harts) h c })

-- ---- what a run at a moment meets

-- what is to settle may be settled, and then the run is at a moment as before
pub record MaySettle (count : ℕ) (folders : List (List ℕ)) (begun : Bool) (world : World) : Type 0 where
  pub may : MayFollowAll count world.journal (settling world.harts)
  pub at : MayBeAt count folders begun (settled world)

abbrev pub SettlesNow : Type 0
SettlesNow = (count : ℕ) (folders : List (List ℕ)) (begun : Bool) (world : World) → MayBeAt count folders begun world → MaySettle count folders begun world

-- a hart that runs may end
abbrev pub EndsNow : Type 0
EndsNow = (count : ℕ) (folders : List (List ℕ)) (begun : Bool) (world : World) (h : ℕ) (b : HartState) → MayBeAt count folders begun world
    → slice_get world.harts h ≡ Some b → b.«end» ≡ None → MayEndNow count world.journal h

-- and once each hart has ended by exit, before the final destructors, the first one may once more
abbrev pub FirstEndsNow : Type 0
FirstEndsNow = (count : ℕ) (folders : List (List ℕ)) (world : World)
    → MayBeAt count folders false world → IsTrue (harts_have_exited world) → 0 < length world.harts → MayEndNow count world.journal 0

-- a hart whose next turn is a call of the linker, and whose grant is settled, may make it, and has fuel for it
pub record MayCall (count : ℕ) (past : List Event) (h : ℕ) (b : HartState) : Type 0 where
  pub started : is_startup (after past) ≡ false
  pub free : HasNoGrant (after past) h
  pub finished : HasFinishedFirst (after past) h (due (after past) b)
  pub writes : WritesSome (due (after past) b)
  pub «end» : MayEndNow count past h
  pub fuel : b.turns < b.fuel

abbrev pub CallsNow : Type 0
CallsNow = (count : ℕ) (folders : List (List ℕ)) (begun : Bool) (world : World) (h : ℕ) (b : HartState) (call : Call) (to : Return)
    → MayBeAt count folders begun world → slice_get world.harts h ≡ Some b → freed b ≡ b → due (after world.journal) b ≡ Due.serve call to
    → MayCall count world.journal h b

-- objects whose functions have run may pass
abbrev pub PassesNow : Type 0
PassesNow = (count : ℕ) (folders : List (List ℕ)) (begun : Bool) (world : World) (h : ℕ) (b : HartState) → MayBeAt count folders begun world
    → slice_get world.harts h ≡ Some b → MayPass count world.journal h (due (after world.journal) b)

-- and so in the final destructors, which the first hart alone runs
pub record MayGoOn (count : ℕ) (past : List Event) (h object : ℕ) (b : HartState) : Type 0 where
  pub first : h ≡ 0
  pub initialised : IsTrue (has (after past).inits object)
  pub may : (w : Setting) → IsOn (machine_of count) w → FinalsMayFollow w past h object
  pub fuel : b.turns < b.fuel

abbrev pub FinalsNow : Type 0
FinalsNow = (count : ℕ) (folders : List (List ℕ)) (begun : Bool) (world : World) (h : ℕ) (b : HartState) (code object : ℕ)
    → MayBeAt count folders begun world → slice_get world.harts h ≡ Some b → due (after world.journal) b ≡ Due.finalise code object
    → MayGoOn count world.journal h object b

-- ---- a run goes on

-- its start, over whatever files
abbrev pub StartIsAt : Type 0
StartIsAt = (w : Setting) (setup : Setup) (world : World) (count : ℕ) → w.machine ≡ machine_of count → IsStarted w setup world
    → is_startup (after world.journal) ≡ false → MayBeAt count setup.folders false world

-- each turn
abbrev pub TurnsStayAt : Type 0
TurnsStayAt = (count : ℕ) (folders : List (List ℕ)) (files : Option (List File)) (begun : Bool) (h : ℕ) (old new : World)
    → MayBeAt count folders begun old → TakesOver count folders files h old new → MayBeAt count folders begun new

-- the begin of the final destructors
abbrev pub FinalsBeginAt : Type 0
FinalsBeginAt = (count : ℕ) (folders : List (List ℕ)) (registers : Registers) (old new : World) → MayBeAt count folders false old
    → IsTrue (harts_have_exited old) → RunBegins registers old new → MayBeAt count folders true new

-- or want of memory for them
abbrev pub FinalsLackAt : Type 0
FinalsLackAt = (count : ℕ) (folders : List (List ℕ)) (old new : World) → MayBeAt count folders false old → IsTrue (harts_have_exited old)
    → ((w : Setting) → IsOn (machine_of count) w → LacksMemory w old new) → MayBeAt count folders true new
