-- What a hart did, turn after turn, over a journal: from its start to its end.
use Rattle.std.specs.Prelude.{◌≡◌, ◌≢◌, ℕ, ◌+◌, ◌≤◌, ◌<◌, false, List, [], ◌∷◌, ◌++◌, length, take, drop, Some, Contains, IsTrue}
use Rattle.std.specs.List.{slice_get}
use Rattle.history_event.specs.declared.event.Event.{Event}
use Rattle.history_event.specs.declared.event.Event.TheVariants.{Ended}
use Rattle.history_event.specs.declared.hart_end.HartEnd.{HartEnd}
use Rattle.history_event.specs.declared.hart_end.HartEnd.TheVariants.{Exit, Memory}
use Rattle.rv_hart.specs.Registers.{Registers}
use Rattle.history_state.specs.After.{after}
use Rattle.history_state.specs.Memory.{image_of}
use Rattle.history_state.specs.Setting.{Setting, have_exited}
use Rattle.history_calls.specs.declared.link_served.startup.Setup.{Setup}
use Rattle.history_calls.specs.declared.link_served.startup.Started.{Started}
use Rattle.history_calls.specs.Functions.{AreAddresses, destructors}
use Rattle.history_calls.specs.Laws.{hart_of}
use Rattle.history_calls.specs.Startup.{Starts}
use Rattle.hart_moves.specs.Harts.{HartState}
use Rattle.hart_moves.specs.Moves.{Did, Moves, all_finis, events_of}
use Rattle.hart_moves.specs.Starting.{HartStart, IsStartOf, finalising_hart}
use Rattle.hart_moves.specs.Trails.{Beside, beside_of}

-- ---- turns

-- a turn: how many events the journal had when it came, what the hart did, and what its trail tells beside
pub record Turned : Type 0 where
  pub at : ℕ
  pub did : Did
  pub beside : Beside

-- no event of the hart stands between two numbers: what does is other harts', or was settled
abbrev pub HasNone : List Event → ℕ → (from to : ℕ) → Type 0
HasNone journal h from to = (k : ℕ) (e : Event) → from ≤ k → k < to → slice_get journal k ≡ Some e → hart_of e ≢ Some h

-- none of these events is the hart's
abbrev pub AreOthers : ℕ → List Event → Type 0
AreOthers h events = (e : Event) → Contains events e → hart_of e ≢ Some h

-- the hart's turn is a move after the events before it, and its own events stand there, one behind another
pub record TurnsAt (w : Setting) (journal : List Event) (h : ℕ) (turn : Turned) (b c : HartState) : Type 0 where
  pub within : turn.at + length (events_of turn.did) ≤ length journal
  pub moves : Moves w (take turn.at journal) h b turn.did c
  pub own : take (length (events_of turn.did)) (drop turn.at journal) ≡ events_of turn.did
  pub beside : turn.beside ≡ beside_of (take turn.at journal) h b turn.did

-- the hart's turns from one moment of the journal on to another: the number of events says which. None of its own is left out between two turns
pub data Follows (w : Setting) (journal : List Event) (h : ℕ) : ℕ → HartState → List Turned → ℕ → HartState → Type 0 where
  no_more : (from : ℕ) (b : HartState) → Follows w journal h from b [] from b
  one_more : (from to : ℕ) (b c d : HartState) (turn : Turned) (rest : List Turned) → from ≤ turn.at → HasNone journal h from turn.at
      → TurnsAt w journal h turn b c → Follows w journal h (turn.at + length (events_of turn.did)) c rest to d
      → Follows w journal h from b (turn ∷ rest) to d

-- ---- the end of a run

-- the first hart, whose turns have brought it from its start to a moment, goes on with the final destructors: it had exited, and so have all
-- at a moment since, of which the object is the next of all
pub record BeginsFinals (w : Setting) (journal : List Event) (registers : Registers) (from : ℕ) (ended : HartState) (at : ℕ) (begun : HartState) : Type 0 where
  pub code : ℕ
  pub exited : ended.«end» ≡ Some (Exit code)
  pub since : from ≤ at
  pub within : at ≤ length journal
  pub none : HasNone journal 0 from at
  pub over : IsTrue (have_exited w (after (take at journal)))
  pub object : ℕ
  pub rest : List ℕ
  pub next : all_finis (after (take at journal)) ≡ object ∷ rest
  pub addresses : List ℕ
  pub are : AreAddresses destructors addresses (image_of (after (take at journal)) object)
  pub is : begun ≡ finalising_hart registers code (record { object = object; addresses = addresses }) ended

-- or there is no memory to list what is left: it had exited, and so have all at a moment since, at which it ends once more, for that
pub record LacksList (w : Setting) (journal : List Event) (from : ℕ) (ended : HartState) (at : ℕ) : Type 0 where
  pub code : ℕ
  pub exited : ended.«end» ≡ Some (Exit code)
  pub since : from ≤ at
  pub none : HasNone journal 0 from at
  pub over : IsTrue (have_exited w (after (take at journal)))
  pub ends : slice_get journal at ≡ Some (Ended 0 Memory)

-- what comes behind a hart's first end, to which its turns have brought it at a moment, and the end that counts for it. None of its own events
-- stands behind that
pub data EndsBehind (w : Setting) (journal : List Event) (h : ℕ) (registers : Registers) (from : ℕ) (ended : HartState) (first : HartEnd) : HartEnd
    → Type 0 where
  -- nothing comes: the hart isn't the first one; a hart runs on or ended otherwise than by exit; or no object is left
  is_another : h ≢ 0 → HasNone journal h from (length journal) → EndsBehind w journal h registers from ended first first
  none_runs : h ≡ 0 → HasNone journal h from (length journal) → have_exited w (after journal) ≡ false
      → EndsBehind w journal h registers from ended first first
  none_is_left : h ≡ 0 → HasNone journal h from (length journal) → all_finis (after journal) ≡ [] → EndsBehind w journal h registers from ended first first
  -- its second end comes, for want of memory
  no_memory : h ≡ 0 → (at : ℕ) → LacksList w journal from ended at → HasNone journal h (at + 1) (length journal)
      → EndsBehind w journal h registers from ended first Memory
  -- the final destructors come, and it follows through them to their end
  all_run : h ≡ 0 → (at to : ℕ) (begun last : HartState) (turns : List Turned) (reason : HartEnd) → BeginsFinals w journal registers from ended at begun
      → Follows w journal h at begun turns to last → last.«end» ≡ Some reason → HasNone journal h to (length journal)
      → EndsBehind w journal h registers from ended first reason

-- ---- the whole way

-- a hart follows to its end: its turns, each a move, bring it from its start to its first end, and the first hart may go on; no event of its own is
-- left out before, between and behind them
pub record FollowsToItsEnd (w : Setting) (journal : List Event) (start : HartStart) (h : ℕ) (reason : HartEnd) : Type 0 where
  pub turns : List Turned
  pub to : ℕ
  pub ended : HartState
  pub follows : Follows w journal h start.from start.hart turns to ended
  pub first : HartEnd
  pub ends : ended.«end» ≡ Some first
  pub behind : EndsBehind w journal h start.registers to ended first reason

-- each hart of a run follows to its end, from where startup sets it off; the ends are those of the harts, in their order
pub record HartsFollow (w : Setting) (setup : Setup) (journal : List Event) (ends : List HartEnd) : Type 0 where
  pub past : List Event
  pub started : Started
  pub starts : Starts w setup past started
  pub more : List Event
  pub begins : journal ≡ past ++ more
  pub all : length ends ≡ w.machine.harts
  pub each : (h : ℕ) (reason : HartEnd) → slice_get ends h ≡ Some reason
      → (start : HartStart) × IsStartOf setup.fuel past started h start × FollowsToItsEnd w journal start h reason
