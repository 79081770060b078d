-- What holds of the frames of every run, before its final destructors and in them.
use Rattle.std.specs.Prelude.{◌≡◌, ℕ, List, [], ◌∷◌, ◌++◌, map, IsTrue}
use Rattle.ld_base.specs.declared.linking.Loaded.{Loaded}
use Rattle.history_event.specs.declared.event.CloseAnswer.TheVariants as closings
use Rattle.history_event.specs.declared.event.Event.{Event}
use Rattle.history_event.specs.declared.event.Event.TheVariants.{Close, Fini, Open, Unmapped}
use Rattle.history_event.specs.declared.event.OpenAnswer.TheVariants as openings
use Rattle.history_event.specs.declared.event.OpenAsk.{OpenAsk}
use Rattle.history_event.specs.declared.event.Range.{Range}
use Rattle.history_event.specs.declared.handed.Function.{Function}
use Rattle.history_calls.specs.declared.link_served.startup.Setup.{Setup}
use Rattle.rv_hart.specs.Registers.{Registers}
use Rattle.history_state.specs.Accepted.{AcceptsOnly}
use Rattle.history_state.specs.After.{after}
use Rattle.history_state.specs.Allowed.{Allowed, IsUngranted}
use Rattle.history_state.specs.Legal.{Legal}
use Rattle.history_state.specs.Objects.{serial_of}
use Rattle.history_state.specs.Setting.{Setting, have_exited as have_all_exited}
use Rattle.history_calls.specs.Functions.{AreConstructors, AreDestructors, passed}
use Rattle.history_calls.specs.Waiting.{HasFinished}
use Rattle.hart_moves.specs.Harts.{Frame, Purpose}
use Rattle.hart_moves.specs.Moves.{AreAllowed, all_finis, own_fini, passing}
use Rattle.world_turns.specs.declared.schedules.schedule.TurnItem.{TurnItem}
use Rattle.world_turns.specs.Run.{RunBegins, IsStarted, Run, harts_have_exited, settled}
use Rattle.world_turns.specs.Turn.{Turn}
use Rattle.world_turns.specs.World.{World}
use Rattle.world_turns.specs.WorldEnds.Ends.{BeforeFinals, InFinals}
use Rattle.world_turns.specs.WorldFrames.Belong.{FramesBelong, FramesFit}
use Rattle.world_turns.specs.WorldFrames.Finals.{FinalsBelong, FinalsFit}

-- ---- what keeps it

abbrev pub StartBelongs : Type 0
StartBelongs = (w : Setting) (setup : Setup) (world : World) → IsStarted w setup world → FramesBelong world

abbrev pub TurnsKeepFrames : Type 0
TurnsKeepFrames = (w : Setting) (h : ℕ) (old new : World) → Legal w new.journal → Turn w h old new → BeforeFinals w old → FramesBelong old
    → FramesBelong new

-- ---- what it is for

-- the first object of a frame may be passed, and those behind it that have no functions
abbrev pub FramesPass : Type 0
FramesPass = (w : Setting) (past : List Event) (h : ℕ) (purpose : Purpose) (f : Function) (rest : List Function) (below : List Frame) → Legal w past
    → FramesFit (after past) h (record { purpose = purpose; queue = f ∷ rest } ∷ below) → AreAllowed w past (map (passing purpose h) (f.object ∷ passed rest))

-- behind an opening the new objects in front that have none
abbrev pub OpeningsPass : Type 0
OpeningsPass = (w : Setting) (past : List Event) (h to id root : ℕ) (ask : OpenAsk) (first : Loaded) (rest : List Loaded) (ranges : List Range)
    (functions : List Function) → Legal w past → Allowed w past (Open h ask (openings.Done id root (first ∷ rest) ranges))
    → AreConstructors (after (past ++ Open h ask (openings.Done id root (first ∷ rest) ranges) ∷ [])) (map serial_of (first ∷ rest)) functions
    → AreAllowed w (past ++ Open h ask (openings.Done id root (first ∷ rest) ranges) ∷ []) (map (passing (Purpose.of_opening to root) h) (passed functions))

-- behind a closing those of its objects
abbrev pub ClosingsPass : Type 0
ClosingsPass = (w : Setting) (past : List Event) (h to handle first : ℕ) (rest : List ℕ) (functions : List Function) → Legal w past
    → Allowed w past (Close h handle (closings.Done (first ∷ rest)))
    → AreDestructors (after (past ++ Close h handle (closings.Done (first ∷ rest)) ∷ [])) (first ∷ rest) functions
    → AreAllowed w (past ++ Close h handle (closings.Done (first ∷ rest)) ∷ []) (map (passing (Purpose.of_closing to (first ∷ rest)) h) (passed functions))

-- a closing whose functions have run may have its objects unmapped, but for what open grants hold
abbrev pub FramesClose : Type 0
FramesClose = (w : Setting) (past : List Event) (h to : ℕ) (set : List ℕ) (below : List Frame) → Legal w past
    → FramesFit (after past) h (record { purpose = Purpose.of_closing to set; queue = [] } ∷ below) → IsUngranted (after past) set
    → Allowed w past (Unmapped h set)

-- and where no object of it is left to finalise, its closing has finished, whatever open grants hold
abbrev pub FramesFinish : Type 0
FramesFinish = (w : Setting) (past : List Event) (h to : ℕ) (set : List ℕ) (below : List Frame) → Legal w past
    → FramesFit (after past) h (record { purpose = Purpose.of_closing to set; queue = [] } ∷ below) → HasFinished (after past) h set

-- ---- what is settled

-- it neither initialises, finalises nor unmaps, so each frame stays what it is of
abbrev pub SettlingKeepsFrames : Type 0
SettlingKeepsFrames = (world : World) → FramesBelong world → FramesBelong (settled world)

abbrev pub SettlingKeepsFinals : Type 0
SettlingKeepsFinals = (w : Setting) (world : World) → FinalsBelong w world → FinalsBelong w (settled world)

-- ---- the final destructors

abbrev pub FinalsBeginBelong : Type 0
FinalsBeginBelong = (w : Setting) (registers : Registers) (old new : World) → IsTrue (harts_have_exited old) → RunBegins registers old new → BeforeFinals w old
    → FinalsBelong w new

abbrev pub FinalsKeepFrames : Type 0
FinalsKeepFrames = (w : Setting) (h : ℕ) (old new : World) → Legal w new.journal → Turn w h old new → InFinals w old → FinalsBelong w old
    → FinalsBelong w new

-- so the object whose destructors have run may be finalised, if it is still to be
abbrev pub FinalsFinish : Type 0
FinalsFinish = (w : Setting) (past : List Event) (code : ℕ) (f : Function) (rest : List Function) (below : List Frame)
    → FinalsFit w past (record { purpose = Purpose.of_end code; queue = f ∷ rest } ∷ below) → AreAllowed w past (own_fini (after past) 0 f.object)

-- and the one that is next of all, which passes where it has none
abbrev pub FinalsPass : Type 0
FinalsPass = (w : Setting) (past : List Event) (object : ℕ) (rest : List ℕ) → IsTrue (have_all_exited w (after past))
    → all_finis (after past) ≡ object ∷ rest → Allowed w past (Fini 0 object)

-- ---- a run

-- the frames of its worlds belong to openings and closings, until the final destructors begin
pub record FramesBelongThroughout (w : Setting) (setup : Setup) (items : List TurnItem) (world : World) (run : Run w setup items world) : Type 0 where
  pub started : FramesBelong run.started
  pub constructed : FramesBelong run.constructed
  pub scheduled : FramesBelong run.scheduled
  pub finished : FramesBelong run.finished

abbrev pub RunsBelong : Type 0
RunsBelong = (w : Setting) (setup : Setup) (items : List TurnItem) (world : World) (run : Run w setup items world) → AcceptsOnly w.machine
    → FramesBelongThroughout w setup items world run
