-- A whole run on one thread, by a written schedule.
use Rattle.std.specs.Prelude.{◌≡◌, ℕ, suc, Bool, false, not, ◌&&◌, List, [], ◌∷◌, ◌++◌, length, map, Option, Some, None, IsTrue}
use Rattle.std.specs.List.{list_all, list_any, range_with_len, slice_get}
use Rattle.std.specs.Option.{is_some, option_map_or}
use Rattle.history_event.specs.declared.event.Event.TheVariants.{Ended}
use Rattle.history_event.specs.declared.handed.HartEntry.{HartEntry}
use Rattle.history_event.specs.declared.hart_end.HartEnd.TheVariants as ends
use Rattle.history_calls.specs.declared.link_served.startup.Setup.{Setup}
use Rattle.history_calls.specs.declared.link_served.startup.Started.{Started}
use Rattle.rv_hart.specs.Registers.{Registers}
use Rattle.rv_hart.specs.declared.doubleword.Doubleword.{Doubleword}
use Rattle.history_state.specs.After.{after}
use Rattle.history_state.specs.Allowed.{MayEnd}
use Rattle.history_state.specs.Memory.{image_of}
use Rattle.history_state.specs.Setting.{Setting}
use Rattle.history_state.specs.State.{empty_state}
use Rattle.history_calls.specs.Functions.{AreAddresses, destructors}
use Rattle.history_calls.specs.Startup.{Starts}
use Rattle.hart_moves.specs.Harts.{HartState, is_startup_frame}
use Rattle.hart_moves.specs.Moves.{all_finis, ended, freed}
use Rattle.hart_moves.specs.Starting.{finalising_hart, starting_harts, starting_registers}
use Rattle.world_turns.specs.declared.schedules.schedule.TurnItem.{TurnItem}
use Rattle.world_turns.specs.Memory.{AreFresh, RemakesAll}
use Rattle.world_turns.specs.Turn.{TakesTurn, Turn}
use Rattle.world_turns.specs.World.{World, settling}

-- ---- the start

-- startup's events, the memory that they make, and the harts
pub record IsStarted (w : Setting) (setup : Setup) (world : World) : Type 0 where
  pub started : Started
  pub starts : Starts w setup world.journal started
  pub fresh : List Doubleword
  pub are_fresh : AreFresh fresh
  pub words : RemakesAll empty_state world.journal fresh world.words
  pub harts : world.harts ≡ starting_harts setup.fuel started.functions started.entries

-- ---- startup's constructors

abbrev pub has_ended : HartState → Bool
has_ended b = is_some b.«end»

-- the first hart runs them still
abbrev pub is_starting : World → Bool
is_starting world = option_map_or (λ b. not (has_ended b) && list_any is_startup_frame b.frames) (slice_get world.harts 0) false

-- it takes turns until it doesn't
pub data Constructs (w : Setting) : World → World → Type 0 where
  no_more : (world : World) → is_starting world ≡ false → Constructs w world world
  one_more : (old between new : World) → IsTrue (is_starting old) → Turn w 0 old between → Constructs w between new → Constructs w old new

-- ---- the schedule

-- one hart, so many times
pub data Repeats (w : Setting) (h : ℕ) : ℕ → World → World → Type 0 where
  no_more : (world : World) → Repeats w h 0 world world
  one_more : (count : ℕ) (old between new : World) → TakesTurn w h old between → Repeats w h count between new → Repeats w h (suc count) old new

-- the items, in their order
pub data TakesItems (w : Setting) : List TurnItem → World → World → Type 0 where
  no_more : (world : World) → TakesItems w [] world world
  one_more : (item : TurnItem) (items : List TurnItem) (old between new : World) → Repeats w item.hart item.count old between → TakesItems w items between new
      → TakesItems w (item ∷ items) old new

-- each hart once, in their order
pub data Rounds (w : Setting) : List ℕ → World → World → Type 0 where
  no_more : (world : World) → Rounds w [] world world
  one_more : (h : ℕ) (rest : List ℕ) (old between new : World) → TakesTurn w h old between → Rounds w rest between new → Rounds w (h ∷ rest) old new

abbrev pub have_ended : World → Bool
have_ended world = list_all has_ended world.harts

abbrev pub all_harts : World → List ℕ
all_harts world = range_with_len 0 (length world.harts)

-- again and again, until all have ended
pub data RunFinishes (w : Setting) : World → World → Type 0 where
  no_more : (world : World) → IsTrue (have_ended world) → RunFinishes w world world
  one_more : (old between new : World) → have_ended old ≡ false → Rounds w (all_harts old) old between → RunFinishes w between new → RunFinishes w old new

-- ---- the final destructors

abbrev pub exit_code : HartState → Option ℕ
exit_code b = elim b.«end» [ Some reason ↦ elim reason [ ends.Exit code ↦ Some code | _ ↦ None ] | None ↦ None ]

abbrev pub harts_have_exited : World → Bool
harts_have_exited world = list_all (λ b. is_some (exit_code b)) world.harts

-- the first hart gets its starting registers again, and runs the destructors of the object that comes first
pub record RunBegins (registers : Registers) (old new : World) : Type 0 where
  pub first : HartState
  pub others : List HartState
  pub harts : old.harts ≡ first ∷ others
  pub code : ℕ
  pub exited : exit_code first ≡ Some code
  pub object : ℕ
  pub rest : List ℕ
  pub next : all_finis (after old.journal) ≡ object ∷ rest
  pub addresses : List ℕ
  pub are : AreAddresses destructors addresses (image_of (after old.journal) object)
  pub begun : new ≡ record old { harts = finalising_hart registers code (record { object = object; addresses = addresses }) first ∷ others }

-- there is no memory to list what is left: the first hart ends once more, which settles what was done before, as every end does
pub record LacksMemory (w : Setting) (old new : World) : Type 0 where
  pub first : HartState
  pub others : List HartState
  pub harts : old.harts ≡ first ∷ others
  pub code : ℕ
  pub exited : exit_code first ≡ Some code
  pub may : MayEnd w (after (old.journal ++ settling old.harts)) 0
  pub leaves : new ≡ record old {
    journal = (old.journal ++ settling old.harts) ++ Ended 0 ends.Memory ∷ [];
    harts = ended ends.Memory first ∷ map freed others;
  }

-- and takes turns until it ends
pub data RunEnds (w : Setting) : World → World → Type 0 where
  no_more : (world : World) → IsTrue (have_ended world) → RunEnds w world world
  one_more : (old between new : World) → have_ended old ≡ false → Turn w 0 old between → RunEnds w between new → RunEnds w old new

-- where each hart has ended by exit, and an object is left
pub data Finalises (w : Setting) (registers : Registers) (old new : World) : Type 0 where
  none_runs : harts_have_exited old ≡ false → new ≡ old → Finalises w registers old new
  none_is_left : all_finis (after old.journal) ≡ [] → new ≡ old → Finalises w registers old new
  no_memory : IsTrue (harts_have_exited old) → LacksMemory w old new → Finalises w registers old new
  all_run : (begun : World) → IsTrue (harts_have_exited old) → RunBegins registers old begun → RunEnds w begun new → Finalises w registers old new

-- ---- a run

-- what is left is settled
abbrev pub settled : World → World
settled world = record world { journal = world.journal ++ settling world.harts; harts = map freed world.harts }

pub record Run (w : Setting) (setup : Setup) (items : List TurnItem) (world : World) : Type 0 where
  pub started : World
  pub starts : IsStarted w setup started
  pub constructed : World
  pub constructs : Constructs w started constructed
  pub scheduled : World
  pub follows : TakesItems w items constructed scheduled
  pub finished : World
  pub finishes : RunFinishes w scheduled finished
  pub entry : HartEntry
  pub first : slice_get starts.started.entries 0 ≡ Some entry
  pub finalised : World
  pub finalises : Finalises w (starting_registers entry) finished finalised
  pub ends : world ≡ settled finalised
