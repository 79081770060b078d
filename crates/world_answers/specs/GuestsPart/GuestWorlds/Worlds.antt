-- A run on one thread at a moment, as its parts make it up: the linker's state, guest memory, and the harts.
use Rattle.std.specs.Prelude.{◌≡◌, ℕ, ◌<◌, Bool, false, List, Option, None}
use Rattle.ld_base.specs.declared.linking.File.{File}
use Rattle.history_event.specs.declared.event.Event.{Event}
use Rattle.history_state.specs.After.{after}
use Rattle.history_state.specs.Allowed.{MayEnd}
use Rattle.history_state.specs.Owed.{ends_at_most, times_ended}
use Rattle.history_state.specs.Setting.{Setting}
use Rattle.link_state.specs.Table.{LinkTable}
use Rattle.history_journal.specs.Following.{machine_of}
use Rattle.history_calls.specs.CallLaws.Coming.{IsOn, IsOver}
use Rattle.hart_seat.specs.Table.{HartTable}
use Rattle.rv_hart.specs.declared.doubleword.Doubleword.{Doubleword}
use Rattle.world_turns.specs.RunningWorlds.Running.{IsRunning}
use Rattle.world_answers.specs.ReturnsPart.Settling.{harts_in}
use Rattle.world_turns.specs.TurnWrites.Writing.{WorldWrites}
use Rattle.world_turns.specs.WorldEnds.Ends.{BeforeFinals}
use Rattle.world_turns.specs.Turn.{TakesTurn, Turn}
use Rattle.world_turns.specs.World.{World}

abbrev pub world_of : LinkTable → List Doubleword → List HartTable → World
world_of state words harts = record { journal = state.events; words = words; harts = harts_in harts }

-- ---- a moment

-- a run's setting, as one of a library that tells no files
abbrev pub setting_without : ℕ → (folders preload : List (List ℕ)) → Setting
setting_without count folders preload = record { machine = machine_of count; folders = folders; preload = preload; files = None }

-- what holds of the world of a run of so many harts with these folders, and with some preload names, whose final destructors have begun, or haven't
pub record MayBeAt (count : ℕ) (folders : List (List ℕ)) (begun : Bool) (world : World) : Type 0 where
  pub preload : List (List ℕ)
  pub running : IsRunning (setting_without count folders preload) world
  pub before : begun ≡ false → BeforeFinals (setting_without count folders preload) world
  pub writing : WorldWrites world

-- whichever folders it has, and however far it is
abbrev pub IsSomewhere : ℕ → World → Type 0
IsSomewhere count world = (folders : List (List ℕ)) × (begun : Bool) × MayBeAt count folders begun world

-- ---- turns

-- in each run of so many harts this was a turn of the hart
abbrev pub TurnsOn : ℕ → ℕ → (old new : World) → Type 0
TurnsOn count h old new = (w : Setting) → IsOn (machine_of count) w → Turn w h old new

-- or the hart had ended
abbrev pub TakesOn : ℕ → ℕ → (old new : World) → Type 0
TakesOn count h old new = (w : Setting) → IsOn (machine_of count) w → TakesTurn w h old new

-- in each of those with these folders, and with the files as the library tells them
abbrev pub TurnsOver : ℕ → List (List ℕ) → Option (List File) → ℕ → (old new : World) → Type 0
TurnsOver count folders files h old new = (w : Setting) → IsOver (machine_of count) folders files w → Turn w h old new

-- or the hart had ended
abbrev pub TakesOver : ℕ → List (List ℕ) → Option (List File) → ℕ → (old new : World) → Type 0
TakesOver count folders files h old new = (w : Setting) → IsOver (machine_of count) folders files w → TakesTurn w h old new

-- ---- the end of a hart

-- the hart may end now, and the linker's state has kept room for it
pub record MayEndNow (count : ℕ) (past : List Event) (h : ℕ) : Type 0 where
  pub hart : h < count
  pub times : times_ended h (after past).endings < ends_at_most h
  pub may : (w : Setting) → IsOn (machine_of count) w → MayEnd w (after past) h
