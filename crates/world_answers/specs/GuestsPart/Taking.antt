-- A hart's turn behind the settling, and what it meets: for the code of this crate alone.
use Rattle.std.specs.Prelude.{◌≡◌, ℕ, ◌<◌, true, List, ◌++◌, Option, Some, None, IsTrue}
use Rattle.ld_base.specs.declared.linking.File.{File}
use Rattle.history_event.specs.declared.event.Event.{Event}
use Rattle.history_state.specs.After.{after}
use Rattle.history_state.specs.Legal.{Legal}
use Rattle.history_state.specs.Setting.{Setting}
use Rattle.history_calls.specs.Call.{Call}
use Rattle.history_journal.specs.Following.{machine_of}
use Rattle.history_calls.specs.CallLaws.Coming.{IsOn, IsOver}
use Rattle.rv_hart.specs.declared.doubleword.Doubleword.{Doubleword}
use Rattle.hart_moves.specs.Due.{Due, Return, due}
use Rattle.hart_moves.specs.Harts.{HartState}
use Rattle.hart_moves.specs.Moves.{Did, Moves, events_of, settles}
use Rattle.link_state.specs.Table.{LinkTable}
use Rattle.world_answers.specs.Answers.{is_service}
use Rattle.world_turns.specs.Memory.{Does}
use Rattle.world_answers.specs.GuestsPart.GuestWorlds.Laws.{MayCall}
use Rattle.world_answers.specs.GuestsPart.GuestWorlds.Worlds.{setting_without}
use Rattle.world_answers.specs.GuestsPart.Asking.{is_called}
use Rattle.world_answers.specs.declared.guests.guest_worlds.turn.Turn.{Turn}
use Rattle.world_answers.specs.declared.guests.guest_worlds.turn.Turn.TheVariants as turn

-- ---- what a turn meets

-- the history is legal in a run with these folders whose library tells no files
pub record IsLegal (count : ℕ) (folders : List (List ℕ)) (past : List Event) : Type 0 where
  pub preload : List (List ℕ)
  pub legal : Legal (setting_without count folders preload) past

-- the hart's next turn is a call, which it may make
pub record MakesCall (count : ℕ) (past : List Event) (h : ℕ) (b : HartState) : Type 0 where
  pub call : Call
  pub back : Return
  pub is : due (after past) b ≡ Due.serve call back
  pub may : MayCall count past h b

-- the hart's next turn is a call, which it may make, or it waits with one
pub record HasCalled (count : ℕ) (past : List Event) (h : ℕ) (b : HartState) : Type 0 where
  pub called : is_called (due (after past) b) ≡ true
  pub makes : is_service (due (after past) b) ≡ true → MakesCall count past h b
  pub runs : b.«end» ≡ None
  pub fuel : b.turns < b.fuel

-- ---- a turn

-- what the hart did, which events it appended, and what that made of memory
pub record HartTurns (w : Setting) (past events : List Event) (words left : List Doubleword) (h : ℕ) (b c : HartState) : Type 0 where
  pub did : Did
  pub settling : IsTrue (settles did)
  pub moves : Moves w past h b did c
  pub are : events ≡ past ++ events_of did
  pub does : Does past words did left

-- in each run on this machine
abbrev pub HartTurnsOn : (old new : LinkTable) → (words left : List Doubleword) → ℕ → (b c : HartState) → Type 0
HartTurnsOn old new words left h b c = (w : Setting) → IsOn (machine_of old.harts) w → HartTurns w old.events new.events words left h b c

-- in each of those with these folders, and with the files as the library tells them
abbrev pub HartTurnsOver : List (List ℕ) → Option (List File) → (old new : LinkTable) → (words left : List Doubleword) → ℕ → (b c : HartState) → Type 0
HartTurnsOver folders files old new words left h b c =
    (w : Setting) → IsOver (machine_of old.harts) folders files w → HartTurns w old.events new.events words left h b c

-- whether the hart has ended
abbrev pub IsOutcome : HartState → Turn → Type 0
IsOutcome c turn.Stepped = c.«end» ≡ None
IsOutcome c (turn.Again shown) = c.«end» ≡ None
IsOutcome c (turn.Ended reason) = c.«end» ≡ Some reason
IsOutcome c turn.Idle = ⊥
