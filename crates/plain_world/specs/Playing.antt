-- What comes of a run that has started, by a written schedule.
use Rattle.std.specs.Prelude.{◌≡◌, ℕ, Bool, true, false, List, [], ◌∷◌, Option, None, IsTrue}
use Rattle.std.specs.List.{list_all}
use Rattle.ld_base.specs.declared.linking.File.{File}
use Rattle.rv_hart.specs.Registers.{Registers}
use Rattle.history_state.specs.Setting.{Setting}
use Rattle.history_journal.specs.Following.{machine_of}
use Rattle.history_calls.specs.CallLaws.Coming.{IsOver}
use Rattle.world_turns.specs.declared.schedules.schedule.TurnItem.{TurnItem}
use Rattle.world_answers.specs.GuestsPart.GuestWorlds.Coming.{HasEnd}
use Rattle.hart_moves.specs.Harts.{HartState}
use Rattle.world_turns.specs.Run.{RunBegins, Constructs, Finalises, RunFinishes, TakesItems, has_ended, harts_have_exited, is_starting, settled}
use Rattle.world_turns.specs.Turn.{TakesTurn}
use Rattle.world_turns.specs.World.{World}
use Rattle.plain_world.specs.Table.{WorldTable}

-- in each run that this may be: of so many harts, with these folders, and over the files as the library tells them
abbrev pub InEachRun : WorldTable → Option (List File) → (Setting → Type 0) → Type 0
InEachRun run files Holds = (w : Setting) → IsOver (machine_of run.count) run.folders files w → Holds w

-- the final destructors run, where they haven't begun before
pub data FinalisesOnce (w : Setting) (begun : Bool) (registers : Registers) (old new : World) : Type 0 where
  for_once : begun ≡ false → Finalises w registers old new → FinalisesOnce w begun registers old new
  no_more : begun ≡ true → new ≡ old → FinalisesOnce w begun registers old new

-- what is left of startup's constructors, the items of the schedule, the harts in order until all have ended, the final destructors, and what is
-- left to settle
pub record Plays (w : Setting) (begun : Bool) (registers : Registers) (items : List TurnItem) (old new : World) : Type 0 where
  pub constructed : World
  pub constructs : Constructs w old constructed
  pub scheduled : World
  pub follows : TakesItems w items constructed scheduled
  pub finished : World
  pub finishes : RunFinishes w scheduled finished
  pub finalised : World
  pub finalises : FinalisesOnce w begun registers finished finalised
  pub ends : new ≡ settled finalised

-- turns by hand: the first hart's, while it runs startup's constructors, and behind them those of any hart. Behind them each counts as an item
-- of a schedule
pub data TakesByHand (w : Setting) : List TurnItem → World → World → Type 0 where
  no_more : (world : World) → TakesByHand w [] world world
  constructs : (taken : List TurnItem) (old between new : World) → IsTrue (is_starting old) → TakesTurn w 0 old between → TakesByHand w taken between new
      → TakesByHand w taken old new
  takes : (h : ℕ) (taken : List TurnItem) (old between new : World) → is_starting old ≡ false → TakesTurn w h old between → TakesByHand w taken between new
      → TakesByHand w (record { hart = h; count = 1 } ∷ taken) old new

-- ---- for the code of this crate alone

-- each hart has ended by exit, and the first one begins with the destructors of what is left
pub record BeginsToFinalise (begun : Bool) (registers : Registers) (old new : World) : Type 0 where
  pub before : begun ≡ false
  pub exited : IsTrue (harts_have_exited old)
  pub begins : RunBegins registers old new

-- the first hart runs
abbrev pub FirstRuns : World → Type 0
FirstRuns world = HasEnd world 0 None

-- each other hart has ended
pub record OthersHaveEnded (world : World) : Type 0 where
  pub first : HartState
  pub others : List HartState
  pub harts : world.harts ≡ first ∷ others
  pub over : IsTrue (list_all has_ended others)
