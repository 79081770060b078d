-- A turn of a hart that asks the linker: what the hart did, which events it appended, and what memory gets.
use Rattle.std.specs.Prelude.{◌≡◌, ℕ, List, ◌++◌, IsTrue}
use Rattle.history_event.specs.declared.event.Event.{Event}
use Rattle.history_state.specs.After.{after}
use Rattle.history_state.specs.Setting.{Setting}
use Rattle.history_calls.specs.declared.link_served.installs.Installs.{Installs}
use Rattle.hart_moves.specs.Due.{Due}
use Rattle.hart_moves.specs.Harts.{HartState}
use Rattle.hart_moves.specs.Moves.{Did, MovesAs, events_of, settles}
use Rattle.world_memory.specs.TurnAnswers.Changes.{Changes}
use Rattle.world_memory.specs.declared.turn_answers.answered.MemoryChange.{MemoryChange}

-- a hart whose next turn this is took it, as the table of turns has it, with the events from `past` on
pub record TakesService (w : Setting) (past events : List Event) (made : Installs) (h : ℕ) (d : Due) (b c : HartState)
    (change : MemoryChange) : Type 0 where
  pub did : Did
  pub moves : MovesAs w past h b d did c
  pub settling : IsTrue (settles did)
  pub are : events ≡ past ++ events_of did
  pub changes : Changes (after past) (events_of did) made change
