-- What the linker has answered a hart's call, and whether functions are to run first.
use Rattle.std.specs.Prelude.{◌≡◌, ℕ, Bool, true, false, List}
use Rattle.history_journal.specs.Following.{machine_of}
use Rattle.history_event.specs.declared.event.Event.{Event}
use Rattle.history_state.specs.After.{after}
use Rattle.history_state.specs.Setting.{Setting}
use Rattle.link_state.specs.Table.{LinkTable}
use Rattle.hart_moves.specs.Due.{due}
use Rattle.hart_moves.specs.Harts.{HartState}
use Rattle.world_memory.specs.TurnAnswers.Answered.{AnswersTurn}
use Rattle.world_memory.specs.declared.turn_answers.answered.Answered.{Answered}
use Rattle.world_memory.specs.declared.turn_answers.answered.Answered.TheVariants as answered

-- in some run on this machine the call that is due for the hart was answered so
pub record WasAnswered (table : LinkTable) (h : ℕ) (b : HartState) (came : Answered) : Type 0 where
  pub setting : Setting
  pub machine : setting.machine ≡ machine_of table.harts
  pub past : List Event
  pub answers : AnswersTurn setting past table.events table.made h (due (after past) b) came

-- functions are to run first
abbrev pub runs_functions : Answered → Bool
runs_functions (answered.Returns value does) = false
runs_functions (answered.Loading root installs functions) = true
runs_functions (answered.Closing dying functions) = true
runs_functions (answered.Granted offered) = false
runs_functions (answered.Told text message) = false
runs_functions (answered.Again for) = false
runs_functions (answered.Over reason) = false
