-- What came of a call, as the linker's answer.
use Rattle.std.specs.Prelude.{◌≡◌, ℕ, List, ◌++◌, map, Some, None}
use Rattle.ld_base.specs.declared.fault.DlFault.{DlFault}
use Rattle.ld_base.specs.declared.fault.Shown.{Shown}
use Rattle.ld_base.specs.declared.linking.Loaded.{Loaded}
use Rattle.history_event.specs.declared.event.Event.{Event}
use Rattle.history_event.specs.declared.handed.Dying.{Dying}
use Rattle.history_event.specs.declared.handed.Function.{Function}
use Rattle.history_event.specs.declared.hart_end.HartEnd.{HartEnd}
use Rattle.history_event.specs.declared.state.Granting.{Granting}
use Rattle.history_state.specs.After.{after}
use Rattle.history_state.specs.Objects.{serial_of}
use Rattle.history_state.specs.Setting.{Setting}
use Rattle.history_calls.specs.declared.link_served.installs.Installs.{Installs}
use Rattle.history_calls.specs.Answer.{Answer, returns, loading, closing, refused, granted, told, again, over, refused_value}
use Rattle.history_calls.specs.Call.{Call}
use Rattle.history_calls.specs.Functions.{AreConstructors, AreDestructors}
use Rattle.history_calls.specs.Gives.{Serves}
use Rattle.history_calls.specs.Served.{answer_text}
use Rattle.hart_moves.specs.Due.{Due, Return}
use Rattle.hart_moves.specs.Moves.{IsOffer, stack_start}
use Rattle.hart_seat.specs.HartParts.Views.{offered_of}
use Rattle.hart_seat.specs.declared.hart_parts.due.Offered.{Offered as code_offered}
use Rattle.world_memory.specs.TurnAnswers.Changes.{Changes}
use Rattle.world_memory.specs.declared.turn_answers.answered.Answered.{Answered}
use Rattle.world_memory.specs.declared.turn_answers.answered.Answered.TheVariants as answered
use Rattle.world_memory.specs.declared.turn_answers.answered.MemoryChange.{MemoryChange}
use Rattle.world_memory.specs.declared.turn_answers.answered.MemoryChange.TheVariants as change

-- a call of a hart after these events, which appended those: the answer, and what came of it
pub data IsAnswered (past appended : List Event) (h : ℕ) (made : Installs) (call : Call) : Answer → Answered → Type 0 where
  is_returned : (value : ℕ) (does : MemoryChange) → Changes (after past) appended made does
      → IsAnswered past appended h made call (returns value) (answered.Returns value does)
  -- a refused call returns, too
  is_refused : (fault : DlFault) → Changes (after past) appended made change.Nothing
      → IsAnswered past appended h made call (refused fault) (answered.Returns (refused_value call) change.Nothing)
  is_loaded : (root : ℕ) (added : List Loaded) (installs : Installs) (functions : List Function)
      → Changes (after past) appended made (change.Installs installs)
      → AreConstructors (after (past ++ appended)) (map serial_of added) functions
      → IsAnswered past appended h made call (loading root added) (answered.Loading root installs functions)
  is_closing : (dying : Dying) (functions : List Function) → Changes (after past) appended made change.Nothing
      → AreDestructors (after (past ++ appended)) dying.list functions
      → IsAnswered past appended h made call (closing dying.list) (answered.Closing dying functions)
  is_granted : (grant : Granting) (offered : code_offered) → Changes (after past) appended made change.Nothing
      → IsOffer (after past) grant (offered_of offered)
      → IsAnswered past appended h made call (granted grant) (answered.Granted offered)
  -- with no refusal kept dlerror returns 0
  is_told_none : Changes (after past) appended made change.Nothing
      → IsAnswered past appended h made call (told None) (answered.Returns 0 change.Nothing)
  is_told : (fault : DlFault) (text : List ℕ) → text ≡ answer_text fault → Changes (after past) appended made change.Nothing
      → IsAnswered past appended h made call (told (Some fault)) (answered.Told (stack_start (after past) h) text)
  has_to_wait : (for : Shown) → Changes (after past) appended made change.Nothing
      → IsAnswered past appended h made call (again for) (answered.Again for)
  is_over : (reason : HartEnd) → Changes (after past) appended made change.Nothing
      → IsAnswered past appended h made call (over reason) (answered.Over reason)

-- a hart whose next turn this is made its call, with the events from `past` on, and what came of it
pub record AnswersTurn (w : Setting) (past events : List Event) (made : Installs) (h : ℕ) (d : Due) (came : Answered) : Type 0 where
  pub call : Call
  pub return : Return
  pub is : d ≡ Due.serve call return
  pub appended : List Event
  pub are : events ≡ past ++ appended
  pub answer : Answer
  pub serves : Serves w past h call appended answer
  pub answered : IsAnswered past appended h made call answer came
