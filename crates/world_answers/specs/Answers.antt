-- What a hart's call comes to, over the linker's state before it and after it.
use Rattle.std.specs.Prelude.{◌≡◌, ℕ, ◌++◌, Bool, true, false, List, Option}
use Rattle.history_calls.specs.CallLaws.Coming.{IsOn, IsOver}
use Rattle.hart_moves.specs.Due.{Due, Return}
use Rattle.history_journal.specs.Following.{machine_of}
use Rattle.ld_base.specs.declared.linking.File.{File}
use Rattle.history_event.specs.declared.event.Event.{Event}
use Rattle.history_state.specs.After.{after}
use Rattle.history_state.specs.Allowed.{MayEnd, MayWrite}
use Rattle.history_state.specs.Setting.{Setting}
use Rattle.history_state.specs.Slots.{HasNoGrant}
use Rattle.history_state.specs.State.{State}
use Rattle.history_calls.specs.declared.link_served.installs.Installs.{Installs}
use Rattle.history_calls.specs.Answer.{Answer}
use Rattle.history_calls.specs.Call.{Call, resolves, unmaps, writes}
use Rattle.history_calls.specs.Gives.{Serves}
use Rattle.history_calls.specs.Waiting.{HasFinished}
use Rattle.link_state.specs.Table.{LinkTable}
use Rattle.world_memory.specs.TurnAnswers.Answered.{AnswersTurn, IsAnswered}
use Rattle.world_memory.specs.declared.turn_answers.answered.Answered.{Answered}

-- ---- what holds where a hart makes its call

-- in each run on this machine the hart may end
abbrev pub MayEndIn : LinkTable → ℕ → Type 0
MayEndIn table h = (w : Setting) → IsOn (machine_of table.harts) w → MayEnd w (after table.events) h

-- where a slot is to be granted, the hart has no open grant
abbrev pub IsFreeFirst : State → ℕ → Due → Type 0
IsFreeFirst s h d = (owner eights : ℕ) (return : Return) → d ≡ Due.serve (resolves owner eights) return → HasNoGrant s h

-- where the objects of a closing are to be unmapped, their destructors have run
abbrev pub HasFinishedFirst : State → ℕ → Due → Type 0
HasFinishedFirst s h d = (set : List ℕ) (return : Return) → d ≡ Due.serve (unmaps set) return → HasFinished s h set

-- a write is of some bytes, and of no more than may be written at once
abbrev pub WritesSome : Due → Type 0
WritesSome d = (bytes : List ℕ) (return : Return) → d ≡ Due.serve (writes bytes) return → MayWrite bytes

-- ---- what came of it

-- the turn is a call of the linker
abbrev pub is_service : Due → Bool
is_service Due.nothing = false
is_service (Due.exchange o) = false
is_service (Due.finish o found) = false
is_service Due.fuel_out = false
is_service Due.instruction = false
is_service (Due.copy copy start bytes) = false
is_service (Due.serve call return) = true
is_service (Due.wait for) = false
is_service (Due.store text stored word more) = false
is_service (Due.enter function frames) = false
is_service (Due.complete purpose object rest below) = false
is_service (Due.finalise code object) = false

-- it waits still for what its opening came to
abbrev pub is_wait : Due → Bool
is_wait d = elim d [ Due.wait for ↦ true | _ ↦ false ]

-- the call was made, with the events from `past` on, and this came of it
pub record CallIsAnswered (w : Setting) (past events : List Event) (made : Installs) (h : ℕ) (call : Call) (came : Answered) : Type 0 where
  pub appended : List Event
  pub are : events ≡ past ++ appended
  pub answer : Answer
  pub serves : Serves w past h call appended answer
  pub answered : IsAnswered past appended h made call answer came

-- in each of these runs
abbrev pub AnswersBy : (Setting → Type 0) → LinkTable → ℕ → Call → Answered → LinkTable → Type 0
AnswersBy IsOf old h call came new = (w : Setting) → IsOf w → CallIsAnswered w old.events new.events new.made h call came

-- in each run on this machine
abbrev pub AnswersIn : LinkTable → ℕ → Call → Answered → LinkTable → Type 0
AnswersIn old = AnswersBy (IsOn (machine_of old.harts)) old

-- in each of those with these folders, and with the files as the library tells them
abbrev pub AnswersOver : LinkTable → List (List ℕ) → Option (List File) → ℕ → Call → Answered → LinkTable → Type 0
AnswersOver old folders files = AnswersBy (IsOver (machine_of old.harts) folders files) old

-- a hart whose next turn this is made its call in each of those runs, and this came of it
abbrev pub AnswersDue : LinkTable → List (List ℕ) → Option (List File) → ℕ → Due → Answered → LinkTable → Type 0
AnswersDue old folders files h d came new =
    (w : Setting) → IsOver (machine_of old.harts) folders files w → AnswersTurn w old.events new.events new.made h d came
