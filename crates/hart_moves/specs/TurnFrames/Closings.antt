-- How a dlclose returns: with 0 at once where nothing goes, and else behind the unmapping of all that goes.
use Rattle.std.specs.Prelude.{◌≡◌, ℕ, List, [], ◌∷◌, ◌++◌, Contains, IsTrue}
use Rattle.ld_base.specs.declared.linking.Role.TheVariants.{None as NoRole}
use Rattle.history_event.specs.declared.event.CloseAnswer.TheVariants as closings
use Rattle.history_event.specs.declared.event.Event.{Event}
use Rattle.history_event.specs.declared.event.Event.TheVariants.{Close, Unmapped}
use Rattle.history_event.specs.declared.event.Range.{Range}
use Rattle.history_event.specs.declared.handed.Function.{Function}
use Rattle.history_state.specs.Accepted.{AcceptsOnly}
use Rattle.history_state.specs.After.{after}
use Rattle.history_state.specs.Changes.{taken}
use Rattle.history_state.specs.Legal.{Lawful}
use Rattle.history_state.specs.Memory.{covers, role_at}
use Rattle.history_state.specs.Setting.{Machine, Setting}
use Rattle.history_calls.specs.Answer.{returns}
use Rattle.history_calls.specs.Call.{closes, unmaps}
use Rattle.history_calls.specs.Functions.{left}
use Rattle.history_calls.specs.Gives.{Gives}
use Rattle.hart_moves.specs.Harts.{Frame, HartState, Purpose}
use Rattle.hart_moves.specs.Moves.{Did, Moves, Passes, events_of}
use Rattle.hart_moves.specs.Registers.{next_function, returned}

-- the destructors of a closing that are left to run
abbrev pub closing_frame : (to : ℕ) → List ℕ → List Function → Frame
closing_frame to set queue = record { purpose = Purpose.of_closing to set; queue = queue }

-- all have run
abbrev pub emptied : (to : ℕ) → List ℕ → Frame
emptied to set = closing_frame to set []

-- a dlclose that gives its value at once gives 0, and nothing dies by it
abbrev pub ClosesAtOnce : Type 0
ClosesAtOnce = (w : Setting) (past given : List Event) (h handle value : ℕ) → Gives w past h (closes handle) given (returns value)
    → (value ≡ 0) × (given ≡ Close h handle (closings.Done []) ∷ [])

-- where its destructors have run the hart comes to the linker's function that unmaps, and nothing is returned yet
abbrev pub UnmapsNext : Type 0
UnmapsNext = (w : Setting) (past before : List Event) (h to : ℕ) (b c : HartState) (did : Did) (set : List ℕ) (functions : List Function) (below : List Frame)
    → Passes w past h b (Purpose.of_closing to set) before functions below did c → left functions ≡ []
    → (c.frames ≡ emptied to set ∷ below) × (c.registers.pc ≡ next_function)

-- a closing goes from the frames with its unmapping alone, and by that the dlclose returns 0 to where it was called
abbrev pub ReturnsBehind : Type 0
ReturnsBehind = (w : Setting) (past : List Event) (h to : ℕ) (b c : HartState) (did : Did) (set : List ℕ) (queue : List Function) (below : List Frame)
    → Moves w past h b did c → b.frames ≡ closing_frame to set queue ∷ below → c.frames ≡ below
    → (events_of did ≡ Unmapped h set ∷ []) × (c.registers ≡ returned to 0 b.registers)

-- and no word of what was unmapped has a role then
abbrev pub UnmapsAll : Type 0
UnmapsAll = (m : Machine) (w : Setting) (past given : List Event) (h value : ℕ) (set : List ℕ) → w.machine ≡ m → AcceptsOnly m → Lawful m past
    → Gives w past h (unmaps set) given (returns value)
    → (value ≡ 0) × (given ≡ Unmapped h set ∷ [])
    × ((r : Range) (a : ℕ) → Contains (taken (after past) (Unmapped h set)) r → IsTrue (covers a r) → role_at (after (past ++ given)) a ≡ NoRole)
