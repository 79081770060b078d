-- Turns that ask nothing of the linker, and what they come to.
use Rattle.std.specs.Prelude.{◌≡◌, ℕ, Bool, true, false, List, [], ◌∷◌, Option, Some, None, Result}
use Rattle.std.specs.List.{list_any}
use Rattle.history_event.specs.declared.event.Event.{Event}
use Rattle.history_event.specs.declared.event.Event.TheVariants.{Ended}
use Rattle.history_state.specs.After.{after}
use Rattle.history_state.specs.Allowed.{MayEnd}
use Rattle.history_state.specs.Setting.{Setting}
use Rattle.rv_hart.specs.Registers.{Registers}
use Rattle.rv_hart.specs.Trail.{Chain, IsStep, place_after}
use Rattle.rv_hart.specs.declared.bus.Item.{Item}
use Rattle.rv_hart.specs.declared.stepping.Stop.{Stop}
use Rattle.hart_moves.specs.Copying.{Copy}
use Rattle.hart_moves.specs.Due.{Due}
use Rattle.hart_moves.specs.Harts.{HartState}
use Rattle.hart_moves.specs.Moves.{Did, MovesAs, Trap, ended, is_store, spent}
use Rattle.hart_turns.specs.declared.trap.Trap.{Trap as code_trap}
use Rattle.hart_turns.specs.declared.trap.Trap.TheVariants as trap
use Rattle.hart_turns.specs.declared.turned.Turned.{Turned}
use Rattle.hart_turns.specs.declared.turned.Turned.TheVariants.{Over, Again, Ends}

-- an ecall, as the definition has it
abbrev pub trap_in : code_trap → Trap
trap_in (trap.Exits code) = Trap.exits code
trap_in (trap.Gives value) = Trap.gives value
trap_in trap.Writes = Trap.writes

-- whether a byte that can't be read is one to be written
abbrev pub is_text : Copy → Bool
is_text (Copy.of_name n) = false
is_text (Copy.of_version name) = false
is_text Copy.of_pair = false
is_text (Copy.of_text count) = true

-- a row of the table of turns, to which a turn with these calls of the bus came: it is over; or it is but for the end of its hart, which whoever
-- keeps the journal appends
abbrev pub TurnsTo : (Did → HartState → Type 0) → Setting → List Event → ℕ → List Item → Turned → HartState → Type 0
TurnsTo Row w past h items Over c = Row (Did.quiet items) c
TurnsTo Row w past h items (Again shown) c = Row (Did.quiet items) c
TurnsTo Row w past h items (Ends reason) c = MayEnd w (after past) h → Row (Did.serves items (Ended h reason ∷ [])) (ended reason c)

-- a hart that is to end has its turn counted, and nothing else has changed
abbrev pub LeavesSpent : HartState → Turned → HartState → Type 0
LeavesSpent b Over c = Unit {0}
LeavesSpent b (Again shown) c = Unit {0}
LeavesSpent b (Ends reason) c = c ≡ spent b

-- a hart, whose next turn this is, took it over a bus, after whatever history
pub record Turns {B : Type 0} (does : B → Item → B → Type 0) (bus bus' : B) (d : Due) (b c : HartState) (result : Turned) : Type 0 where
  pub items : List Item
  pub chain : Chain does bus items bus'
  pub turn : (w : Setting) (past : List Event) (h : ℕ) → TurnsTo (MovesAs w past h b d) w past h items result c

-- a step, and whether it asked the bus to store something
pub record Watches {B T : Type 0} (does : B → Item → B → Type 0) (bus bus' : B) (r r' : Registers) (result : Result T Stop) (asked : Bool) : Type 0 where
  pub items : List Item
  pub chain : Chain does bus items bus'
  pub step : IsStep r items (place_after r' result)
  pub stores : asked ≡ list_any is_store items

-- a turn of these kinds needs neither the linker nor a slot
abbrev pub is_own : Due → Bool
is_own Due.nothing = false
is_own (Due.exchange o) = false
is_own (Due.finish o found) = false
is_own Due.fuel_out = false
is_own Due.instruction = true
is_own (Due.copy copy start bytes) = true
is_own (Due.serve call back) = false
is_own (Due.wait for) = false
is_own (Due.store text stored word more) = true
is_own (Due.enter function frames) = true
is_own (Due.complete purpose object rest below) = false
is_own (Due.finalise code object) = false

-- the turn was taken, if it is one of these; else nothing was done
abbrev pub TakesOwn : {B : Type 0} → (B → Item → B → Type 0) → B → B → Due → HartState → HartState → Option Turned → Type 0
TakesOwn does bus bus' d b c (Some result) = Turns does bus bus' d b c result × LeavesSpent b result c
TakesOwn does bus bus' d b c None = (is_own d ≡ false) × (bus' ≡ bus) × (c ≡ b)
