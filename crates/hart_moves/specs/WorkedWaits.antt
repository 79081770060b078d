-- Worked turns of a hart that waits for another's object.
use Rattle.std.specs.Prelude.{◌≡◌, List, [], ◌∷◌, codes}
use Rattle.ld_base.specs.declared.fault.Shown.TheVariants.{Initialising}
use Rattle.history_event.specs.declared.event.Event.{Event}
use Rattle.history_event.specs.declared.event.Event.TheVariants.{Init}
use Rattle.rv_hart.specs.declared.bus.Item.{Item}
use Rattle.history_state.specs.After.{after}
use Rattle.history_state.specs.Race as race
use Rattle.history_state.specs.Setting.{Setting}
use Rattle.history_calls.specs.Waiting.{Shows}
use Rattle.hart_moves.specs.Due.{call_of, due}
use Rattle.hart_moves.specs.Harts.{HartState, Naming, Phase}
use Rattle.hart_moves.specs.Moves.{Did, Moves, spent}
use Rattle.hart_moves.specs.Worked.{hart_at, with_two}

-- ---- an opening of libo.so, which is the object 2

abbrev pub opener_at : Phase → HartState
opener_at phase = record (hart_at 0x80f010 (with_two 10 0x20000 11 1)) { phase = phase }

abbrev pub asks : HartState
asks = opener_at (Phase.named Naming.dlopen (codes "libo.so") [])

abbrev pub awaits : HartState
awaits = opener_at (Phase.waiting Naming.dlopen (codes "libo.so") [] (Initialising 2))

-- ---- the first turn

-- an opening that comes to an object which another hart starts keeps what it waits for
abbrev pub BeginsToWait : (w : Setting) → List Event → Type 0
BeginsToWait w past = Shows w (after past) 1 (call_of (after past) asks.registers Naming.dlopen (codes "libo.so") []) (Initialising 2)
    → Moves w past 1 asks (Did.waits (Initialising 2)) (spent awaits)

-- ---- while hart 0 runs the constructors of the object

abbrev pub starting : List Event
starting = race.startup ∷ race.opens_libo ∷ []

-- hart 1 gets the same answer, and stays as it is but for the turn that counts
abbrev pub WaitsOn : Type 0
WaitsOn = Moves race.setting starting 1 awaits (Did.waits (Initialising 2)) (spent awaits)

-- its call isn't made
abbrev pub AsksNothing : Type 0
AsksNothing = (items : List Item) (events : List Event) (c : HartState) → Moves race.setting starting 1 awaits (Did.serves items events) c → ⊥

-- ---- behind them

abbrev pub started : List Event
started = race.startup ∷ race.opens_libo ∷ Init 0 2 ∷ []

-- the call is made, as by a hart that hasn't waited
abbrev pub AsksAgain : Type 0
AsksAgain = due (after started) awaits ≡ due (after started) asks
