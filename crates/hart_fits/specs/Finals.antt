-- The first hart in the final destructors, where no other hart runs. For the loop of that hart, and for the keeper, which serves it.
use Rattle.std.specs.Prelude.{◌≡◌, ℕ, ◌≤◌, ◌<◌, List, ◌++◌, length, take, None}
use Rattle.history_event.specs.declared.event.Event.{Event}
use Rattle.rv_hart.specs.Registers.{Registers}
use Rattle.history_state.specs.After.{after}
use Rattle.history_state.specs.Legal.{Lawful}
use Rattle.history_state.specs.Setting.{Setting}
use Rattle.hart_moves.specs.Follows.{BeginsFinals}
use Rattle.hart_moves.specs.Harts.{HartState}
use Rattle.hart_moves.specs.Moves.{Did, Moves, events_of}
use Rattle.hart_trails.specs.Owners.{AreNobodys}
use Rattle.hart_fits.specs.Fits.{HartFits, IsInFinals}

-- no hart has ended twice
abbrev pub EndsOnce : Setting → List Event → Type 0
EndsOnce w journal = length (after journal).endings ≤ w.machine.harts

-- a move of its own with which it goes on
abbrev pub OwnMovesLeaveFinals : Type 0
OwnMovesLeaveFinals = (w : Setting) (past : List Event) (b c : HartState) (did : Did) → Lawful w.machine past → Moves w past 0 b did c → c.«end» ≡ None
    → IsInFinals w past 0 b → IsInFinals w (past ++ events_of did) 0 c

-- events of nobody: they settle grants
abbrev pub NobodysLeaveFinals : Type 0
NobodysLeaveFinals = (w : Setting) (past more : List Event) (h : ℕ) (b : HartState) → AreNobodys more → IsInFinals w past h b
    → IsInFinals w (past ++ more) h b

-- it fits where they begin
abbrev pub FinalsBeginFit : Type 0
FinalsBeginFit = (w : Setting) (journal : List Event) (registers : Registers) (from : ℕ) (ended : HartState) (at : ℕ) (begun : HartState)
    → BeginsFinals w journal registers from ended at begun → EndsOnce w (take at journal) → 0 < w.machine.harts → HartFits w (take at journal) 0 begun

-- ---- before them and in them

-- a move with which the hart goes on leaves it fit
abbrev pub OwnMovesFit : Type 0
OwnMovesFit = (w : Setting) (past : List Event) (h : ℕ) (b c : HartState) (did : Did) → Lawful w.machine past → Moves w past h b did c → b.«end» ≡ None
    → c.«end» ≡ None → HartFits w past h b → HartFits w (past ++ events_of did) h c
