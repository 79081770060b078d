-- A hart that waits knows what for. For the laws of Fits, and for the keeper, which answers it.
use Rattle.std.specs.Prelude.{◌≡◌, ℕ, List, ◌++◌, None}
use Rattle.ld_base.specs.declared.fault.Shown.{Shown}
use Rattle.history_event.specs.declared.event.Event.{Event}
use Rattle.history_state.specs.After.{after}
use Rattle.history_state.specs.Setting.{Setting}
use Rattle.hart_moves.specs.Due.{Due, call_of, due}
use Rattle.hart_moves.specs.Follows.{AreOthers}
use Rattle.hart_moves.specs.Harts.{HartState, Naming, Phase, Resolving}
use Rattle.hart_moves.specs.Moves.{Did, Moves, events_of, settled_resolving}
use Rattle.hart_trails.specs.Waits.{IsStillShown, WasShown}

-- an opening that waits is in no exchange, and what it waits for was shown when its call was made last
pub record HasAsked (w : Setting) (events : List Event) (h : ℕ) (b : HartState) (n : Naming) (name version : List ℕ) (for : Shown) : Type 0 where
  pub free : settled_resolving b.resolving ≡ Resolving.idle
  pub shown : WasShown w events h (λ s. call_of s b.registers n name version) for

abbrev pub HartWaits : Setting → List Event → ℕ → HartState → Type 0
HartWaits w events h b = (n : Naming) (name version : List ℕ) (for : Shown) → b.phase ≡ Phase.waiting n name version for
    → HasAsked w events h b n name version for

-- ---- what leaves it

-- events of other harts, and of nobody
abbrev pub OthersLeaveWaits : Type 0
OthersLeaveWaits = (w : Setting) (past more : List Event) (h : ℕ) (b : HartState) → AreOthers h more → HartWaits w past h b → HartWaits w (past ++ more) h b

-- a move of its own with which it goes on
abbrev pub OwnMovesLeaveWaits : Type 0
OwnMovesLeaveWaits = (w : Setting) (past : List Event) (h : ℕ) (b c : HartState) (did : Did) → Moves w past h b did c → c.«end» ≡ None
    → HartWaits w past h b → HartWaits w (past ++ events_of did) h c

-- ---- what it is for

-- where its turn is to wait, it is so still
abbrev pub WaitsAreShown : Type 0
WaitsAreShown = (w : Setting) (past : List Event) (h : ℕ) (b : HartState) (for : Shown) → HartWaits w past h b → due (after past) b ≡ Due.wait for
    → IsStillShown w past h for
