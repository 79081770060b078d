-- What holds of the events of every turn.
use Rattle.std.specs.Prelude.{◌≡◌, ℕ, true, false, List, None}
use Rattle.history_event.specs.declared.event.Event.{Event}
use Rattle.history_state.specs.Setting.{Setting}
use Rattle.hart_moves.specs.Harts.{HartState}
use Rattle.hart_moves.specs.Moves.{Did, Moves}
use Rattle.hart_moves.specs.TurnEvents.Appends.{Appends, has_finals}

-- each turn appends events that neither unmap nor end, one unmapping, or its hart's end behind such events; or it ends the hart without an
-- event, by the last of the final destructors
abbrev pub TurnsAppend : Type 0
TurnsAppend = (w : Setting) (past : List Event) (h : ℕ) (b c : HartState) (did : Did) → Moves w past h b did c → Appends past h b did c

-- no turn begins the final destructors
abbrev pub FinalsStayAway : Type 0
FinalsStayAway = (w : Setting) (past : List Event) (h : ℕ) (b c : HartState) (did : Did) → Moves w past h b did c → has_finals b.frames ≡ false
    → has_finals c.frames ≡ false

-- nor does one leave them, but with its hart's end
abbrev pub FinalsStay : Type 0
FinalsStay = (w : Setting) (past : List Event) (h : ℕ) (b c : HartState) (did : Did) → Moves w past h b did c → has_finals b.frames ≡ true → c.«end» ≡ None
    → has_finals c.frames ≡ true
