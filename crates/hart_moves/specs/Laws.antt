-- What holds of every turn of a hart.
use Rattle.std.specs.Prelude.{◌≡◌, ◌⊎◌, ℕ, ◌+◌, List, ◌++◌, Contains, Some}
use Rattle.history_event.specs.declared.event.Event.{Event}
use Rattle.history_event.specs.declared.hart_end.HartEnd.{HartEnd}
use Rattle.history_event.specs.declared.hart_end.HartEnd.TheVariants.{FuelOut}
use Rattle.history_state.specs.Legal.{Legal}
use Rattle.history_state.specs.Setting.{Setting}
use Rattle.history_calls.specs.Laws.{hart_of}
use Rattle.hart_moves.specs.Follows.{Follows, Turned}
use Rattle.hart_moves.specs.Harts.{HartState}
use Rattle.hart_moves.specs.Moves.{Did, Moves, events_of}

-- what a hart did settles where it is left: its registers, its place and its frames
abbrev pub OneHart : Type 0
OneHart = (w : Setting) (past : List Event) (h : ℕ) (b c other : HartState) (did : Did) → Moves w past h b did c → Moves w past h b did other → c ≡ other

-- a history that is legal before a turn is legal with the turn's events
abbrev pub TurnsLegal : Type 0
TurnsLegal = (w : Setting) (past : List Event) (h : ℕ) (b c : HartState) (did : Did) → Legal w past → Moves w past h b did c → Legal w (past ++ events_of did)

-- which are the hart's own
abbrev pub TurnsAreOwn : Type 0
TurnsAreOwn = (w : Setting) (past : List Event) (h : ℕ) (b c : HartState) (did : Did) → Moves w past h b did c
    → (e : Event) → Contains (events_of did) e → hart_of e ≡ Some h

-- the hart ends for its fuel, without a turn more
pub record RunsOut (b c : HartState) : Type 0 where
  pub turns : c.turns ≡ b.turns
  pub ends : c.«end» ≡ Some FuelOut

-- each turn counts, and no turn changes how many there may be
abbrev pub TurnsCount : Type 0
TurnsCount = (w : Setting) (past : List Event) (h : ℕ) (b c : HartState) (did : Did) → Moves w past h b did c
    → (c.fuel ≡ b.fuel) × ((c.turns ≡ b.turns + 1) ⊎ RunsOut b c)

-- a hart that has ended takes no turn
abbrev pub EndedStays : Type 0
EndedStays = (w : Setting) (past : List Event) (h : ℕ) (b c : HartState) (did : Did) (reason : HartEnd) → b.«end» ≡ Some reason → Moves w past h b did c → ⊥

-- what a hart did, turn after turn, settles where it ends, and at which moment
abbrev pub OneEnd : Type 0
OneEnd = (w : Setting) (journal : List Event) (h from to at : ℕ) (b c other : HartState) (turns : List Turned) → Follows w journal h from b turns to c
    → Follows w journal h from b turns at other → (to ≡ at) × (c ≡ other)
