-- A hart whose grant is settled first takes the same turn.
use Rattle.std.specs.Prelude.{◌≡◌, ℕ, List, IsTrue}
use Rattle.history_event.specs.declared.event.Event.{Event}
use Rattle.history_state.specs.Setting.{Setting}
use Rattle.history_state.specs.State.{State}
use Rattle.hart_moves.specs.Due.{Due, due}
use Rattle.hart_moves.specs.Harts.{HartState}
use Rattle.hart_moves.specs.Moves.{Did, Moves, MovesAs, freed, settles}

-- neither its fuel nor its place is another
abbrev pub FreedIsDue : Type 0
FreedIsDue = (s : State) (b : HartState) → due s (freed b) ≡ due s b

-- a turn that settles is one of the hart as it was before
abbrev pub FreedMoves : Type 0
FreedMoves = (w : Setting) (past : List Event) (h : ℕ) (b : HartState) (d : Due) (did : Did) (c : HartState) → IsTrue (settles did)
    → MovesAs w past h (freed b) d did c → MovesAs w past h b d did c

abbrev pub FreedTakesTurns : Type 0
FreedTakesTurns = (w : Setting) (past : List Event) (h : ℕ) (b : HartState) (did : Did) (c : HartState) → IsTrue (settles did)
    → Moves w past h (freed b) did c → Moves w past h b did c
