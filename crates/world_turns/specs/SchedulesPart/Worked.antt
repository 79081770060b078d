-- Worked schedules of two harts, and texts that are none.
use Rattle.std.specs.Prelude.{ℕ, List, [], ◌∷◌, codes}
use Rattle.world_turns.specs.SchedulesPart.Grammar.{SaysTurns}
use Rattle.world_turns.specs.declared.schedules.schedule.TurnItem.{TurnItem}

abbrev pub turns : ℕ → ℕ → TurnItem
turns hart count = record { hart = hart; count = count }

-- two harts race: eighteen turns of the first, 29 of the second, and two of the first
abbrev pub Race : Type 0
Race = SaysTurns 2 (codes "0*18,1*29,0*2") (turns 0 18 ∷ turns 1 29 ∷ turns 0 2 ∷ [])

abbrev pub InOrder : Type 0
InOrder = SaysTurns 1 (codes "rr") []

abbrev pub Once : Type 0
Once = SaysTurns 2 (codes "1,0") (turns 1 1 ∷ turns 0 1 ∷ [])

-- one hart: there is no second one, and a count of none is no count
abbrev pub SaysNothing : List ℕ → Type 0
SaysNothing text = (items : List TurnItem) → SaysTurns 1 text items → ⊥

abbrev pub NoHart : Type 0
NoHart = SaysNothing (codes "1*3")

abbrev pub NoTurn : Type 0
NoTurn = SaysNothing (codes "0*0")
