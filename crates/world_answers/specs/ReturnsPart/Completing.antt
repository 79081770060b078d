-- The turn in which the functions of an object have run.
use Rattle.std.specs.Prelude.{ℕ, Bool, true, false, List, ◌∷◌, map}
use Rattle.history_event.specs.declared.event.Event.{Event}
use Rattle.history_calls.specs.Functions.{passed}
use Rattle.hart_moves.specs.Due.{Due}
use Rattle.hart_moves.specs.Moves.{passing}
use Rattle.world_memory.specs.TurnAnswers.Following.{MayFollowAll}

-- it is this turn. Those of the final destructors are another's
abbrev pub is_complete : Due → Bool
is_complete Due.nothing = false
is_complete (Due.exchange o) = false
is_complete (Due.finish o found) = false
is_complete Due.fuel_out = false
is_complete Due.instruction = false
is_complete (Due.copy copy start bytes) = false
is_complete (Due.serve call back) = false
is_complete (Due.wait for) = false
is_complete (Due.store text stored word more) = false
is_complete (Due.enter function frames) = false
is_complete (Due.complete purpose object rest below) = true
is_complete (Due.finalise code object) = false

-- the object may pass, and those behind it that have no functions
abbrev pub MayPass : ℕ → List Event → ℕ → Due → Type 0
MayPass harts past h Due.nothing = Unit {0}
MayPass harts past h (Due.exchange o) = Unit {0}
MayPass harts past h (Due.finish o found) = Unit {0}
MayPass harts past h Due.fuel_out = Unit {0}
MayPass harts past h Due.instruction = Unit {0}
MayPass harts past h (Due.copy copy start bytes) = Unit {0}
MayPass harts past h (Due.serve call back) = Unit {0}
MayPass harts past h (Due.wait for) = Unit {0}
MayPass harts past h (Due.store text stored word more) = Unit {0}
MayPass harts past h (Due.enter function frames) = Unit {0}
MayPass harts past h (Due.complete purpose object rest below) = MayFollowAll harts past (map (passing purpose h) (object ∷ passed rest))
MayPass harts past h (Due.finalise code object) = Unit {0}
