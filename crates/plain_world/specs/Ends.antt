-- How the harts of a run have ended.
use Rattle.std.specs.Prelude.{◌≡◌, List, map, Some}
use Rattle.history_event.specs.declared.hart_end.HartEnd.{HartEnd}
use Rattle.hart_moves.specs.Harts.{HartState}

-- each has, as these say in their order
abbrev pub AreEndsOf : List HartState → List HartEnd → Type 0
AreEndsOf harts ends = map (λ b. b.«end») harts ≡ map Some ends
