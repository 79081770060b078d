use Rattle.std.proofs.Common.{◌≡◌, map, take}
use Rattle.hart_moves.specs.Starting.{starting_hart}
use Rattle.world_answers.specs.ReturnsPart.Settling.{harts_in}
use Rattle.plain_world.proofs.starting.harts_at.Given as goal

-- those of the entries so far
abbrev pub invariant-loop-entry : goal.invariant-loop-entry
invariant-loop-entry l = harts_in l.harts.items ≡ map (starting_hart l.fuel) (take l.entry-index l.entries)
