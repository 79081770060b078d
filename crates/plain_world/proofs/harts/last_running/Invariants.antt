use Rattle.std.specs.Prelude.{◌≡◌, ◌<◌, ℕ, Some, IsTrue}
use Rattle.std.specs.List.{slice_get}
use Rattle.hart_moves.specs.Harts.{HartState}
use Rattle.world_answers.specs.ReturnsPart.Settling.{harts_in}
use Rattle.world_turns.specs.Run.{has_ended}
use Rattle.plain_world.proofs.harts.last_running.Given as goal

-- each hart up to here has ended
abbrev pub invariant-loop-index : goal.invariant-loop-index
invariant-loop-index l = (k : ℕ) (b : HartState) → k < l.index → slice_get (harts_in l.harts) k ≡ Some b → IsTrue (has_ended b)
