use Rattle.std.proofs.Common.{◌≡◌, ◌≤◌}
use Rattle.world_answers.specs.GuestsPart.Counting.{IsCounted, counts_at}
use Rattle.world_turns.specs.Run.{Repeats}
use Rattle.world_turns.specs.World.{World}
use Rattle.plain_world.specs.Playing.{InEachRun}
use Rattle.plain_world.specs.Table.{moved}
use Rattle.plain_world.proofs.run.repeat.Given as goal

-- what comes of the turns that are left, comes of all from the start on
abbrev pub invariant-loop-left : goal.invariant-loop-left
invariant-loop-left g l = record {
  rest : l.run ≡ moved l.fn.run l.run.world;
  goes : InEachRun l.fn.run (g.L.Library.files l.fn.library)
      (λ w. (new : World) → Repeats w l.fn.item.hart l.left l.run.world new → Repeats w l.fn.item.hart l.fn.item.count l.fn.run.world new);
  counts : IsCounted l.fn.run.folders l.fn.run.world l.run.world (counts_at g.L.Library.faults g.L.Library.misses l.fn.library)
      (counts_at g.L.Library.faults g.L.Library.misses l.library);
  files : g.L.Library.files l.library ≡ g.L.Library.files l.fn.library;
  faults : g.L.Library.faults l.fn.library ≤ g.L.Library.faults l.library;
  misses : g.L.Library.misses l.fn.library ≤ g.L.Library.misses l.library;
}

abbrev pub decreases-loop-left : goal.decreases-loop-left
decreases-loop-left g l = l.left
