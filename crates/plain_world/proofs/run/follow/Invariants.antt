use Rattle.std.proofs.Common.{◌≡◌, ◌≤◌, drop}
use Rattle.world_answers.specs.GuestsPart.Counting.{IsCounted, counts_at}
use Rattle.world_turns.specs.Run.{TakesItems}
use Rattle.world_turns.specs.World.{World}
use Rattle.plain_world.specs.Playing.{InEachRun}
use Rattle.plain_world.specs.Table.{moved}
use Rattle.plain_world.proofs.run.follow.Given as goal

-- what comes of the items that are left, comes of all from the start on
abbrev pub invariant-loop-item : goal.invariant-loop-item
invariant-loop-item g l = record {
  rest : l.run ≡ moved l.fn.run l.run.world;
  goes : InEachRun l.fn.run (g.L.Library.files l.fn.library)
      (λ w. (new : World) → TakesItems w (drop l.item-index l.items) l.run.world new → TakesItems w l.items l.fn.run.world new);
  counts : IsCounted l.fn.run.folders l.fn.run.world l.run.world (counts_at g.L.Library.faults g.L.Library.misses l.fn.library)
      (counts_at g.L.Library.faults g.L.Library.misses l.library);
  files : g.L.Library.files l.library ≡ g.L.Library.files l.fn.library;
  faults : g.L.Library.faults l.fn.library ≤ g.L.Library.faults l.library;
  misses : g.L.Library.misses l.fn.library ≤ g.L.Library.misses l.library;
}
