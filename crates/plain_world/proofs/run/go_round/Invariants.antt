use Rattle.std.proofs.Common.{◌≡◌, ◌≤◌, ◌-◌, length}
use Rattle.std.specs.List.{range_with_len}
use Rattle.world_answers.specs.GuestsPart.Counting.{IsCounted, counts_at}
use Rattle.world_turns.specs.Run.{Rounds, all_harts}
use Rattle.world_turns.specs.World.{World}
use Rattle.plain_world.specs.Playing.{InEachRun}
use Rattle.plain_world.specs.Table.{moved}
use Rattle.plain_world.proofs.run.go_round.Given as goal

-- what comes of the harts that are left, comes of all from the start on
abbrev pub invariant-loop-number : goal.invariant-loop-number
invariant-loop-number g l = record {
  rest : l.run ≡ moved l.fn.run l.run.world;
  goes : InEachRun l.fn.run (g.L.Library.files l.fn.library)
      (λ w. (new : World) → Rounds w (range_with_len l.number (length l.fn.run.world.harts - l.number)) l.run.world new → Rounds w (all_harts l.fn.run.world) l.fn.run.world new);
  counts : IsCounted l.fn.run.folders l.fn.run.world l.run.world (counts_at g.L.Library.faults g.L.Library.misses l.fn.library)
      (counts_at g.L.Library.faults g.L.Library.misses l.library);
  files : g.L.Library.files l.library ≡ g.L.Library.files l.fn.library;
  faults : g.L.Library.faults l.fn.library ≤ g.L.Library.faults l.library;
  misses : g.L.Library.misses l.fn.library ≤ g.L.Library.misses l.library;
}
