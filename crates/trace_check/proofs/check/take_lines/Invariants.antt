use Rattle.std.proofs.Common.{◌≡◌, ◌≤◌, map, take}
use Rattle.trace_check.specs.Rows.{AreTaken}
use Rattle.trace_opens.specs.OpeningRows.Expected.{trace_run}
use Rattle.trace_check.proofs.check.take_lines.Given as goal

-- the lines so far are taken in
abbrev pub invariant-loop-index : goal.invariant-loop-index
invariant-loop-index g l = record {
  taken : AreTaken (trace_run l.fn.replay.harts l.folders (g.L.Library.files l.fn.library)) (take l.index (map (λ line. line.now) l.lines)) l.replay;
  harts : l.replay.harts ≡ l.fn.replay.harts;
  files : g.L.Library.files l.library ≡ g.L.Library.files l.fn.library;
  faults : g.L.Library.faults l.fn.library ≤ g.L.Library.faults l.library;
  misses : g.L.Library.misses l.fn.library ≤ g.L.Library.misses l.library;
}
