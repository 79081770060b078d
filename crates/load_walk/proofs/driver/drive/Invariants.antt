use Rattle.std.proofs.Common.{◌≡◌}
use Rattle.load_walk.specs.Staging.{Stage, source_of}
use Rattle.load_walk.proofs.driver.drive.Given as goal

-- the load has come so far, among the objects that are there
abbrev pub invariant-loop : goal.invariant-loop
invariant-loop g l = record {
  stage : Stage (g.F.Format.verdict l.format) l.ask l.ns.objects (source_of g.L.Library.files g.L.Library.faults g.L.Library.misses l.fn.library) (source_of g.L.Library.files g.L.Library.faults g.L.Library.misses l.library) l.walker;
  there : l.there ≡ l.ns.objects;
}
