use Rattle.sym_lookup.specs.SymFind.Best.{Knows}
use Rattle.sym_lookup.specs.SymFind.Walks.{Linked}
use Rattle.sym_lookup.proofs.SymFind.SysvWalks.{Way}
use Rattle.sym_lookup.proofs.sym_find.sysv.walk.Given as goal

-- the walk has come so far, and the symbols on its way are known
abbrev pub invariant-loop-passed : goal.invariant-loop-passed
invariant-loop-passed l = record {
  way : Way l.chain l.bucket l.passed l.at;
  knows : Knows l.search (Linked l.chain l.bucket l.passed) l.best;
}
