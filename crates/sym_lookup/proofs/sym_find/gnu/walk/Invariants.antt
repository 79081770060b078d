use Rattle.std.proofs.Common.{◌+◌}
use Rattle.sym_hash.specs.Reached.{GoesOn}
use Rattle.sym_lookup.specs.SymFind.Best.{Knows}
use Rattle.sym_lookup.specs.SymFind.Walks.{Met}
use Rattle.sym_lookup.proofs.sym_find.gnu.walk.Given as goal

-- the chain goes on so far, and its symbols so far are known
abbrev pub invariant-loop-passed : goal.invariant-loop-passed
invariant-loop-passed l = record {
  goes : GoesOn l.gnu (l.gnu.symoffset + l.first) (l.gnu.symoffset + l.first + l.passed);
  knows : Knows l.search (Met l.gnu l.hash (l.gnu.symoffset + l.first) (l.gnu.symoffset + l.first + l.passed)) l.best;
}
