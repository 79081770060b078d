use Rattle.sym_hash.specs.Follow.{arrives}
use Rattle.sym_hash.proofs.Following.{NoneLost}
use Rattle.sym_hash.proofs.sysv.first_lost.Given as goal

abbrev pub invariant-loop-index : goal.invariant-loop-index
invariant-loop-index l = NoneLost (arrives l.arrived) l.symbols l.first l.index
