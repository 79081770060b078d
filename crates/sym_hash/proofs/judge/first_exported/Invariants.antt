use Rattle.std.proofs.Common.{false}
use Rattle.sym_hash.proofs.Following.{NoneLost}
use Rattle.sym_hash.proofs.judge.first_exported.Given as goal

abbrev pub invariant-loop-index : goal.invariant-loop-index
invariant-loop-index l = NoneLost (λ i. false) l.symbols l.first l.index
