use Rattle.std.proofs.Common.{slice_index}
use Rattle.sym_hash.specs.Gnu.{gnu_leads}
use Rattle.sym_hash.specs.Hashed.{EndsBelow}
use Rattle.sym_hash.proofs.Following.{NoneLost}
use Rattle.sym_hash.proofs.gnu.first_lost.Given as goal

-- no symbol so far is missed, and so the ends stand before this one
abbrev pub invariant-loop-index : goal.invariant-loop-index
invariant-loop-index l = record {
  none : NoneLost (λ i. gnu_leads l.gnu (slice_index l.hashes i) i) l.symbols l.first l.index;
  ends : EndsBelow l.gnu l.index l.ended;
}
