use Rattle.std.proofs.Common.{arith}
use Rattle.ld_base.proofs.Bits.{none_marked}
use Rattle.ld_base.proofs.carriers.Carriers.none.Goals as goal

pub returns : goal.returns
returns c = λ k below. none_marked 512 k (omega arith)
