use Rattle.ld_base.proofs.Bits.{marked_at}
use Rattle.std.proofs.Common.{arith}
use Rattle.ld_base.proofs.carriers.Carriers.set.Goals as goal

pub returns-then-at-lt-WORDS : goal.returns-then-at-lt-WORDS
returns-then-at-lt-WORDS c =
    λ k below. marked_at c.self.inside.words c.args.self.now c.from-at.result c.args.index c.with_bit.result k c.args.has c.self.view_is c.from-at.ensures (omega arith) c.with_bit.ensures
