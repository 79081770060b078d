use Rattle.std.proofs.Common.{sym, arith}
use Rattle.std.proofs.Math.Nat.{div-eq_of_lt}
use Rattle.std.proofs.Math.Pow.{pow_mono}
use Rattle.sym_hash.proofs.gnu.shifted.Goals as goal

pub returns-else-shift-lt-BITS : goal.returns-else-shift-lt-BITS
returns-else-shift-lt-BITS c = sym (div-eq_of_lt (omega (arith, pow_mono {i = 32} {j = c.args.shift} c.if-shift-lt-BITS.false)))
