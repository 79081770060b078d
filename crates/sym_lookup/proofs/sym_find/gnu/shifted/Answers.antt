use Rattle.std.proofs.Common.{◌≤◌, ◌^◌, sym, arith}
use Rattle.std.proofs.Math.Nat.{div-eq_of_lt}
use Rattle.std.proofs.Math.Pow.{pow_mono}
use Rattle.sym_lookup.proofs.sym_find.gnu.shifted.Goals as goal

pub returns-else-shift-lt-BITS : goal.returns-else-shift-lt-BITS
returns-else-shift-lt-BITS c =
    let wide : 2 ^ 32 ≤ 2 ^ c.args.shift = pow_mono c.if-shift-lt-BITS.false in
    sym (div-eq_of_lt (omega (arith, wide)))
