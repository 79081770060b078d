use Rattle.std.proofs.Common.{◌≡◌, ◌-◌, ◌%◌, ◌^◌, bit_and, subst, sym, arith}
use Rattle.std.proofs.lemmas.Nat.{and_mask}
use Rattle.sym_lookup.proofs.sym_find.gnu.remainder.Goals as goal

pub returns-then-count-bits : goal.returns-then-count-bits
returns-then-count-bits c =
    let power : c.args.count ≡ 2 ^ c.ilog2-bits.result = omega (arith, c.if-count-bits.true, c.ilog2-bits.ensures.power_le, c.ranges.count.fits) in
    subst (λ m. bit_and c.args.number (m - 1) ≡ c.args.number % m) (sym power) (and_mask c.args.number c.ilog2-bits.result)
