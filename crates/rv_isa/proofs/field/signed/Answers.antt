use Rattle.std.proofs.Common.{◌≡◌, ◌*◌, ◌%◌, ◌^◌, ◌<◌, arith}
use Rattle.std.proofs.lemmas.Int.{ints}
use Rattle.std.proofs.lemmas.Nat.{one_shl, pow_below}
use Rattle.rv_isa.proofs.field.signed.Goals as goal

pub overflow_sub-result : goal.overflow_sub-result
overflow_sub-result c =
    let small : 2 ^ c.args.width < 2 ^ 31 = pow_below c.args.width 31 c.requires.narrow in
    let power : 1 * 2 ^ c.args.width % 4294967296 ≡ 2 ^ c.args.width = one_shl c.args.width 32 (omega arith) in
    rw power (omega (arith, ints))
