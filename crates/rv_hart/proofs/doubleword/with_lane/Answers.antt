use Rattle.std.proofs.Common.{◌≡◌, ◌+◌, ◌-◌, ◌*◌, ◌%◌, ◌^◌, ◌<◌, ◌≤◌, sym, subst, arith}
use Rattle.std.proofs.lemmas.Nat.{one_shl}
use Rattle.rv_isa.specs.Word.{bits}
use Rattle.rv_hart.specs.Doublewords.{with_lane}
use Rattle.rv_hart.proofs.Lanes.{replaced, lane_inside}
use Rattle.rv_hart.proofs.doubleword.with_lane.Goals as goal

pub returns-then-size-eq8 : goal.returns-then-size-eq8
unfolding with_lane bits
returns-then-size-eq8 c =
    let eight : c.args.size ≡ 8 = c.if-size-eq8.true in
    let whole : c.args.address % 8 ≡ 0 = subst (λ n. c.args.address % n ≡ 0) eight c.requires.aligned in
    rw (eight, whole) (omega arith)

pub returns : goal.returns
unfolding with_lane
returns c =
    let low = 8 * (c.args.address % 8) in
    let width = 8 * c.args.size in
    let inside : low + width ≤ 64 = lane_inside c.args.address c.args.size c.requires.size c.requires.aligned in
    let narrow : c.args.size ≡ c.from-width.result = sym c.from-width.ensures in
    let one : 1 * 2 ^ low % 18446744073709551616 ≡ 2 ^ low = one_shl low 64 (omega arith) in
    let sum : ((64 - (low + width)) + width) + low ≡ 64 = omega arith in
    let fits : c.args.word < 2 ^ (((64 - (low + width)) + width) + low) = subst (λ n. c.args.word < 2 ^ n) (sym sum) (omega arith) in
    rw (one, ← narrow) (replaced c.args.word low width (64 - (low + width)) c.args.value fits sum c.requires.value)
