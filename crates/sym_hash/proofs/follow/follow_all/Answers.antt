use Rattle.std.proofs.Common.{◌≡◌, ◌∙◌, arith}
use Rattle.std.proofs.lemmas.Result.{IfOk-weaker}
use Rattle.std.proofs.lemmas.Simd.{map-map}
use Rattle.sym_hash.proofs.Following.{carry, double}
use Rattle.sym_hash.proofs.follow.follow_all.Goals as goal

pub loop-bit-preserved : goal.loop-bit-preserved
loop-bit-preserved c =
    let l = c.loop-bit.invariant in
    let gone = rw (c.deref-in-loop-bit.ensures.value, c.deref.ensures.value) at c.in_ok-walks-2.ensures in
    record {
      trips = double _ _ _ _ l.trips (omega arith) (rw c.deref-in-loop-bit-2.ensures.value at c.in_ok-trips-2.ensures);
      walks = carry _ _ _ _ _ _ l.trips (omega arith) l.walks gone;
    }

pub returns : goal.returns
returns c =
    let all : c.loop-bit.bit ≡ 32 = omega arith in
    let walked = rw (c.loop-bit.invariant.walks, all) at c.deref-2.ensures.value in
    IfOk-weaker c.trips_of.result _ _ (λ trips is. is ∙ rw walked (map-map _ _ c.args.starts.now)) c.trips_of.ensures
