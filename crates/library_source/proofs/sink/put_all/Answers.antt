use Rattle.std.proofs.Common.{◌≡◌, ◌<◌, [], length, arith}
use Rattle.std.proofs.lemmas.List.{take_rest, nil_from_length}
use Rattle.std.proofs.lemmas.Result.{err_from_is_err_and}
use Rattle.library_source.specs.Writing.{all, more, stuck, stops}
use Rattle.library_source.proofs.Fronts.{takes_more}
use Rattle.library_source.proofs.sink.put_all.Goals as goal

pub loop-rest-preserved : goal.loop-rest-preserved
loop-rest-preserved g c = record {
  writes = λ answer after puts.
      let some : 0 < length c.loop-rest.rest.now = grind arith in
      let one : 0 < c.in_ok-taken.taken = grind arith in
      c.loop-rest.invariant.writes answer after (more c.in_ok-taken.taken some one c.in_ok-taken.ensures.writes (rw take_rest at puts));
  front = rw take_rest (takes_more _ _ _ _ _ _ c.loop-rest.invariant.front c.in_ok-taken.ensures.takes);
  faults = omega arith;
}

pub returns-in_err-taken-clause-writes : goal.returns-in_err-taken-clause-writes
returns-in_err-taken-clause-writes g c =
    let p = err_from_is_err_and c.from_residual.result c.from_residual.ensures.1 in
    let some : 0 < length c.loop-rest.rest.now = grind arith in
    rw (p.1, p.2) (c.loop-rest.invariant.writes _ _ (stops c.in_err-taken.field-0.0 some c.in_err-taken.ensures.writes))

pub returns-then-taken-eq0-clause-writes : goal.returns-then-taken-eq0-clause-writes
returns-then-taken-eq0-clause-writes g c =
    let some : 0 < length c.loop-rest.rest.now = grind arith in
    c.loop-rest.invariant.writes _ _ (stuck some (rw c.if-taken-eq0.true at c.in_ok-taken.ensures.writes))

pub returns-clause-writes : goal.returns-clause-writes
returns-clause-writes g c = c.loop-rest.invariant.writes _ _ (let none : c.loop-rest.rest.now ≡ [] = nil_from_length c.loop-rest.rest.now (grind arith) in rw none all)
