use Rattle.std.proofs.Common.{◌<◌, ◌≤◌, ◌++◌, [], ◌∷◌, length, length-append, refl, ap, ◌∙◌, arith}
use Rattle.link_keeper.proofs.Rest.{all_passed, left_more, left_some, passes_more, passes_none}
use Rattle.link_keeper.proofs.passing.pass_rest.Goals as goal

pub loop-index-init : goal.loop-index-init
loop-index-init g c = record { place = c.requires.first; passing = c.requires.passing; own = []; before = refl; passed = passes_none c.args.keeper.now c.args.seat.now }

pub pass_one-requires-clause-left : goal.pass_one-requires-clause-left
pass_one-requires-clause-left g c =
    let below : c.loop-index.index < length c.as_slice-index-end.result.now = c.loop-index-test.true in
    let count = ap length (c.as_slice-index-end.ensures ∙ c.journal.ensures.events) in
    omega (arith, below, count)

pub loop-index-preserved : goal.loop-index-preserved
loop-index-preserved g c =
    let below : c.loop-index.index < length c.as_slice-index-end.result.now = c.loop-index-test.true in
    let count = ap length (c.as_slice-index-end.ensures ∙ c.journal.ensures.events) in
    let low : c.loop-index.index < length c.args.state.now.events = omega (arith, below, count) in
    let at = left_some g.J.RunNaming.setting g.J.RunNaming.journal c.args.state.now c.loop-index.keeper c.loop-index.seat c.args.id c.loop-index.index c.loop-index.invariant.passing c.loop-index.invariant.place low in
    let passed = c.pass_one.ensures.passed at.0 at.1 at.2 in
    record {
      place = let grew = ap length passed.events ∙ length-append c.loop-index.keeper.events (at.0 ∷ []) in let place = c.loop-index.invariant.place in omega (arith, grew, place);
      passing = c.pass_one.ensures.passing;
      own = c.loop-index.invariant.own ++ at.0 ∷ [];
      before = left_more g.J.RunNaming.setting g.J.RunNaming.journal c.args.state.now c.args.keeper.now c.loop-index.keeper c.pass_one.new.keeper c.loop-index.seat c.pass_one.new.seat c.args.id
          c.loop-index.invariant.own at.0 at.1 c.loop-index.invariant.passing c.loop-index.invariant.before at.2 passed;
      passed = passes_more c.loop-index.invariant.own (at.0 ∷ []) c.args.keeper.now c.loop-index.keeper c.pass_one.new.keeper c.args.seat.now c.loop-index.seat c.pass_one.new.seat c.loop-index.invariant.passed passed;
    }

pub returns-clause-passed : goal.returns-clause-passed
returns-clause-passed g c =
    let over : length c.as_slice-index-end.result.now ≤ c.loop-index.index = c.loop-index-test.false in
    let count = ap length (c.as_slice-index-end.ensures ∙ c.journal.ensures.events) in
    let place = c.loop-index.invariant.place in
    all_passed g.J.RunNaming.setting g.J.RunNaming.journal c.args.state.now c.args.keeper.now c.loop-index.keeper c.args.seat.now c.loop-index.seat c.args.id c.loop-index.invariant.own c.loop-index.invariant.passing
    c.loop-index.invariant.before (omega (arith, over, count, place)) c.loop-index.invariant.passed
