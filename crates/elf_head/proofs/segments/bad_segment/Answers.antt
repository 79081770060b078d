use Rattle.std.proofs.Common.{sym, take, arith}
use Rattle.std.proofs.lemmas.Grind.{common_steps}
use Rattle.elf_head.proofs.Passing.{bad_here, good_here}
use Rattle.elf_head.proofs.segments.bad_segment.Goals as goal

pub returns-in-None : goal.returns-in-None
returns-in-None c = sym (bad_here _ _ _ _ c.loop-index-test.true c.loop-index.invariant.none (c.in-None.ensures _ c.loop-index.invariant.passed))

pub loop-index-preserved : goal.loop-index-preserved
loop-index-preserved c =
    let good = c.in-Some.ensures (take c.loop-index.index c.args.headers.now) c.loop-index.invariant.passed in
    grind (arith, common_steps, good_here)
