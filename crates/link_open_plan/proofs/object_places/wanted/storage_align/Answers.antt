use Rattle.std.proofs.Common.{arith}
use Rattle.link_open_plan.proofs.ObjectPlaces.Given.{align_more}
use Rattle.link_open_plan.proofs.object_places.wanted.storage_align.Goals as goal

pub loop-object-preserved : goal.loop-object-preserved
loop-object-preserved c = record {
  is = align_more c.args.added.now c.loop-object.object-index c.object-item.result c.loop-object.align c.max-align.result c.align_asked.result c.loop-object-test.true c.object-item.is c.loop-object.invariant.is
      c.align_asked.ensures c.max-align.ensures;
  some = omega (arith, c.loop-object.invariant.some, c.max-align.ensures);
}
