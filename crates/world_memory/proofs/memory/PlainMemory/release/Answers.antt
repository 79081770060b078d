use Rattle.world_memory.proofs.Remade.{range_more}
use Rattle.world_memory.proofs.memory.PlainMemory.release.Goals as goal

pub loop-range-preserved : goal.loop-range-preserved
loop-range-preserved c = λ guest.
    range_more c.args.ranges.now c.loop-range.range-index c.range-item.result c.args.self.now c.loop-range.self c.release_pages.new.self guest c.loop-range-test.true c.range-item.is
    c.release_pages.ensures (c.loop-range.invariant guest)
