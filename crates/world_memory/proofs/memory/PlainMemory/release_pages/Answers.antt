use Rattle.std.proofs.Common.{◌≡◌, ◌*◌, ◌<◌, min, refl, arith}
use Rattle.world_memory.proofs.Putting.{all_released, one_released}
use Rattle.world_memory.proofs.memory.PlainMemory.release_pages.Goals as goal

pub loop-index-preserved : goal.loop-index-preserved
loop-index-preserved c = λ guest.
    let few : c.min-index-end.result ≡ min c.args.range.pages 2048 = c.min-index-end.ensures in
    let below : c.loop-index.index < 512 * c.min-index-end.result = c.loop-index-test.true in
    one_released c.args.range c.loop-index.index _ c.args.self.now c.loop-index.self c.release_word.new.self guest (omega (arith, few, below)) c.release_word.ensures.whole refl
    c.release_word.ensures.put (c.loop-index.invariant guest)

pub returns : goal.returns
returns c = λ guest.
    all_released c.args.range c.loop-index.index c.min-index-end.result c.args.self.now c.loop-index.self guest c.min-index-end.ensures c.loop-index.auto.index-end c.loop-index-test.false
    (c.loop-index.invariant guest)
