use Rattle.std.proofs.Common.{List, sym, subst}
use Rattle.history_calls.specs.Served.{AreWordsOf}
use Rattle.seg_image.specs.declared.image.Word.{Word}
use Rattle.world_memory.proofs.Remade.{all_images, image_more}
use Rattle.world_memory.proofs.memory.PlainMemory.put_images.Goals as goal

pub loop-image-preserved : goal.loop-image-preserved
loop-image-preserved c = λ s ranges are guest.
    image_more s ranges c.args.images.now c.loop-image.image-index c.image-item.result c.args.self.now c.loop-image.self c.put_words.new.self are guest c.loop-image-test.true c.image-item.is
    (λ r words. c.put_words.ensures s r (subst (λ (ws : List Word). AreWordsOf s r (record { start = c.image-item.result.start; words = ws })) (sym c.as_slice.ensures) words))
    (c.loop-image.invariant s ranges are guest)

pub returns : goal.returns
returns c = λ s ranges are guest.
    all_images s ranges c.args.images.now c.loop-image.image-index c.args.self.now c.loop-image.self are c.loop-image-test.false (c.loop-image.invariant s ranges are guest)
