use Rattle.std.proofs.Common.{refl}
use Rattle.std.proofs.lemmas.Option.{slice_get-get_or}
use Rattle.world_memory.proofs.Putting.{all_reserved, one_reserved}
use Rattle.world_memory.proofs.memory.PlainMemory.put_words.Goals as goal

pub loop-index-preserved : goal.loop-index-preserved
loop-index-preserved c = λ s r are guest.
    one_reserved s r c.args.start c.args.words.now c.loop-index.index _ _ c.args.self.now c.loop-index.self c.put_word.new.self are guest c.loop-index-test.true
    (slice_get-get_or c.args.words.now c.loop-index.index _ c.loop-index-test.true) c.put_word.ensures.whole refl c.put_word.ensures.put (c.loop-index.invariant s r are guest)

pub returns : goal.returns
returns c = λ s r are guest.
    all_reserved s r c.args.start c.args.words.now c.loop-index.index c.args.self.now c.loop-index.self are c.loop-index.auto.index-end c.loop-index-test.false (c.loop-index.invariant s r are guest)
