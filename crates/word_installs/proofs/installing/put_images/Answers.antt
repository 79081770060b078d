use Rattle.std.proofs.Common.{List, Some, sym, ap, subst, ◌∙◌}
use Rattle.std.proofs.lemmas.Option.{slice_get-get_or}
use Rattle.seg_image.specs.declared.image.Image.{Image}
use Rattle.seg_image.specs.declared.image.Word.{Word}
use Rattle.word_installs.specs.Installed.{MayPutWords, OfWords, Puts}
use Rattle.word_installs.proofs.Putting.{all_images, images_more, next_image}
use Rattle.word_installs.proofs.installing.put_images.Goals as goal

pub put_words-requires : goal.put_words-requires
put_words-requires g c =
    subst (λ (ws : List Word). MayPutWords c.loop-image.keeper c.image-item.result.start ws) (sym c.as_slice.ensures)
    (next_image c.args.images.now c.args.keeper.now c.requires c.loop-image.image-index c.image-item.result c.loop-image.keeper
    (slice_get-get_or c.args.images.now c.loop-image.image-index c.image-item.result c.loop-image-test.true ∙ ap (λ (x : Image). Some x) (sym c.image-item.is)) c.loop-image.invariant)

pub loop-image-preserved : goal.loop-image-preserved
loop-image-preserved g c =
    images_more c.args.images.now c.args.keeper.now c.requires c.loop-image.image-index c.image-item.result c.loop-image.keeper c.put_words.new.keeper
    (slice_get-get_or c.args.images.now c.loop-image.image-index c.image-item.result c.loop-image-test.true ∙ ap (λ (x : Image). Some x) (sym c.image-item.is)) c.loop-image.invariant
    (subst (λ (ws : List Word). Puts (OfWords c.image-item.result.start ws) c.loop-image.keeper c.put_words.new.keeper) c.as_slice.ensures c.put_words.ensures)

pub returns : goal.returns
returns g c = all_images c.loop-image.image-index c.args.images.now c.args.keeper.now c.loop-image.keeper c.loop-image-test.false c.loop-image.invariant
