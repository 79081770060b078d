use Rattle.std.proofs.Common.{Some, ap, sym, ◌∙◌}
use Rattle.std.proofs.lemmas.Option.{slice_get-get_or}
use Rattle.seg_image.specs.declared.image.Image.{Image}
use Rattle.word_installs.proofs.Putting.{not_there}
use Rattle.word_installs.proofs.installing.word_at.Goals as goal

pub loop-image-preserved : goal.loop-image-preserved
loop-image-preserved c =
    not_there c.args.images.now c.loop-image.image-index c.image-item.result c.args.address
    (slice_get-get_or c.args.images.now c.loop-image.image-index c.image-item.result c.loop-image-test.true ∙ ap (λ (x : Image). Some x) (sym c.image-item.is))
    c.loop-image.invariant c.in_default.ensures.none
