use Rattle.link_open_images.specs.Lemmas.Libraries.{relocates}
use Rattle.relocator.specs.Storage.{first_without_offset}
use Rattle.link_open_images.proofs.images.image_of.Goals as goal

pub returns : goal.returns
returns c =
    relocates c.relocate.result _ (first_without_offset c.args.object.now.object c.args.object.now.serial c.args.bindings.now c.args.places.now) c.relocate.ensures.image c.relocate.ensures.refused
    c.requires.offsets
