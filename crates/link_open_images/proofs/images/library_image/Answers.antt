use Rattle.std.proofs.Common.{List, sym, subst}
use Rattle.relocator.specs.declared.binding.Binding.{Binding}
use Rattle.link_open_images.specs.Relocated.{MayRelocate}
use Rattle.link_open_images.specs.Lemmas.Libraries.{no_sources}
use Rattle.link_open_images.proofs.images.library_image.Goals as goal

pub relocated-requires-clause-may : goal.relocated-requires-clause-may
relocated-requires-clause-may c =
    subst (λ (bs : List Binding). MayRelocate c.args.object.now bs c.args.places.now) (sym (no_sources c.args.indexed.now c.args.now c.args.places.now c.args.object.now)) c.requires.may
