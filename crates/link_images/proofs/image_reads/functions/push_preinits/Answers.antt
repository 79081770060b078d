use Rattle.std.proofs.Common.{ℕ, ◌++◌, List, ap, ◌∙◌}
use Rattle.relocator.specs.Relocated.{image_word}
use Rattle.link_images.proofs.ImageReads.Places.{array_low}
use Rattle.link_images.proofs.ImageReads.Records.{preinits_read}
use Rattle.link_images.proofs.image_reads.functions.push_preinits.Goals as goal

pub returns-clause-addresses : goal.returns-clause-addresses
returns-clause-addresses c = λ m is.
    let o = c.args.object.now in
    c.push_entries.ensures.addresses c.args.base (image_word o c.args.base m.serial m.bindings m.places) is.relocated
    ∙ ap (λ (es : List ℕ). c.args.addresses.now.items ++ es)
    (preinits_read m o c.args.base is.object is.base_is c.ranges.base.fits (λ s e. array_low o c.requires.accepted.image s (c.requires.accepted.preinit s e)))
