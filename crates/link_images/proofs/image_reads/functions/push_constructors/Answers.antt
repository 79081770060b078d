use Rattle.std.proofs.Common.{ℕ, ◌++◌, List, append_assoc, ap, ◌∙◌}
use Rattle.relocator.specs.Relocated.{image_word}
use Rattle.link_images.specs.ImageReads.Reads.{entry_at, words_of}
use Rattle.link_images.proofs.ImageReads.Places.{array_low}
use Rattle.link_images.proofs.ImageReads.Records.{constructors_read}
use Rattle.link_images.proofs.image_reads.functions.push_constructors.Goals as goal

pub returns-clause-addresses : goal.returns-clause-addresses
returns-clause-addresses c = λ m is.
    let o = c.args.object.now in
    let value : ℕ → ℕ = image_word o c.args.base m.serial m.bindings m.places in
    let old : List ℕ = c.args.addresses.now.items in
    c.push_entries.ensures.addresses c.args.base value is.relocated
    ∙ ap (λ (es : List ℕ). es ++ words_of value o.init_array) c.push_single.ensures.addresses
    ∙ append_assoc old (entry_at c.args.base o.init) (words_of value o.init_array)
    ∙ ap (λ (es : List ℕ). old ++ es)
    (constructors_read m o c.args.base is.object is.base_is c.ranges.base.fits (λ s e. array_low o c.requires.accepted.image s (c.requires.accepted.init s e)))
