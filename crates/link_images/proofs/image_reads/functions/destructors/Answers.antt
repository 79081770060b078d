use Rattle.std.proofs.Common.{◌≡◌, ℕ, ◌++◌, List, reverse, ap, ◌∙◌}
use Rattle.relocator.specs.Relocated.{image_word}
use Rattle.link_images.specs.ImageReads.Reads.{entry_at, words_of}
use Rattle.link_images.proofs.ImageReads.Places.{array_low}
use Rattle.link_images.proofs.ImageReads.Records.{destructors_read}
use Rattle.link_images.proofs.image_reads.functions.destructors.Goals as goal

pub returns : goal.returns
returns c = λ m is.
    let o = c.args.object.now in
    let value : ℕ → ℕ = image_word o c.args.base m.serial m.bindings m.places in
    let words : c.push_entries.new.addresses.items ≡ words_of value o.fini_array =
    c.push_entries.ensures.addresses c.args.base value is.relocated ∙ ap (λ (es : List ℕ). es ++ words_of value o.fini_array) c.in_ok-addresses.ensures.items in
    c.from.ensures ∙ c.push_single.ensures.addresses
    ∙ ap (λ (es : List ℕ). es ++ entry_at c.args.base o.fini) (c.reverse.ensures.items ∙ ap reverse words)
    ∙ destructors_read m o c.args.base is.object is.base_is c.ranges.base.fits (λ s e. array_low o c.requires.accepted.image s (c.requires.accepted.fini s e))
