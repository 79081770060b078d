use Rattle.std.proofs.Common.{◌≡◌, ◌+◌, ◌*◌, ◌%◌, arith}
use Rattle.seg_image.specs.Pages.{low_of}
use Rattle.link_images.proofs.ImageReads.Places.{low_aligned, word_read}
use Rattle.link_images.proofs.image_reads.bytes.word_at.Goals as goal

pub returns : goal.returns
returns c = λ base value is.
    let o = c.args.object.now in
    let low : low_of o % 4096 ≡ 0 = low_aligned o in
    let at : low_of o + 8 * c.index_of.result ≡ c.args.address = omega (arith, low, c.index_of.ensures.low, c.index_of.ensures.high, c.requires.aligned) in
    rw c.as_slice.ensures (word_read o base value c.args.image.now is c.index_of.result c.args.address _ c.index_of.ensures.within at)
