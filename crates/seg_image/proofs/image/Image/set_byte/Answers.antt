use Rattle.std.proofs.Common.{◌+◌, ◌*◌, ◌∙◌, ap, arith, refl}
use Rattle.std.specs.Int.{w64, to_le_bytes}
use Rattle.seg_image.specs.Pages.{low_of}
use Rattle.seg_image.specs.Words.{word_of}
use Rattle.seg_image.proofs.Changes.{byte_set, value_read}
use Rattle.seg_image.proofs.Ordered.{all_pages}
use Rattle.seg_image.proofs.image.Image.set_byte.Goals as goal

pub returns-clause-set : goal.returns-clause-set
returns-clause-set c = λ base bytes are is.
    let o = c.args.object.now in
    let k = c.index_of-index.result in
    let v = low_of o + 8 * k in
    let pages = all_pages o c.requires.accepted in
    let read = rw c.as_slice.ensures at c.to_le_bytes-bytes.ensures in
    let word = value_read o base (word_of bytes) c.args.self.now is k v _ c.index_of-index.ensures.within refl in
    byte_set o base bytes c.args.self.now is are c.to_le_bytes-bytes.result c.set_value.new.self k c.from_le_bytes.result c.args.address c.args.byte
    c.index_of-index.ensures.within (omega arith) c.index_of-index.ensures.low c.index_of-index.ensures.high
    (read ∙ ap (to_le_bytes w64) word) c.from_le_bytes.ensures (omega arith) c.set_value.ensures
