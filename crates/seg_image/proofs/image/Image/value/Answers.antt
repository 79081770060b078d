use Rattle.seg_image.proofs.Changes.{value_read}
use Rattle.seg_image.proofs.Ordered.{at_place}
use Rattle.seg_image.proofs.image.Image.value.Goals as goal

pub returns : goal.returns
returns c = λ base value is.
    let o = c.args.object.now in
    let at = at_place o c.requires.accepted c.index_of.result c.args.place c.index_of.ensures.low c.index_of.ensures.high c.requires.place.aligned in
    rw c.as_slice.ensures (value_read o base value c.args.self.now is c.index_of.result c.args.place _ c.index_of.ensures.within at)
