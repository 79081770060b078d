use Rattle.std.proofs.Common.{arith}
use Rattle.seg_image.proofs.Changes.{word_changed}
use Rattle.seg_image.proofs.Ordered.{at_place}
use Rattle.seg_image.proofs.image.Image.set_value.Goals as goal

pub returns-clause-set : goal.returns-clause-set
returns-clause-set c = λ base value is.
    let o = c.args.object.now in
    let at = at_place o c.requires.accepted c.index_of.result c.args.place c.index_of.ensures.low c.index_of.ensures.high c.requires.place.aligned in
    word_changed o base value c.args.self.now is c.set_value.new.self c.index_of.result c.args.word c.args.place
    c.set_value.ensures c.index_of.ensures.within at (omega arith)
