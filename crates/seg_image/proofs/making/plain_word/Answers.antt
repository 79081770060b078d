use Rattle.std.proofs.Common.{◌≡◌, Some, None, arith}
use Rattle.std.proofs.lemmas.Bool.{le-leb, lt-leb}
use Rattle.seg_image.specs.Pages.{segment_at, start_of}
use Rattle.seg_image.specs.Plain.{plain_word}
use Rattle.seg_image.proofs.FileWords.{file_word_in, file_word_none}
use Rattle.seg_image.proofs.making.plain_word.Goals as goal

pub returns-then-address-start_of : goal.returns-then-address-start_of
unfolding plain_word
returns-then-address-start_of c =
    let low = lt-leb (start_of c.args.segment.now) c.args.address (omega arith) in
    let none : segment_at c.args.object.now c.args.address ≡ None = rw low at c.requires.here in
    rw (none, file_word_none c.args.object.now c.args.address c.requires.aligned none)

pub returns : goal.returns
unfolding plain_word
returns c =
    let from = le-leb (start_of c.args.segment.now) c.args.address (omega arith) in
    let here : segment_at c.args.object.now c.args.address ≡ Some c.args.segment.now = rw from at c.requires.here in
    rw (here, file_word_in c.args.object.now c.args.address c.args.segment.now c.requires.aligned here, c.segment_word.ensures, c.segment_role.ensures)
