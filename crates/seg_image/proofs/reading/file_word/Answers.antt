use Rattle.std.proofs.Common.{◌≡◌, Some, None, sym, ◌∙◌}
use Rattle.seg_image.specs.Pages.{segment_at}
use Rattle.seg_image.proofs.FileWords.{file_word_in, file_word_none}
use Rattle.seg_image.proofs.reading.file_word.Goals as goal

pub returns-in-Some : goal.returns-in-Some
returns-in-Some c =
    let here : segment_at c.args.object.now c.args.address ≡ Some c.in-Some.segment.now = sym c.in-Some.ensures.segment in
    c.segment_word.ensures ∙ sym (file_word_in c.args.object.now c.args.address c.in-Some.segment.now c.requires.aligned here)

pub returns-in-None : goal.returns-in-None
returns-in-None c =
    let none : segment_at c.args.object.now c.args.address ≡ None = sym c.in-None.ensures.segment in
    sym (file_word_none c.args.object.now c.args.address c.requires.aligned none)
