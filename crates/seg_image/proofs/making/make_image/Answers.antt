use Rattle.std.proofs.Common.{◌+◌, ◌%◌, ◌^◌, ◌∙◌, ap}
use Rattle.seg_image.specs.Pages.{guest_address}
use Rattle.seg_image.specs.Plain.{linkers_marked, plain_word}
use Rattle.seg_image.proofs.Marks.{all_marked}
use Rattle.seg_image.proofs.making.make_image.Goals as goal

pub returns : goal.returns
unfolding guest_address
returns c =
    let o = c.args.object.now in
    let linkers = c.mark_linkers.ensures.marked (plain_word o) c.in_ok-words.ensures.plain in
    let slots = c.mark_slots.ensures.marked (linkers_marked o (plain_word o)) linkers in
    record {
      start = ap (λ low. (c.args.base + low) % 2 ^ 64) c.low_of.ensures;
      all = c.mark_slots.ensures.all ∙ c.mark_linkers.ensures.all ∙ c.in_ok-words.ensures.all;
      words = all_marked o c.requires.accepted c.mark_slots.new.words slots;
    }
