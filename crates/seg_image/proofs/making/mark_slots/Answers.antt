use Rattle.std.proofs.Common.{◌≡◌, ◌+◌, ◌*◌, ◌<◌, ◌∙◌, length, arith, get_or}
use Rattle.seg_image.specs.Pages.{low_of}
use Rattle.seg_image.proofs.Marks.{no_reloc, slot_marked}
use Rattle.seg_image.proofs.Ordered.{at_place}
use Rattle.seg_image.proofs.Steps.{length-with_role}
use Rattle.seg_image.proofs.making.mark_slots.Goals as goal

pub loop-slot-preserved : goal.loop-slot-preserved
loop-slot-preserved c =
    let o = c.args.object.now in
    let n = c.loop-slot.slot-index in
    let k = c.index_of.result in
    let same = c.as_slice-slot-items.ensures in
    let within : n < length o.plt_relocs = rw (← same) c.loop-slot-test.true in
    let low = rw same at c.index_of.ensures.low in
    let high = rw same at c.index_of.ensures.high in
    let slot = c.requires.accepted.slots n no_reloc within in
    let place : low_of o + 8 * k ≡ (get_or o.plt_relocs n no_reloc).place = at_place o c.requires.accepted k _ low high slot.aligned in
    let inside : k < length c.loop-slot.words = (let all = c.loop-slot.invariant.0 in let count = c.requires.all in let less = c.index_of.ensures.within in omega arith) in
    rw c.set_role.ensures (
      length-with_role c.loop-slot.words k _ ∙ c.loop-slot.invariant.0,
      λ word are. slot_marked (low_of o) word c.loop-slot.words o.plt_relocs n k no_reloc within place inside (c.loop-slot.invariant.1 word are),
    )
