use Rattle.std.proofs.Common.{◌≡◌, ◌-◌, ◌∙◌, [], ap, length, drop, take, refl, arith, length-drop, subst}
use Rattle.std.proofs.lemmas.List.{take_all}
use Rattle.std.proofs.lemmas.Slice.Zip.{length-zip}
use Rattle.std.specs.List.{zip}
use Rattle.seg_image.specs.Images.{IsImage}
use Rattle.seg_image.specs.Words.{file_word}
use Rattle.relocator.specs.Bindings.{slots_of}
use Rattle.relocator.specs.Relocated.{over, packed_at, slot_at}
use Rattle.relocator.proofs.Layers.{image_same, slot_step}
use Rattle.relocator.proofs.Pairs.{reloc_read, slots_cut}
use Rattle.relocator.proofs.relocating.fill_slots.Goals as goal

pub loop-index-init : goal.loop-index-init
unfolding slot_at
loop-index-init c =
    let lower = over (packed_at c.args.object.now c.args.base c.args.object.now.relr) (file_word c.args.object.now) in
    image_same c.args.object.now c.args.base lower (over (slot_at c.args.object.now c.args.base []) lower) c.args.image.now c.requires.image (λ v _. refl)

pub loop-index-preserved : goal.loop-index-preserved
loop-index-preserved c =
    let o = c.args.object.now in
    let base = c.args.base in
    let n = c.loop-index.index in
    let lent = c.as_slice.result.now in
    let cut = take (length lent - c.len.result) (drop c.len.result lent) in
    let is_cut = slots_cut lent c.args.bindings.now c.len.result (length o.relocs) c.as_slice.ensures c.len.ensures in
    let enough : length cut ≡ length o.plt_relocs = ap length is_cut ∙ length-drop (length o.relocs) c.args.bindings.now ∙ (let count = c.requires.count in omega arith) in
    let value = over (slot_at o base (take n (zip o.plt_relocs cut))) (over (packed_at o base o.relr) (file_word o)) in
    let read = reloc_read c.as_slice-slot-items.result.now o.plt_relocs lent c.args.bindings.now c.as_slice-slot-items.ensures c.as_slice.ensures n _ c.loop-index-test.true in
    slot_step o c.requires.accepted base cut enough n c.slot_word-word.result _ c.index-bindings-index.result c.set_value.new.self read.0 read.1 c.index-bindings-index.is
    (c.slot_word-word.ensures value c.loop-index.invariant) (c.set_value.ensures.set base value c.loop-index.invariant)

pub returns : goal.returns
returns c =
    let o = c.args.object.now in
    let base = c.args.base in
    let lent = c.as_slice.result.now in
    let cut = take (length lent - c.len.result) (drop c.len.result lent) in
    let is_cut = slots_cut lent c.args.bindings.now c.len.result (length o.relocs) c.as_slice.ensures c.len.ensures in
    let long = length-zip o.plt_relocs cut in
    let same = ap length c.as_slice-slot-items.ensures in
    let past = c.loop-index-test.false in
    let all : take c.loop-index.index (zip o.plt_relocs cut) ≡ slots_of o c.args.bindings.now = take_all c.loop-index.index (zip o.plt_relocs cut) (omega arith) ∙ ap (zip o.plt_relocs) is_cut in
    subst (λ pairs. IsImage o base (over (slot_at o base pairs) (over (packed_at o base o.relr) (file_word o))) c.loop-index.image) all c.loop-index.invariant
