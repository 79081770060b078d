use Rattle.std.proofs.Common.{◌+◌, ◌%◌, ◌^◌, [], ap, get_or, take, refl}
use Rattle.seg_image.specs.Words.{file_word}
use Rattle.relocator.specs.Relocated.{over, packed_at}
use Rattle.relocator.proofs.Layers.{image_same, packed_step}
use Rattle.relocator.proofs.relocating.move_packed.Goals as goal

pub loop-place-init : goal.loop-place-init
unfolding packed_at
loop-place-init c =
    image_same c.args.object.now c.args.base (file_word c.args.object.now) (over (packed_at c.args.object.now c.args.base []) (file_word c.args.object.now)) c.args.image.now
    c.requires.image (λ v _. refl)

pub loop-place-preserved : goal.loop-place-preserved
loop-place-preserved c =
    let o = c.args.object.now in
    let n = c.loop-place.place-index in
    let value = over (packed_at o c.args.base (take n o.relr)) (file_word o) in
    let same = c.as_slice-place-items.ensures in
    let read = c.value.ensures c.args.base value c.loop-place.invariant in
    packed_step o c.requires.accepted c.args.base n _ _ c.set_value.new.self (rw (← same) c.loop-place-test.true) (ap (λ xs. get_or xs n 0) same)
    (ap (λ w. (w + c.args.base) % 2 ^ 64) read) (c.set_value.ensures.set c.args.base value c.loop-place.invariant)
