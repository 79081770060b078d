use Rattle.std.proofs.lemmas.Option.{slice_get-get_or}
use Rattle.word_installs.proofs.Putting.{all_slots, next_slot, slots_more}
use Rattle.word_installs.proofs.installing.put_slots.Goals as goal

pub put_slot-requires : goal.put_slot-requires
put_slot-requires g c =
    next_slot c.args.images.now c.args.slots.now c.args.keeper.now c.requires c.loop-slot.slot-index _ c.loop-slot.keeper
    (slice_get-get_or c.args.slots.now c.loop-slot.slot-index _ c.loop-slot-test.true) c.loop-slot.invariant

pub loop-slot-preserved : goal.loop-slot-preserved
loop-slot-preserved g c =
    slots_more c.args.images.now c.args.slots.now c.args.keeper.now c.requires c.loop-slot.slot-index _ c.loop-slot.keeper c.put_slot.new.keeper
    (slice_get-get_or c.args.slots.now c.loop-slot.slot-index _ c.loop-slot-test.true) c.loop-slot.invariant c.put_slot.ensures

pub returns : goal.returns
returns g c = all_slots c.loop-slot.slot-index c.args.images.now c.args.slots.now c.args.keeper.now c.loop-slot.keeper c.loop-slot-test.false c.loop-slot.invariant
