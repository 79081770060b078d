use Rattle.std.proofs.Common.{◌<◌, length, sym, arith}
use Rattle.link_open_images.proofs.slots.slots_of.Goals as goal

pub push_slots-requires : goal.push_slots-requires
push_slots-requires c =
    let lt : c.loop-object.object-index < length c.args.objects.now = omega arith in
    c.requires c.object-item.result (c.loop-object.object-index, lt, sym c.object-item.is)
