use Rattle.std.proofs.Common.{◌<◌, length, sym, arith}
use Rattle.link_open_plan.proofs.object_places.wanted.push_objects.Goals as goal

pub object-requires : goal.object-requires
object-requires c =
    let lt : c.loop-object.object-index < length c.args.added.now = omega arith in
    c.requires c.object-item.result (c.loop-object.object-index, lt, sym c.object-item.is)
