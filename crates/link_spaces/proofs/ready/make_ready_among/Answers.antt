use Rattle.std.proofs.Common.{◌<◌, length, arith}
use Rattle.history_state.specs.Step.{ready_object}
use Rattle.history_state.specs.Lemmas.InPlace.{changed_more}
use Rattle.link_spaces.proofs.ready.make_ready_among.Goals as goal

pub loop-object-preserved : goal.loop-object-preserved
loop-object-preserved c =
    let lt : c.loop-object.object-index < length c.args.objects.now = omega arith in
    changed_more (ready_object c.args.serial) c.args.objects.now c.loop-object.objects c.loop-object.object-index c.make_object_ready.new.object c.object-item.result lt c.loop-object.invariant
    c.make_object_ready.ensures
