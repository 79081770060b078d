use Rattle.std.proofs.Common.{◌<◌, length, arith}
use Rattle.history_state.specs.Step.{dying_object}
use Rattle.history_state.specs.Lemmas.InPlace.{changed_more}
use Rattle.link_spaces.proofs.dying.make_all_dying.Goals as goal

pub loop-object-preserved : goal.loop-object-preserved
loop-object-preserved c =
    let lt : c.loop-object.object-index < length c.args.objects.now = omega arith in
    changed_more (dying_object c.args.hart c.args.set.now) c.args.objects.now c.loop-object.objects c.loop-object.object-index c.make_object_dying.new.object c.object-item.result lt c.loop-object.invariant c.make_object_dying.ensures
