use Rattle.world_answers.proofs.ReturnsPart.FinalTurns.Passing.{next_follows}
use Rattle.world_answers.proofs.returns.final_turns.turn.finalise.Goals as goal

pub finalised-requires : goal.finalised-requires
finalised-requires c =
    next_follows c.args.state.now c.loop-object.state c.args.hart c.args.objects.now c.loop-object.object-index c.object-item.result c.requires c.loop-object.invariant
    c.loop-object-test.true c.object-item.is
