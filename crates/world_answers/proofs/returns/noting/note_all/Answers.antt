use Rattle.std.proofs.Common.{◌∙◌, arith}
use Rattle.hart_seat.specs.HartParts.Views.{purpose_of}
use Rattle.world_answers.proofs.ReturnsPart.Passing.{may_note, more_passed}
use Rattle.world_answers.proofs.returns.noting.note_all.Goals as goal

pub note-requires : goal.note-requires
note-requires c =
    may_note c.args.state.now c.loop-function.state (purpose_of c.args.purpose.now) c.args.id c.args.functions.now c.loop-function.function-index c.function-item.result c.requires
    c.loop-function.invariant (omega (arith, c.loop-function-test.true)) c.function-item.is

pub loop-function-preserved : goal.loop-function-preserved
loop-function-preserved c =
    c.note.ensures
    ∙ more_passed c.args.state.now c.loop-function.state (purpose_of c.args.purpose.now) c.args.id c.args.functions.now c.loop-function.function-index c.function-item.result
    c.loop-function.invariant (omega (arith, c.loop-function-test.true)) c.function-item.is
