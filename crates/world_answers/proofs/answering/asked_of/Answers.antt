use Rattle.std.proofs.Common.{sym}
use Rattle.hart_moves.specs.Due.{due}
use Rattle.hart_moves.specs.Waiting.{is_still}
use Rattle.hart_seat.specs.HartParts.Views.{back_of, call_in}
use Rattle.history_state.specs.After.{after}
use Rattle.world_answers.proofs.Waits.{asks_not, asks_then}
use Rattle.world_answers.proofs.answering.asked_of.Goals as goal

pub returns-then-is_still : goal.returns-then-is_still
returns-then-is_still c = record {
  asked = tt;
  none =
      asks_not (is_still (after c.args.state.now.events) c.in-Wait.shown) c.in-Wait.shown (call_in (after c.args.state.now.events) c.in-Wait.asked)
      (back_of c.args.hart.now.hart c.in-Wait.asked) (due (after c.args.state.now.events) c.args.hart.now.hart)
      (c.in-Wait.ensures.is (after c.args.state.now.events)) (sym c.if-is_still.ensures);
}

pub returns-else-is_still : goal.returns-else-is_still
returns-else-is_still c = record {
  none = tt;
  asked =
      asks_then (is_still (after c.args.state.now.events) c.in-Wait.shown) c.in-Wait.shown (call_in (after c.args.state.now.events) c.in-Wait.asked)
      (back_of c.args.hart.now.hart c.in-Wait.asked) (due (after c.args.state.now.events) c.args.hart.now.hart)
      (c.in-Wait.ensures.is (after c.args.state.now.events)) (sym c.if-is_still.ensures);
}
