use Rattle.std.proofs.Common.{sym, subst}
use Rattle.hart_moves.specs.Due.{Due}
use Rattle.hart_seat.specs.HartParts.Queues.{entered_frames}
use Rattle.hart_turns.specs.Turns.{LeavesSpent, Turns}
use Rattle.hart_turns.specs.declared.turned.Turned.{Turned}
use Rattle.hart_turns.proofs.Rows.{quietly}
use Rattle.hart_turns.proofs.turns.take_turn.Goals as goal

pub returns-in-Enter : goal.returns-in-Enter
returns-in-Enter g c = λ s. (
  subst (λ (d : Due). Turns g.B.Bus.does c.args.bus.now c.args.bus.now d c.args.hart.now.hart c.enter.new.hart.hart c.enter.result) (c.in-Enter.ensures.is s)
      (quietly g.B.Bus.does c.args.bus.now (Due.enter c.in-Enter.function (entered_frames c.args.hart.now.hart.frames)) c.args.hart.now.hart c.enter.new.hart.hart c.enter.result
      c.enter.ensures.result c.enter.ensures.row),
  subst (λ (r : Turned). LeavesSpent c.args.hart.now.hart r c.enter.new.hart.hart) (sym c.enter.ensures.result) tt,
)
