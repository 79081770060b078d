use Rattle.std.proofs.Common.{ap, sym, drop, ◌∙◌}
use Rattle.hart_moves.specs.Moves.{runs}
use Rattle.hart_seat.specs.Inside.{hart_of}
use Rattle.hart_seat.specs.Table.{HartTable}
use Rattle.hart_seat.proofs.Running.{completed, innermost}
use Rattle.hart_seat.proofs.hart.LinkedHart.complete.Goals as goal

pub returns-in-Some : goal.returns-in-Some
returns-in-Some c = λ purpose f rest below is.
    c.begin.ensures
    ∙ completed (hart_of c.self.inside) c.pop.new.self.items c.in-Some.queue c.pass.new.self c.args.passed purpose f rest below
    (sym (innermost c.self.inside.frames.items c.pop.new.self.items c.in-Some.queue c.in-Some.ensures.items)
    ∙ ap (λ (t : HartTable). t.hart.frames) c.self.view_is ∙ is) c.pass.ensures
    ∙ ap (λ (t : HartTable). runs purpose (drop c.args.passed rest) below t.hart) c.self.view_is
