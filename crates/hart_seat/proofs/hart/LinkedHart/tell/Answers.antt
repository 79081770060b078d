use Rattle.std.proofs.Common.{ap, ◌∙◌}
use Rattle.hart_moves.specs.Copying.{text_words}
use Rattle.hart_moves.specs.Moves.{telling}
use Rattle.hart_seat.specs.Inside.{hart_of}
use Rattle.hart_seat.specs.Table.{HartTable}
use Rattle.hart_seat.proofs.Taken.{told}
use Rattle.hart_seat.proofs.hart.LinkedHart.tell.Goals as goal

pub returns : goal.returns
returns c =
    told c.args.text c.args.message (hart_of c.self.inside) ∙ ap (λ (t : HartTable). telling c.args.text (text_words c.args.message) t.hart) c.self.view_is
