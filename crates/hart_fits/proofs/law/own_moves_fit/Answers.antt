use Rattle.hart_fits.proofs.Finals.{own_moves_fit}
use Rattle.hart_fits.proofs.law.own_moves_fit.Goals as goal

pub returns : goal.returns
returns c = own_moves_fit c.harts_fit.ensures.own c.finals_fit.ensures.own c.turns_keep_writes.ensures.turns
