use Rattle.hart_fits.specs.Lemmas.Waits.{others_leave_waits, own_moves_leave_waits, waits_are_shown}
use Rattle.hart_fits.proofs.law.waits_stay.Goals as goal

pub returns-clause-others : goal.returns-clause-others
returns-clause-others c = others_leave_waits

pub returns-clause-own : goal.returns-clause-own
returns-clause-own c = own_moves_leave_waits

pub returns-clause-shown : goal.returns-clause-shown
returns-clause-shown c = waits_are_shown
