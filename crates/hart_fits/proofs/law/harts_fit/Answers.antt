use Rattle.hart_fits.proofs.Fits.{fits_may_end, others_leave_hart, own_moves_leave_hart}
use Rattle.hart_fits.proofs.Starts.{start_fits}
use Rattle.hart_fits.proofs.law.harts_fit.Goals as goal

pub returns-clause-start : goal.returns-clause-start
returns-clause-start c = start_fits c.constructors_follow.ensures.begins

pub returns-clause-others : goal.returns-clause-others
returns-clause-others c = others_leave_hart c.others_leave_frames.ensures c.running_is_not_over.ensures.runs

pub returns-clause-own : goal.returns-clause-own
returns-clause-own c = own_moves_leave_hart c.own_moves_keep.ensures c.turns_append.ensures.events c.turns_append.ensures.no_finals

pub returns-clause-may_end : goal.returns-clause-may_end
returns-clause-may_end c = fits_may_end
