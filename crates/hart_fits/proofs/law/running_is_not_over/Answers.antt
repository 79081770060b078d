use Rattle.hart_fits.proofs.Over.{running_is_not_over, unexited_is_not_over}
use Rattle.hart_fits.proofs.law.running_is_not_over.Goals as goal

pub returns-clause-runs : goal.returns-clause-runs
returns-clause-runs c = running_is_not_over

pub returns-clause-ended : goal.returns-clause-ended
returns-clause-ended c = unexited_is_not_over
