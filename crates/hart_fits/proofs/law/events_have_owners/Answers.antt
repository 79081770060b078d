use Rattle.hart_fits.specs.Lemmas.Owners.{owners_end, start_has_owners}
use Rattle.hart_fits.proofs.law.events_have_owners.Goals as goal

pub returns-clause-ends : goal.returns-clause-ends
returns-clause-ends c = owners_end

pub returns-clause-start : goal.returns-clause-start
returns-clause-start c = start_has_owners
