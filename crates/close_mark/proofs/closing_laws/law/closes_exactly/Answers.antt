use Rattle.close_mark.proofs.ClosingLaws.Both.{closes_exactly}
use Rattle.close_mark.proofs.closing_laws.law.closes_exactly.Goals as goal

pub returns : goal.returns
returns c = closes_exactly
