use Rattle.ld_base.proofs.Taken.{pick_is_taken}
use Rattle.ld_base.proofs.law.one_pick.Goals as goal

pub returns : goal.returns
returns c = record { taken = pick_is_taken }
