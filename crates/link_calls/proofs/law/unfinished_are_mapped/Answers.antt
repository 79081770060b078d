use Rattle.link_calls.proofs.Unfinished.{unfinished_stay}
use Rattle.link_calls.proofs.law.unfinished_are_mapped.Goals as goal

pub returns : goal.returns
returns c = unfinished_stay c.uninitialised_stay.ensures.stay
