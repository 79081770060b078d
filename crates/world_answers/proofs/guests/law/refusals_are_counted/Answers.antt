use Rattle.world_answers.proofs.GuestsPart.Counted.{turn_counted}
use Rattle.world_answers.proofs.guests.law.refusals_are_counted.Goals as goal

pub returns : goal.returns
returns c = turn_counted
