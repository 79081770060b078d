use Rattle.world_answers.proofs.GuestsPart.GuestWorlds.Parts.{quiet_turns, service_turns}
use Rattle.world_answers.proofs.guests.guest_worlds.law.guests_take_turns.Goals as goal

pub returns-clause-quiet : goal.returns-clause-quiet
returns-clause-quiet c = quiet_turns

pub returns-clause-service : goal.returns-clause-service
returns-clause-service c = service_turns
