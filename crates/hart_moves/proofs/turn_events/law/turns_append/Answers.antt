use Rattle.hart_moves.specs.TurnEvents.Lemmas.Turning.{finals_away, finals_stay, turns_append}
use Rattle.hart_moves.proofs.turn_events.law.turns_append.Goals as goal

pub returns-clause-events : goal.returns-clause-events
returns-clause-events c = turns_append

pub returns-clause-no_finals : goal.returns-clause-no_finals
returns-clause-no_finals c = finals_away

pub returns-clause-finals : goal.returns-clause-finals
returns-clause-finals c = finals_stay
