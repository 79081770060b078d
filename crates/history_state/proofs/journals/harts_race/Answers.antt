use Rattle.history_state.specs.Lemmas.Raced.{closed_legal, first_not_granted, owner_stays, race_legal, race_whole}
use Rattle.history_state.proofs.journals.harts_race.Goals as goal

pub returns-clause-legal : goal.returns-clause-legal
returns-clause-legal c = race_legal

pub returns-clause-whole : goal.returns-clause-whole
returns-clause-whole c = race_whole

pub returns-clause-granted_the_first : goal.returns-clause-granted_the_first
returns-clause-granted_the_first c = first_not_granted

pub returns-clause-closed : goal.returns-clause-closed
returns-clause-closed c = closed_legal

pub returns-clause-owner_dies : goal.returns-clause-owner_dies
returns-clause-owner_dies c = owner_stays
