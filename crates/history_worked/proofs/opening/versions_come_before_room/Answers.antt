use Rattle.history_worked.proofs.Opened.{not_room, version_legal}
use Rattle.history_worked.proofs.opening.versions_come_before_room.Goals as goal

pub returns-clause-version : goal.returns-clause-version
returns-clause-version c = version_legal

pub returns-clause-not_room : goal.returns-clause-not_room
returns-clause-not_room c = not_room c.one_answer.ensures.openings
