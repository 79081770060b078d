use Rattle.hart_moves.proofs.Worked.{serves_at_once, copies_inside, copies_name, finds_no_name}
use Rattle.hart_moves.proofs.worked_turns.names_are_copied.Goals as goal

pub returns-clause-whole : goal.returns-clause-whole
returns-clause-whole c = copies_name

pub returns-clause-inside : goal.returns-clause-inside
returns-clause-inside c = copies_inside

pub returns-clause-unread : goal.returns-clause-unread
returns-clause-unread c = finds_no_name

pub returns-clause-not_at_once : goal.returns-clause-not_at_once
returns-clause-not_at_once c = serves_at_once
