use Rattle.hart_moves.proofs.WorkedCalls.{copies_no_version, copies_some, ends_at_pair, reads_nothing, stores_first, stores_last, writes_some}
use Rattle.hart_moves.proofs.worked_turns.memory_is_passed.Goals as goal

pub returns-clause-unread : goal.returns-clause-unread
returns-clause-unread c = reads_nothing

pub returns-clause-copied : goal.returns-clause-copied
returns-clause-copied c = copies_some

pub returns-clause-written : goal.returns-clause-written
returns-clause-written c = writes_some

pub returns-clause-no_version : goal.returns-clause-no_version
returns-clause-no_version c = copies_no_version

pub returns-clause-pair : goal.returns-clause-pair
returns-clause-pair c = ends_at_pair

pub returns-clause-stores : goal.returns-clause-stores
returns-clause-stores c = stores_first

pub returns-clause-stores_last : goal.returns-clause-stores_last
returns-clause-stores_last c = stores_last
