use Rattle.hart_moves.proofs.Worked.{ends_at_role, exits, text_words_are, traps}
use Rattle.hart_moves.proofs.worked_turns.ends_are_told.Goals as goal

pub returns-clause-exits : goal.returns-clause-exits
returns-clause-exits c = exits

pub returns-clause-traps : goal.returns-clause-traps
returns-clause-traps c = traps

pub returns-clause-role : goal.returns-clause-role
returns-clause-role c = ends_at_role

pub returns-clause-text : goal.returns-clause-text
returns-clause-text c = text_words_are
