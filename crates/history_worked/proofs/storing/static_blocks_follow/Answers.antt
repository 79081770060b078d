use Rattle.history_worked.proofs.Stored.{not_later, not_unaligned, static_legal}
use Rattle.history_worked.proofs.storing.static_blocks_follow.Goals as goal

pub returns-clause-least : goal.returns-clause-least
returns-clause-least c = static_legal

pub returns-clause-not_unaligned : goal.returns-clause-not_unaligned
returns-clause-not_unaligned c = not_unaligned c.one_answer.ensures.openings

pub returns-clause-not_later : goal.returns-clause-not_later
returns-clause-not_later c = not_later c.one_answer.ensures.openings
