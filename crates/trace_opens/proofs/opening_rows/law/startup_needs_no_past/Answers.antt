use Rattle.history_state.specs.After.{after, after_from}
use Rattle.trace_opens.proofs.OpeningRows.Begun.{starts_behind}
use Rattle.trace_opens.proofs.opening_rows.law.startup_needs_no_past.Goals as goal

pub returns : goal.returns
unfolding after_from
returns c = λ m w past hart ask answer lawful is. starts_behind w (after past) hart ask answer is (c.nothing_comes_before_startup.ensures m past lawful is)
