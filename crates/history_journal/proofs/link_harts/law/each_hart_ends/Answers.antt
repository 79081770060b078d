use Rattle.history_journal.proofs.LinkHarts.Owed.{left_first}
use Rattle.history_journal.proofs.link_harts.law.each_hart_ends.Goals as goal

pub returns : goal.returns
returns c = left_first
