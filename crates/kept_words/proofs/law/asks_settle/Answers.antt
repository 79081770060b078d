use Rattle.kept_words.proofs.Asking.{asked_kept}
use Rattle.kept_words.proofs.law.asks_settle.Goals as goal

pub returns : goal.returns
returns c = asked_kept c.fates_settle.ensures.won c.fates_settle.ensures.lost
