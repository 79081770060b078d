use Rattle.kept_words.proofs.Handed.{answered_stays, counted_stays, handed_stays, issued_stays, posted_handed_stays, tail_has_none}
use Rattle.kept_words.proofs.law.entries_are_events.Goals as goal

pub returns-clause-counted : goal.returns-clause-counted
returns-clause-counted c = counted_stays

pub returns-clause-handed : goal.returns-clause-handed
returns-clause-handed c = handed_stays

pub returns-clause-posted : goal.returns-clause-posted
returns-clause-posted c = posted_handed_stays

pub returns-clause-answered : goal.returns-clause-answered
returns-clause-answered c = answered_stays

pub returns-clause-issued : goal.returns-clause-issued
returns-clause-issued c = issued_stays

pub returns-clause-tail : goal.returns-clause-tail
returns-clause-tail c = tail_has_none
