use Rattle.word_rule.specs.Lemmas.Joining.{made_keeps, note_keeps}
use Rattle.word_rule.proofs.law.made_seats_keep.Goals as goal

pub returns-clause-hart : goal.returns-clause-hart
returns-clause-hart c = made_keeps

pub returns-clause-note : goal.returns-clause-note
returns-clause-note c = note_keeps
