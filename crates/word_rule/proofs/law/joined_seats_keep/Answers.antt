use Rattle.word_rule.specs.Lemmas.Joining.{join_keeps}
use Rattle.word_rule.proofs.law.joined_seats_keep.Goals as goal

pub returns : goal.returns
returns c = join_keeps
