use Rattle.word_rule.specs.Lemmas.Steps.{hart_keeps}
use Rattle.word_rule.proofs.law.hart_steps_keep.Goals as goal

pub returns : goal.returns
returns c = hart_keeps
