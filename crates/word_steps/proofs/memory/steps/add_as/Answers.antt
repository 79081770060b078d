use Rattle.std.proofs.Common.{rules}
use Rattle.word_rule.specs.Lemmas.Table.{may_add}
use Rattle.word_steps.proofs.memory.steps.add_as.Goals as goal

pub fetch_add-requires : goal.fetch_add-requires
fetch_add-requires g c = (search rules, search rules, may_add g.A.Aimed.kind _ _ _ _ _ c.requires.ready.0 c.requires.aimed.0 c.requires.aimed.1 c.requires.ready.1)
