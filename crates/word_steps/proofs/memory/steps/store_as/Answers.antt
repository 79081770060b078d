use Rattle.std.proofs.Common.{rules}
use Rattle.word_rule.specs.Lemmas.Table.{may_store}
use Rattle.word_steps.proofs.memory.steps.store_as.Goals as goal

pub store-requires : goal.store-requires
store-requires g c = (search rules, search rules, may_store g.A.Aimed.kind _ _ _ _ _ c.requires.ready.0 c.requires.aimed.0 c.requires.aimed.1 c.requires.ready.1)
