use Rattle.std.proofs.Common.{rules}
use Rattle.word_rule.specs.Lemmas.Table.{may_exchange}
use Rattle.word_steps.proofs.memory.steps.exchange_as.Goals as goal

pub compare_exchange-requires : goal.compare_exchange-requires
compare_exchange-requires g c = (search rules, search rules, may_exchange g.A.Aimed.kind _ _ _ _ _ _ c.requires.ready.0 c.requires.aimed.0 c.requires.aimed.1 c.requires.ready.1)
