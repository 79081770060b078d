use Rattle.std.proofs.Common.{rules}
use Rattle.word_rule.specs.Lemmas.Table.{may_load}
use Rattle.word_steps.proofs.memory.steps.load_as.Goals as goal

pub load-requires : goal.load-requires
load-requires g c = (search rules, search rules, may_load g.A.Aimed.kind _ _ _ _ c.requires.ready.0 c.requires.aimed.0 c.requires.aimed.1 c.requires.ready.1)
