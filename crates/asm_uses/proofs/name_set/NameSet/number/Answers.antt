use Rattle.std.proofs.Common.{◌∙◌}
use Rattle.asm_uses.proofs.Keys.{position_spelled}
use Rattle.asm_uses.proofs.name_set.NameSet.number.Goals as goal

pub returns : goal.returns
returns c = rw (← c.self.view_is) (c.get_index_of.ensures.index ∙ position_spelled c.self.inside.names.keys c.args.name.now)
