use Rattle.std.proofs.Common.{◌∙◌}
use Rattle.asm_uses.proofs.Keys.{any_spelled_as}
use Rattle.asm_uses.proofs.name_set.NameSet.contains.Goals as goal

pub returns : goal.returns
returns c = rw (← c.self.view_is) (c.contains.ensures ∙ any_spelled_as c.self.inside.names.keys c.args.name.now)
