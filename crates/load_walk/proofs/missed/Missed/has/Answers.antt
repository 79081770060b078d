use Rattle.std.proofs.Common.{◌∙◌}
use Rattle.load_walk.proofs.Missing.{any_is}
use Rattle.load_walk.proofs.missed.Missed.has.Goals as goal

pub returns : goal.returns
returns c = rw (← c.self.view_is) (c.contains.ensures ∙ any_is c.self.inside.paths.keys c.args.path.now)
