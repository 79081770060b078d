use Rattle.std.proofs.Common.{◌∙◌}
use Rattle.load_walk.proofs.arrivals.Arrivals.at_path.Goals as goal

pub returns : goal.returns
returns c = rw (← c.self.view_is) (c.at_path.ensures ∙ c.self.invariant.paths c.args.path.now)
