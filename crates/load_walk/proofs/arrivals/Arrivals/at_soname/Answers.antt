use Rattle.std.proofs.Common.{◌∙◌}
use Rattle.load_walk.proofs.arrivals.Arrivals.at_soname.Goals as goal

pub returns : goal.returns
returns c = rw (← c.self.view_is) (c.at_soname.ensures ∙ c.self.invariant.sonames c.args.name.now)
