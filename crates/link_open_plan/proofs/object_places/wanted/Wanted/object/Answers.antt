use Rattle.std.proofs.Common.{subst, ◌<◌, sym}
use Rattle.link_open_plan.proofs.ObjectPlaces.Given.{some_align}
use Rattle.link_open_plan.proofs.object_places.wanted.Wanted.object.Goals as goal

pub anywhere-requires-clause-align : goal.anywhere-requires-clause-align
anywhere-requires-clause-align c = subst (λ n. 0 < n) (sym c.align_of.ensures) (some_align c.args.object.now.object)
