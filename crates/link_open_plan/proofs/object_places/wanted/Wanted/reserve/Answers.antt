use Rattle.std.proofs.Common.{subst}
use Rattle.history_state.specs.Areas.{Area, HasNoRoom}
use Rattle.link_open_plan.proofs.ObjectPlaces.Same.{on_err}
use Rattle.link_open_plan.proofs.object_places.wanted.Wanted.reserve.Goals as goal

pub returns-in_err-address-clause-none : goal.returns-in_err-address-clause-none
returns-in_err-address-clause-none c =
    on_err c.from_residual.result (HasNoRoom c.args.regions.now c.args.self.now.pages c.args.self.now.place)
    (subst (λ (v : Area). HasNoRoom c.args.regions.now v.pages v.place) c.self.view_is c.in_err-address.ensures.none)
