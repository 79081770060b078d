use Rattle.std.proofs.Common.{ℕ, List, sym, subst, ◌∙◌}
use Rattle.history_event.specs.declared.event.Range.{Range}
use Rattle.history_state.specs.Areas.{AreBased, AreGiven}
use Rattle.link_open_plan.specs.ObjectPlaces.Placing.{statics_of}
use Rattle.link_open_plan.proofs.ObjectPlaces.Placed.{accepted_alike, enough, have_places, unplaced_alike}
use Rattle.link_open_plan.proofs.object_places.placing.place.Goals as goal

pub give_modules-requires : goal.give_modules-requires
give_modules-requires c = λ o inside seg is. let storage = (c.requires o inside).storage seg is in (storage.align, storage.memory)

pub wanted_for-requires : goal.wanted_for-requires
wanted_for-requires c = λ o inside. (accepted_alike c.give_modules.new.added c.args.added.now c.in_ok-give_modules.ensures.same c.requires o inside).image

pub set_bases-requires-clause-accepted : goal.set_bases-requires-clause-accepted
set_bases-requires-clause-accepted c = λ o inside. (accepted_alike c.give_modules.new.added c.args.added.now c.in_ok-give_modules.ensures.same c.requires o inside).image

pub set_bases-requires-clause-enough : goal.set_bases-requires-clause-enough
set_bases-requires-clause-enough c =
    enough c.copy-regions.result c.args.harts (statics_of c.give_modules.new.modules) c.give_modules.new.added c.as_slice.result.now c.as_slice-2.result.now c.reserve_all.new.regions
    (c.as_slice.ensures.value ∙ c.in_ok-wanted.ensures)
    (subst (λ (ranges : List Range). AreGiven c.copy-regions.result c.as_slice.result.now ranges c.reserve_all.new.regions) (sym c.as_slice-2.ensures) c.in_ok-ranges.ensures.given)

pub returns-clause-same : goal.returns-clause-same
returns-clause-same c = unplaced_alike c.set_bases.new.added c.give_modules.new.added c.set_bases.ensures.same ∙ c.in_ok-give_modules.ensures.same

pub returns-clause-ok : goal.returns-clause-ok
returns-clause-ok c =
    have_places c.args.regions.now c.args.modules.now c.in_ok-modules.modules c.give_modules.new.modules c.args.harts c.is_none.result c.give_modules.new.added
    c.in_ok-modules.ensures.modules c.in_ok-modules.ensures.size c.in_ok-modules.ensures.tp c.is_none.ensures c.in_ok-give_modules.ensures.storage c.in_ok-give_modules.ensures.statics
    c.as_slice.result.now c.in_ok-ranges.ranges c.reserve_all.new.regions c.set_bases.new.added c.in_ok-give_modules.ensures.modules (c.as_slice.ensures.value ∙ c.in_ok-wanted.ensures)
    (subst (λ (free : List ℕ). AreGiven free c.as_slice.result.now c.in_ok-ranges.ranges c.reserve_all.new.regions) c.copy-regions.ensures c.in_ok-ranges.ensures.given)
    c.set_bases.ensures.same (subst (λ (ranges : List Range). AreBased c.set_bases.new.added ranges) c.as_slice-2.ensures c.set_bases.ensures.based)
