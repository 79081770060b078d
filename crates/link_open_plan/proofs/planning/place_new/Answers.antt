use Rattle.std.proofs.Common.{◌≡◌, ◌||◌, List, map, sym, ap, subst, ◌∙◌}
use Rattle.std.specs.List.{AllByRecursion}
use Rattle.ld_base.specs.declared.linking.Loaded.{Loaded}
use Rattle.history_event.specs.declared.state.Module.{Module}
use Rattle.history_state.specs.Accepted.{IsAccepted}
use Rattle.history_state.specs.After.{after}
use Rattle.history_state.specs.Flags.{is_now}
use Rattle.history_state.specs.Opening.{unplaced}
use Rattle.history_calls.specs.LoadChoices.Choices.{choices_of}
use Rattle.link_open_plan.specs.Before.{WasRead, seen_with}
use Rattle.link_open_plan.specs.Planned.{IsUnopened, ShowsInNoCount, PlansNew, choice_fault, place_fault}
use Rattle.link_open_plan.proofs.Faults.{choice_needs_none}
use Rattle.link_open_plan.proofs.News.{still_was}
use Rattle.link_open_plan.proofs.Objects.{of_read}
use Rattle.link_open_plan.proofs.Results.{err_as, written}
use Rattle.link_open_plan.proofs.Steps.{AreFaultedBy, AreRelocated, no_choices, no_places, plans_new}
use Rattle.link_open_plan.proofs.planning.place_new.Goals as goal

pub place-requires : goal.place-requires
place-requires c = λ o inside.
    of_read IsAccepted c.accepted_object.ensures.read c.as_mut_slice.result.now o
    (subst (AllByRecursion WasRead) (sym (c.as_mut_slice.ensures.value ∙ c.into_vec-added.ensures)) c.requires.read) inside

pub returns-in_err-places-clause-unopened : goal.returns-in_err-places-clause-unopened
returns-in_err-places-clause-unopened c = λ w past hart id name is finds.
    let same : map unplaced c.place.new.added ≡ map unplaced c.args.plan.added =
    c.in_err-places.ensures.same ∙ ap (map unplaced) (c.as_mut_slice.ensures.value ∙ c.into_vec-added.ensures) in
    err_as c.from_residual.result (place_fault c.in_err-places.field-0.0) (IsUnopened w (after past) hart c.args.ask.now) c.from_residual.ensures.1
    (no_places (record { stand = c.new_objects_stand_behind.ensures.found; apart = c.objects_are_apart.ensures; order = c.serials_are_in_order.ensures.order; follow = c.serials_follow.ensures })
    w past hart id c.args.plan.root c.args.ask.now name c.args.harts c.args.before.now is c.args.plan.added c.place.new.added finds same c.in_err-places.field-0.0 c.in_err-places.ensures.err)

pub choose_new-requires-clause-read : goal.choose_new-requires-clause-read
choose_new-requires-clause-read c =
    let same : map unplaced c.place.new.added ≡ map unplaced c.args.plan.added =
    c.in_ok-places.ensures.same ∙ ap (map unplaced) (c.as_mut_slice.ensures.value ∙ c.into_vec-added.ensures) in
    let back = written unplaced c.into_vec-added.result.items c.as_mut_slice.result.now c.place.new.added c.into_vec-added.result.len c.as_mut_slice.ensures.value c.as_mut_slice.ensures.len
    c.in_ok-places.ensures.same in
    subst (AllByRecursion WasRead) (sym (c.as_slice.ensures.value ∙ back)) (still_was c.place.new.added c.args.plan.added same c.requires.read)

pub returns-in_err-choices-clause-unopened : goal.returns-in_err-choices-clause-unopened
returns-in_err-choices-clause-unopened c = λ w past hart id name is finds.
    let same : map unplaced c.place.new.added ≡ map unplaced c.args.plan.added =
    c.in_ok-places.ensures.same ∙ ap (map unplaced) (c.as_mut_slice.ensures.value ∙ c.into_vec-added.ensures) in
    let back = written unplaced c.into_vec-added.result.items c.as_mut_slice.result.now c.place.new.added c.into_vec-added.result.len c.as_mut_slice.ensures.value c.as_mut_slice.ensures.len
    c.in_ok-places.ensures.same in
    err_as c.from_residual-in_err-choices.result (choice_fault c.in_err-choices.field-0.0) (IsUnopened w (after past) hart c.args.ask.now) c.from_residual-in_err-choices.ensures.1
    (no_choices (record { stand = c.new_objects_stand_behind.ensures.found; apart = c.objects_are_apart.ensures; order = c.serials_are_in_order.ensures.order; follow = c.serials_follow.ensures })
    w past hart id c.args.plan.root c.args.ask.now name c.args.harts c.args.before.now is c.args.plan.added c.place.new.added finds same c.in_ok-places.places c.in_err-choices.field-0.0
    c.in_ok-places.ensures.ok
    (subst (AreFaultedBy c.args.before.now c.args.ask.now c.args.plan.root c.in_err-choices.field-0.0 c.in_ok-places.places.modules.modules) (c.as_slice.ensures.value ∙ back)
    (subst (λ (ms : List Module). AreFaultedBy c.args.before.now c.args.ask.now c.args.plan.root c.in_err-choices.field-0.0 ms c.as_slice.result.now) c.as_slice-2.ensures
    c.in_err-choices.ensures.refused)))

pub returns-in_err-choices-clause-no_file : goal.returns-in_err-choices-clause-no_file
returns-in_err-choices-clause-no_file c =
    err_as c.from_residual-in_err-choices.result (choice_fault c.in_err-choices.field-0.0) ShowsInNoCount c.from_residual-in_err-choices.ensures.1
    (choice_needs_none (seen_with c.args.before.now c.args.ask.now c.args.plan.root c.as_slice.result.now) (c.args.before.now.binds_now || is_now c.args.ask.now.flags) c.as_slice.result.now
    c.as_slice-2.result.now c.in_err-choices.field-0.0 c.in_err-choices.ensures.refused)

pub returns-clause-same : goal.returns-clause-same
returns-clause-same c =
    let same : map unplaced c.place.new.added ≡ map unplaced c.args.plan.added =
    c.in_ok-places.ensures.same ∙ ap (map unplaced) (c.as_mut_slice.ensures.value ∙ c.into_vec-added.ensures) in
    let back = written unplaced c.into_vec-added.result.items c.as_mut_slice.result.now c.place.new.added c.into_vec-added.result.len c.as_mut_slice.ensures.value c.as_mut_slice.ensures.len
    c.in_ok-places.ensures.same in
    ap (map unplaced) (c.from.ensures ∙ back) ∙ same

pub returns-clause-planned : goal.returns-clause-planned
returns-clause-planned c = λ w past hart id name is finds.
    let same : map unplaced c.place.new.added ≡ map unplaced c.args.plan.added =
    c.in_ok-places.ensures.same ∙ ap (map unplaced) (c.as_mut_slice.ensures.value ∙ c.into_vec-added.ensures) in
    let back = written unplaced c.into_vec-added.result.items c.as_mut_slice.result.now c.place.new.added c.into_vec-added.result.len c.as_mut_slice.ensures.value c.as_mut_slice.ensures.len
    c.in_ok-places.ensures.same in
    subst (λ (os : List Loaded). PlansNew w (after past) hart c.args.ask.now name id
    (record { root = c.args.plan.root; added = os; ranges = c.in_ok-places.places.ranges; choices = c.in_ok-choices.choices })) (sym (c.from.ensures ∙ back))
    (plans_new (record { stand = c.new_objects_stand_behind.ensures.found; apart = c.objects_are_apart.ensures; order = c.serials_are_in_order.ensures.order; follow = c.serials_follow.ensures })
    w past hart id c.args.plan.root c.args.ask.now name c.args.harts c.args.before.now is c.args.plan.added c.place.new.added finds same c.in_ok-places.places c.in_ok-choices.choices
    c.in_ok-places.ensures.ok
    (c.in_ok-choices.ensures.choices
    ∙ ap (λ (os : List Loaded). map (choices_of (seen_with c.args.before.now c.args.ask.now c.args.plan.root os) (c.args.before.now.binds_now || is_now c.args.ask.now.flags)) os)
    (c.as_slice.ensures.value ∙ back))
    (subst (AreRelocated c.args.before.now c.args.ask.now c.args.plan.root c.in_ok-places.places.modules.modules) (c.as_slice.ensures.value ∙ back)
    (subst (λ (ms : List Module). AreRelocated c.args.before.now c.args.ask.now c.args.plan.root ms c.as_slice.result.now) c.as_slice-2.ensures c.in_ok-choices.ensures.relocated)))
