use Rattle.std.proofs.Common.{◌≡◌, ◌||◌, Bool, List, ◌++◌, map, sym, ap, subst, ◌∙◌}
use Rattle.std.specs.List.{AllByRecursion}
use Rattle.ld_base.specs.declared.linking.Loaded.{Loaded}
use Rattle.history_state.specs.Flags.{is_now}
use Rattle.history_calls.specs.LoadChoices.Choices.{choices_of}
use Rattle.scope_rule.specs.Opening.{global_after}
use Rattle.scope_rule.specs.Seen.{Seen, seen}
use Rattle.link_open_plan.specs.Before.{IsObject, seen_with}
use Rattle.link_open_plan.proofs.Objects.{are_objects, has_image, have_tables, names_own, seen_opened}
use Rattle.link_open_plan.proofs.Results.{if_ok}
use Rattle.link_open_plan.proofs.choosing.choose_new.Goals as goal

pub choose-requires-clause-tables : goal.choose-requires-clause-tables
choose-requires-clause-tables c =
    let all : AllByRecursion IsObject (c.as_slice.result.now ++ c.args.added.now) =
    subst (λ (os : List Loaded). AllByRecursion IsObject (os ++ c.args.added.now)) (sym c.as_slice.ensures)
    (are_objects c.one_object.ensures.table c.one_image.ensures.read c.args.before.now.namespace.now.objects c.args.added.now c.requires.there c.requires.read) in
    c.tables_are_there.ensures (record { objects = c.as_slice.result.now ++ c.args.added.now; global = c.as_slice-2.result.now; opens = c.as_slice-3.result.now })
    (have_tables (c.as_slice.result.now ++ c.args.added.now) all)

pub choose-requires-clause-accepted : goal.choose-requires-clause-accepted
choose-requires-clause-accepted c = λ o inside.
    let all : AllByRecursion IsObject (c.as_slice.result.now ++ c.args.added.now) =
    subst (λ (os : List Loaded). AllByRecursion IsObject (os ++ c.args.added.now)) (sym c.as_slice.ensures)
    (are_objects c.one_object.ensures.table c.one_image.ensures.read c.args.before.now.namespace.now.objects c.args.added.now c.requires.there c.requires.read) in
    has_image (c.as_slice.result.now ++ c.args.added.now) o all inside

pub choose-requires-clause-named : goal.choose-requires-clause-named
choose-requires-clause-named c = λ o inside. names_own c.one_object.ensures.names c.args.added.now o c.requires.read inside

pub returns-clause-choices : goal.returns-clause-choices
returns-clause-choices c =
    let ns : Seen = record { objects = c.as_slice.result.now ++ c.args.added.now; global = c.as_slice-2.result.now; opens = c.as_slice-3.result.now } in
    let same : ns ≡ seen_with c.args.before.now c.args.ask.now c.args.root c.args.added.now =
    seen_opened c.args.before.now c.args.ask.now c.args.root c.args.added.now (seen c.view_with.result) c.as_slice.result.now c.as_slice-2.result.now c.as_slice-3.result.now
    c.view_with.ensures c.as_slice.ensures
    (c.as_slice-2.ensures ∙ c.in_ok-lists.ensures.global ∙ ap (λ (b : Bool). global_after (seen c.view_with.result) c.args.root b) c.is_global.ensures)
    (c.as_slice-3.ensures ∙ c.in_ok-lists.ensures.opens) in
    if_ok c.choose.result _ _
    (λ all is.
    is ∙ ap (λ (n : Bool). map (choices_of ns n) c.args.added.now) c.binds_slots.ensures
    ∙ ap (λ (x : Seen). map (choices_of x (c.args.before.now.binds_now || is_now c.args.ask.now.flags)) c.args.added.now) same)
    c.choose.ensures.choices
