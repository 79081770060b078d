use Rattle.std.proofs.Common.{◌≡◌, List, Some, ap, subst, sym, ◌∙◌, Result, Ok, Err, IfOk, IfErr}
use Rattle.std.specs.Option.{option_copied}
use Rattle.std.specs.Prelude.{slice_get}
use Rattle.std.specs.List.{Contains}
use Rattle.std.proofs.lemmas.Option.{slice_get_within}
use Rattle.history_state.specs.Objects.{has_object}
use Rattle.history_state.specs.Lemmas.Lists.{at_in}
use Rattle.scope_rule.specs.declared.namespace.Namespace.{Namespace}
use Rattle.link_finds.specs.SlotChoosing.Lemmas.Unloaded.{unloaded}
use Rattle.link_names.proofs.Homes.{one_there, refused, shows}
use Rattle.link_names.proofs.Standing.{at_index, kept_lists, made_listed, made_there}
use Rattle.link_names.proofs.listed.chosen.Goals as goal

pub returns-in_default-clause-err : goal.returns-in_default-clause-err
returns-in_default-clause-err c = λ s are. unloaded s c.args.namespaces.now c.args.owner are c.in_default.ensures.none

pub make-requires-clause-place : goal.make-requires-clause-place
make-requires-clause-place c = slice_get_within c.args.namespaces.now c.in-Some.place c.in-Some.ensures.there.namespace c.in-Some.ensures.there.at

pub bounds-namespaces-place : goal.bounds-namespaces-place
bounds-namespaces-place c = slice_get_within c.args.namespaces.now c.in-Some.place c.in-Some.ensures.there.namespace c.in-Some.ensures.there.at

pub slot_choice-requires-clause-sound : goal.slot_choice-requires-clause-sound
slot_choice-requires-clause-sound c = λ o inside.
    let lt = slice_get_within c.args.namespaces.now c.in-Some.place c.in-Some.ensures.there.namespace c.in-Some.ensures.there.at in
    let at : slice_get c.args.namespaces.now c.in-Some.place ≡ Some c.index-namespaces-place.result = at_index c.args.namespaces.now c.in-Some.place c.index-namespaces-place.result lt c.index-namespaces-place.is in
    c.requires.sound c.index-namespaces-place.result o (at_in c.args.namespaces.now c.in-Some.place c.index-namespaces-place.result at) inside

pub slot_choice-requires-clause-lists : goal.slot_choice-requires-clause-lists
slot_choice-requires-clause-lists c =
    let lt = slice_get_within c.args.namespaces.now c.in-Some.place c.in-Some.ensures.there.namespace c.in-Some.ensures.there.at in
    let at : slice_get c.args.namespaces.now c.in-Some.place ≡ Some c.index-namespaces-place.result = at_index c.args.namespaces.now c.in-Some.place c.index-namespaces-place.result lt c.index-namespaces-place.is in
    kept_lists c.args.namespaces.now c.make.new.self c.in-Some.place c.index-namespaces-place.result c.unwrap.result.now (option_copied c.get.result) c.make.ensures.kept at c.get.ensures (ap option_copied c.unwrap.ensures)

pub slot_choice-requires-clause-there : goal.slot_choice-requires-clause-there
slot_choice-requires-clause-there c =
    let lt = slice_get_within c.args.namespaces.now c.in-Some.place c.in-Some.ensures.there.namespace c.in-Some.ensures.there.at in
    let at : slice_get c.args.namespaces.now c.in-Some.place ≡ Some c.index-namespaces-place.result = at_index c.args.namespaces.now c.in-Some.place c.index-namespaces-place.result lt c.index-namespaces-place.is in
    ap (has_object c.args.owner) (sym (one_there c.args.namespaces.now c.args.owner c.in-Some.place c.index-namespaces-place.result c.in-Some.ensures.there at)) ∙ c.in-Some.ensures.there.has

if_ok : {A E : Type 0} (r : Result A E) (P Q : A → Type 0) → ((x : A) → P x → Q x) → IfOk r P → IfOk r Q
if_ok (Ok x) P Q f h = f x h
if_ok (Err e) P Q f h = h

if_err : {A E : Type 0} (r : Result A E) (P Q : E → Type 0) → ((x : E) → P x → Q x) → IfErr r P → IfErr r Q
if_err (Ok x) P Q f h = h
if_err (Err e) P Q f h = f e h

pub returns-clause-ok : goal.returns-clause-ok
returns-clause-ok c =
    let lt = slice_get_within c.args.namespaces.now c.in-Some.place c.in-Some.ensures.there.namespace c.in-Some.ensures.there.at in
    let at : slice_get c.args.namespaces.now c.in-Some.place ≡ Some c.index-namespaces-place.result = at_index c.args.namespaces.now c.in-Some.place c.index-namespaces-place.result lt c.index-namespaces-place.is in
    if_ok c.slot_choice.result _ _ (λ x chooses s are apart. chooses s (shows s c.args.namespaces.now c.in-Some.place c.index-namespaces-place.result are apart at)) c.slot_choice.ensures.ok

pub returns-clause-err : goal.returns-clause-err
returns-clause-err c =
    let lt = slice_get_within c.args.namespaces.now c.in-Some.place c.in-Some.ensures.there.namespace c.in-Some.ensures.there.at in
    let at : slice_get c.args.namespaces.now c.in-Some.place ≡ Some c.index-namespaces-place.result = at_index c.args.namespaces.now c.in-Some.place c.index-namespaces-place.result lt c.index-namespaces-place.is in
    if_err c.slot_choice.result _ _ (λ e is s are. refused s c.args.owner c.args.eights e (is s (subst (λ (all : List Namespace). Contains all c.index-namespaces-place.result) (sym are) (at_in c.args.namespaces.now c.in-Some.place c.index-namespaces-place.result at)))) c.slot_choice.ensures.err

pub unwrap-requires : goal.unwrap-requires
unwrap-requires c = made_there c.make.new.self c.args.owner c.in-Some.place c.get.result c.get.ensures c.in_ok-make.ensures.made

pub slot_choice-requires-clause-listed : goal.slot_choice-requires-clause-listed
slot_choice-requires-clause-listed c =
    made_listed c.make.new.self c.args.owner c.in-Some.place c.unwrap.result.now (option_copied c.get.result) c.get.ensures (ap option_copied c.unwrap.ensures) c.in_ok-make.ensures.made
