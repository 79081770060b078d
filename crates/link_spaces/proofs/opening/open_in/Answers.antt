use Rattle.std.proofs.Common.{◌≡◌, List, [], ◌∷◌, Some, length, take, drop, ◌++◌, sym, ap, ◌∙◌}
use Rattle.std.specs.List.{find, slice_get, slice_set}
use Rattle.history_state.specs.Objects.{has_id}
use Rattle.history_state.specs.State.{empty_namespace}
use Rattle.std.proofs.lemmas.List.{length-set}
use Rattle.history_state.specs.Step.{with_namespace}
use Rattle.scope_rule.specs.Opening.{opened}
use Rattle.scope_rule.specs.declared.namespace.Namespace.{Namespace}
use Rattle.link_spaces.proofs.Numbered.{found_none, found_one, get_at, on_ok, written}
use Rattle.link_spaces.proofs.opening.open_in.Goals as goal

pub returns-in-Some-clause-ok : goal.returns-in-Some-clause-ok
returns-in-Some-clause-ok c =
    let items : List Namespace = c.args.namespaces.now.items in
    let change : Namespace → Namespace = λ ns. opened ns c.args.added c.args.root c.args.is_global in
    let slice : c.as_mut_slice.result.now ≡ items = c.as_mut_slice.ensures.value in
    let at : (ns : Namespace) × (slice_get items c.in-Some.place ≡ Some ns) = get_at items c.in-Some.place (length c.as_slice.result.now) (ap length c.as_slice.ensures.value) c.in-Some.ensures.within in
    on_ok c.open_at.result ((ns : Namespace) → slice_get c.as_mut_slice.result.now c.in-Some.place ≡ Some ns → c.open_at.new.namespaces ≡ slice_set c.as_mut_slice.result.now c.in-Some.place (change ns))
    (take c.args.namespaces.now.len (c.open_at.new.namespaces ++ drop (length c.open_at.new.namespaces) items) ≡ with_namespace c.args.id change items)
    (λ ok.
    let is : c.open_at.new.namespaces ≡ slice_set items c.in-Some.place (change at.0) =
    ok at.0 (ap (λ (xs : List Namespace). slice_get xs c.in-Some.place) slice ∙ at.1) ∙ ap (λ (xs : List Namespace). slice_set xs c.in-Some.place (change at.0)) slice in
    written items c.open_at.new.namespaces c.args.namespaces.now.len (ap length is ∙ length-set items c.in-Some.place (change at.0))
    (sym c.as_mut_slice.ensures.len ∙ ap length slice) ∙ is
    ∙ found_one c.args.id change items c.in-Some.place c.requires.apart at.0 at.1
    (ap (λ (xs : List Namespace). slice_get xs c.in-Some.place) (sym c.as_slice.ensures.value) ∙ c.in-Some.ensures.there ∙ ap (find (has_id c.args.id)) c.as_slice.ensures.value))
    c.open_at.ensures.ok

pub returns-in_ok-push-in-None-clause-ok : goal.returns-in_ok-push-in-None-clause-ok
returns-in_ok-push-in-None-clause-ok c =
    let change : Namespace → Namespace = λ ns. opened ns c.args.added c.args.root c.args.is_global in
    let new : c.in_ok-namespace-in-None.namespace ≡ change (empty_namespace c.args.id) = c.in_ok-namespace-in-None.ensures ∙ ap change c.empty_namespace.ensures in
    c.in_ok-push-in-None.ensures.items ∙ ap (λ (ns : Namespace). c.args.namespaces.now.items ++ ns ∷ []) new
    ∙ found_none c.args.id change c.args.namespaces.now.items (ap (find (has_id c.args.id)) (sym c.as_slice.ensures.value) ∙ c.in-None.ensures.none)
