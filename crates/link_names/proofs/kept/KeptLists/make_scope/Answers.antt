use Rattle.std.proofs.Common.{◌≡◌, Some, subst, sym}
use Rattle.std.specs.List.{slice_get}
use Rattle.scope_rule.specs.Seen.{Seen}
use Rattle.scope_rule.specs.declared.namespace.Namespace.{Namespace}
use Rattle.scope_lists.specs.Lists.{AreListsOf}
use Rattle.scope_lists.specs.declared.lists.SearchLists.{SearchLists}
use Rattle.link_names.proofs.Standing.{at_index, made, one_kept}
use Rattle.link_names.proofs.kept.KeptLists.make_scope.Goals as goal

pub add_scope-requires : goal.add_scope-requires
add_scope-requires c =
    let ns : Namespace = c.index-namespaces-place.result in
    let at : slice_get c.args.namespaces.now c.args.place ≡ Some ns = at_index c.args.namespaces.now c.args.place ns c.requires.place c.index-namespaces-place.is in
    subst (λ (v : Seen). AreListsOf v c.in-Some.lists.now) (sym c.view-view.ensures) (c.requires.kept c.args.place ns c.in-Some.lists.now at (sym c.in-Some.ensures.value))

pub returns-in-Some-clause-kept : goal.returns-in-Some-clause-kept
returns-in-Some-clause-kept c =
    let ns : Namespace = c.index-namespaces-place.result in
    let lists : SearchLists = c.add_scope.new.self in
    one_kept c.args.namespaces.now c.args.self.now (record { by_place = c.get_mut.follows.lender lists }) c.args.place ns lists c.requires.kept
    (at_index c.args.namespaces.now c.args.place ns c.requires.place c.index-namespaces-place.is) (subst (λ (v : Seen). AreListsOf v lists) c.view-view.ensures c.add_scope.ensures.lists)
    (λ q. ((c.get_mut.follows.holds lists).3 c.requires.there).0 q)

pub returns-in-Some-clause-made : goal.returns-in-Some-clause-made
returns-in-Some-clause-made c =
    let lists : SearchLists = c.add_scope.new.self in
    made (record { by_place = c.get_mut.follows.lender lists }) c.args.owner c.args.place lists c.add_scope.result ((c.get_mut.follows.holds lists).3 c.requires.there).1 c.add_scope.ensures.scope
