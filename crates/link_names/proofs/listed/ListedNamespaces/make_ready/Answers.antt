use Rattle.std.proofs.Common.{map, subst, sym, ◌∙◌, List, ap}
use Rattle.history_state.specs.Step.{ready_in}
use Rattle.link_names.specs.Kept.{AreKept}
use Rattle.link_names.proofs.Standing.{ready_kept, written_back}
use Rattle.link_names.proofs.listed.ListedNamespaces.make_ready.Goals as goal
use Rattle.scope_rule.specs.declared.namespace.Namespace.{Namespace}

pub returns : goal.returns
returns c =
    written_back (ready_in c.args.serial) c.self.inside.namespaces.items c.as_mut_slice.result.now c.make_ready.new.namespaces c.self.inside.namespaces.len c.as_mut_slice.ensures.value c.as_mut_slice.ensures.len c.make_ready.ensures
    ∙ ap (λ (nss : List Namespace). map (ready_in c.args.serial) nss) c.self.view_is

pub invariant_of-self : goal.invariant_of-self
invariant_of-self c =
    let P = λ (nss : List Namespace). AreKept nss c.self.inside.lists in
    subst P (sym (written_back (ready_in c.args.serial) c.self.inside.namespaces.items c.as_mut_slice.result.now c.make_ready.new.namespaces c.self.inside.namespaces.len c.as_mut_slice.ensures.value c.as_mut_slice.ensures.len c.make_ready.ensures))
    (ready_kept c.args.serial c.self.inside.namespaces.items c.self.inside.lists c.lists_stay.ensures c.self.invariant)
