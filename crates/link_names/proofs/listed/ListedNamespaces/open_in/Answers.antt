use Rattle.std.proofs.Common.{List, subst, sym}
use Rattle.ld_base.specs.declared.linking.Loaded.{Loaded}
use Rattle.history_state.specs.Step.{with_namespace}
use Rattle.link_names.specs.Leaving.{OpensAgain}
use Rattle.link_spaces.specs.Numbered.{AreNumberedApart}
use Rattle.scope_rule.specs.Opening.{opened}
use Rattle.scope_rule.specs.declared.namespace.Namespace.{Namespace}
use Rattle.link_names.proofs.Unchanged.{either_kept, opened_kept}
use Rattle.link_names.proofs.listed.ListedNamespaces.open_in.Goals as goal

pub invariant_of-self : goal.invariant_of-self
invariant_of-self c = c.keep_if.ensures.kept c.open_in.new.namespaces.items (λ holds.
    let again : OpensAgain c.self.inside.namespaces.items c.args.id c.args.added c.args.root c.args.is_global =
    subst (λ (nss : List Namespace). OpensAgain nss c.args.id c.args.added c.args.root c.args.is_global) c.as_slice-namespaces.ensures.value
    (subst (λ (os : List Loaded). OpensAgain c.as_slice-namespaces.result.now c.args.id os c.args.root c.args.is_global) c.as_slice.ensures (c.opening_leaves_lists-stay.ensures.0 holds)) in
    either_kept c.open_in.result c.self.inside.namespaces.items c.open_in.new.namespaces.items (with_namespace c.args.id (λ ns. opened ns c.args.added c.args.root c.args.is_global) c.self.inside.namespaces.items)
    c.self.inside.lists c.open_in.ensures.ok c.open_in.ensures.err c.self.invariant
    (opened_kept c.self.inside.namespaces.items c.self.inside.lists c.args.id c.args.root c.args.added c.args.is_global (subst AreNumberedApart (sym c.self.view_is) c.requires.apart) again c.self.invariant))
