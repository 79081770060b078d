use Rattle.std.proofs.Common.{List, subst, sym}
use Rattle.link_names.specs.Kept.{AreKept}
use Rattle.link_names.specs.Leaving.{LowersAlone}
use Rattle.scope_rule.specs.declared.namespace.Namespace.{Namespace}
use Rattle.link_names.proofs.Unchanged.{closed_kept}
use Rattle.link_names.proofs.listed.ListedNamespaces.close.Goals as goal

pub invariant_of-self : goal.invariant_of-self
invariant_of-self c = c.keep_if.ensures.kept c.close_in.new.namespaces.items (λ holds.
    let alone : LowersAlone c.self.inside.namespaces.items c.args.handle c.args.set.now =
    subst (λ (nss : List Namespace). LowersAlone nss c.args.handle c.args.set.now) c.as_slice.ensures.value (c.closing_leaves_lists-stay.ensures.0 holds) in
    subst (λ (nss : List Namespace). AreKept nss c.self.inside.lists) (sym c.close_in.ensures)
    (closed_kept c.self.inside.namespaces.items c.self.inside.lists c.args.hart c.args.handle c.args.set.now alone c.self.invariant))
