use Rattle.link_names.proofs.Standing.{none_kept}
use Rattle.link_names.proofs.listed.ListedNamespaces.take_out.Goals as goal

pub invariant_of-self : goal.invariant_of-self
invariant_of-self c = none_kept c.take_out.new.namespaces.items c.new.result c.new.ensures
