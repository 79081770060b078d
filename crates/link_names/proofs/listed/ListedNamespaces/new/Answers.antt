use Rattle.link_names.proofs.Standing.{none_kept}
use Rattle.link_names.proofs.listed.ListedNamespaces.new.Goals as goal

pub invariant_of-result : goal.invariant_of-result
invariant_of-result c = none_kept c.args.namespaces.items c.new.result c.new.ensures
