use Rattle.sym_lookup.proofs.searching.Searching.new.Goals as goal

pub invariant_of-result : goal.invariant_of-result
invariant_of-result c = (c.requires.lists, c.requires.names, c.requires.tables, c.requires.scope)
