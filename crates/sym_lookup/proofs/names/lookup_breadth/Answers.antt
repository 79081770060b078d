use Rattle.sym_lookup.proofs.names.lookup_breadth.Goals as goal

pub first_found-requires : goal.first_found-requires
first_found-requires c = record { tables = rw c.in_ok-indexed.ensures c.requires.tables }
