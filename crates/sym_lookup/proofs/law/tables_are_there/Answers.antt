use Rattle.sym_lookup.proofs.Searches.{tables_there}
use Rattle.sym_lookup.proofs.law.tables_are_there.Goals as goal

pub returns : goal.returns
returns c = tables_there
