use Rattle.std.proofs.Common.{subst, sym}
use Rattle.scope_rule.specs.Seen.{Seen}
use Rattle.sym_lookup.specs.Looking.{HaveTables}
use Rattle.sym_lookup.proofs.looking.lookup.Goals as goal

pub lookup_in-requires-clause-tables : goal.lookup_in-requires-clause-tables
lookup_in-requires-clause-tables c = (let P : Seen → Type 0 = HaveTables in subst P (sym c.view.ensures) c.requires.tables)
