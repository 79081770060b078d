use Rattle.std.proofs.Common.{subst, sym}
use Rattle.scope_rule.specs.Seen.{Seen}
use Rattle.sym_lookup.specs.Looking.{HaveTables}
use Rattle.cli_text.proofs.references.references_at.Goals as goal

pub at-requires-clause-tables : goal.at-requires-clause-tables
at-requires-clause-tables c = (let P : Seen → Type 0 = HaveTables in subst P (sym c.view.ensures) c.requires.tables)
