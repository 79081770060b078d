use Rattle.sym_lookup.proofs.SymFind.Found.{ruled_out}
use Rattle.sym_lookup.proofs.sym_find.finding.rules_out.Goals as goal

pub returns-in-Some : goal.returns-in-Some
returns-in-Some c = ruled_out c.args.table.now c.in-Some.gnu c.args.sought.now.name c.gnu.result c.in_bloom.result c.in-Some.is c.gnu.ensures c.in_bloom.ensures
