use Rattle.sym_lookup.proofs.SymFind.Found.{by_gnu, by_sysv}
use Rattle.sym_lookup.proofs.sym_find.finding.walk.Goals as goal

pub returns-in-Some-default : goal.returns-in-Some-default
returns-in-Some-default c = by_gnu c.args.table.now c.in-Some-default.gnu c.args.sought.now.name c.args.search.now c.best.result c.in-Some-default.is-0 (c.best.ensures c.args.sought.now.name c.gnu.ensures)

pub returns-in-None-Some : goal.returns-in-None-Some
returns-in-None-Some c =
    by_sysv c.args.table.now c.in-None-Some.sysv c.args.sought.now.name c.args.search.now c.best-in-None-Some.result c.in-None-Some.is-0 c.in-None-Some.is-1 (c.best-in-None-Some.ensures c.args.sought.now.name c.sysv.ensures)
