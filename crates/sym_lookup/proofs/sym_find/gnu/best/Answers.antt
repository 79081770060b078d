use Rattle.sym_lookup.proofs.SymFind.GnuWalks.{not_reached, reached}
use Rattle.sym_lookup.proofs.sym_find.gnu.best.Goals as goal

pub returns-in-Some : goal.returns-in-Some
returns-in-Some c = reached c.args.gnu.now c.args.hash c.in-Some.first c.args.search.now c.walk.result c.in-Some.ensures c.walk.ensures

pub returns-in-None : goal.returns-in-None
returns-in-None c = not_reached c.args.gnu.now c.args.hash c.args.search.now c.new.result c.new.ensures c.in-None.ensures
