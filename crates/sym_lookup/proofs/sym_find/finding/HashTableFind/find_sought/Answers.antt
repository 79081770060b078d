use Rattle.sym_lookup.proofs.SymFind.Found.{finds, found_if, picks}
use Rattle.sym_lookup.proofs.sym_find.finding.HashTableFind.find_sought.Goals as goal

pub returns-clause-found : goal.returns-clause-found
returns-clause-found c =
    finds c.args.self.now c.args.object.now c.args.sought.now.name c.args.sought.now.want c.kept_for-best.result c.may_be_alone-only.result c.taken.result c.may_be_alone-only.ensures c.kept_for-best.ensures c.taken.ensures

pub returns-clause-reached : goal.returns-clause-reached
returns-clause-reached c =
    found_if c.args.self.now c.args.object.now c.args.sought.now.name c.args.sought.now.want c.taken.result
    (finds c.args.self.now c.args.object.now c.args.sought.now.name c.args.sought.now.want c.kept_for-best.result c.may_be_alone-only.result c.taken.result c.may_be_alone-only.ensures c.kept_for-best.ensures c.taken.ensures)

pub returns-clause-picks : goal.returns-clause-picks
returns-clause-picks c = λ of.
    picks c.args.self.now c.args.object.now c.args.sought.now.name c.args.sought.now.want of c.taken.result
    (finds c.args.self.now c.args.object.now c.args.sought.now.name c.args.sought.now.want c.kept_for-best.result c.may_be_alone-only.result c.taken.result c.may_be_alone-only.ensures c.kept_for-best.ensures c.taken.ensures)
    (c.one_pick.ensures.taken c.args.object.now c.args.sought.now.name c.args.sought.now.want)
