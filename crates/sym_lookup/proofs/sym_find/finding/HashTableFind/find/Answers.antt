use Rattle.std.proofs.Common.{◌∙◌}
use Rattle.sym_lookup.proofs.SymFind.Found.{same_finds, same_pick}
use Rattle.sym_lookup.proofs.sym_find.finding.HashTableFind.find.Goals as goal

pub returns-clause-found : goal.returns-clause-found
returns-clause-found c =
    same_finds c.args.self.now c.args.object.now c.args.name.now c.new.result.name c.args.want.now c.new.result.want c.find_sought.result c.new.ensures.name (c.new.ensures.want ∙ c.of.ensures) c.find_sought.ensures.found

pub returns-clause-picks : goal.returns-clause-picks
returns-clause-picks c = λ of.
    c.find_sought.ensures.picks of ∙ same_pick c.args.object.now c.args.name.now c.new.result.name c.args.want.now c.new.result.want c.new.ensures.name (c.new.ensures.want ∙ c.of.ensures)
