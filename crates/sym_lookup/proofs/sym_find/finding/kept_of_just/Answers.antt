use Rattle.sym_lookup.proofs.SymFind.Found.{fits_just}
use Rattle.sym_lookup.proofs.sym_find.finding.kept_of_just.Goals as goal

pub returns : goal.returns
returns c = c.kept.ensures
    (λ s. fits_just c.args.object.now c.args.sought.now.name s c.args.sought.now.want c.args.version.now c.new-carriers.result c.requires.versions c.requires.want c.new-carriers.ensures)
