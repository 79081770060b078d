use Rattle.scope_rule.specs.Seen.{seen}
use Rattle.sym_lookup.proofs.looking.searched.Goals as goal

pub returns : goal.returns
returns c = c.scope.ensures (seen c.args.view.now) c.args.loaded.now c.requires.lists c.requires.listed c.requires.there
