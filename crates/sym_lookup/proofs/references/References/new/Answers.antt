use Rattle.scope_rule.specs.Seen.{seen}
use Rattle.sym_lookup.proofs.references.References.new.Goals as goal

pub over-requires-clause-names : goal.over-requires-clause-names
over-requires-clause-names c = c.owner_names.ensures (seen c.args.view.now) c.requires.lists c.requires.owner_is_there
