use Rattle.std.proofs.Common.{Some, ◌∙◌}
use Rattle.scope_rule.specs.Seen.{seen}
use Rattle.sym_lookup.proofs.Searches.{names_there}
use Rattle.sym_lookup.proofs.references.References.at.Goals as goal

pub over-requires-clause-names : goal.over-requires-clause-names
over-requires-clause-names c =
    names_there (Some c.args.owner.now) c.names_at-names.result (λ o is. c.names_at-names.ensures (seen c.args.view.now) o c.requires.lists (c.requires.owner_is_there ∙ is))

pub over-requires-clause-scope : goal.over-requires-clause-scope
over-requires-clause-scope c = c.scope_at.ensures (seen c.args.view.now) c.args.owner.now c.requires.lists c.requires.listed c.requires.owner_is_there
