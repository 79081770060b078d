use Rattle.std.proofs.Common.{ap, sym, ◌∙◌}
use Rattle.std.specs.Option.{option_copied}
use Rattle.sym_lookup.proofs.searched.found_at.Goals as goal

pub found_in-requires-clause-there : goal.found_in-requires-clause-there
found_in-requires-clause-there c = sym c.object_of.ensures ∙ ap option_copied c.in-Some.is

pub found_in-requires-clause-table : goal.found_in-requires-clause-table
found_in-requires-clause-table c = c.requires.tables c.args.searched.serial c.in-Some.loaded.now (sym c.requires.searched ∙ sym c.object_of.ensures ∙ ap option_copied c.in-Some.is)
