use Rattle.std.proofs.Common.{ap, sym, ◌∙◌}
use Rattle.std.specs.Option.{option_copied}
use Rattle.scope_rule.specs.Seen.{seen}
use Rattle.sym_lookup.proofs.Searches.{there_by_serial}
use Rattle.sym_lookup.proofs.looking.lookup_in.Goals as goal

pub lookup_for-requires-clause-there : goal.lookup_for-requires-clause-there
lookup_for-requires-clause-there c = there_by_serial (seen c.args.view.now) c.args.owner c.unwrap-loaded.result.now (sym c.object.ensures ∙ ap option_copied c.unwrap-loaded.ensures)
