use Rattle.std.proofs.Common.{sym, ◌∙◌}
use Rattle.scope_rule.specs.Seen.{seen}
use Rattle.sym_lookup.proofs.Globals.{by_global, by_linker}
use Rattle.sym_lookup.proofs.names.lookup_global.Goals as goal

pub returns-in-Some : goal.returns-in-Some
returns-in-Some c =
    by_global (seen c.args.view.now) c.new-sought.result.name c.args.name.now c.new-sought.result.want c.args.want.now c.new-sought.ensures.name (c.new-sought.ensures.want ∙ c.of.ensures) c.in-Some.found
    (sym c.in-Some.is ∙ (rw c.in_ok-indexed.ensures at c.first_found.ensures))

pub returns : goal.returns
returns c =
    by_linker (seen c.args.view.now) c.new-sought.result.name c.args.name.now c.new-sought.result.want c.args.want.now c.new-sought.ensures.name (c.new-sought.ensures.want ∙ c.of.ensures) c.found_in_linker.result
    (sym c.in-None.is ∙ (rw c.in_ok-indexed.ensures at c.first_found.ensures)) (c.found_in_linker.ensures (seen c.args.view.now))

pub first_found-requires : goal.first_found-requires
first_found-requires c = record { tables = rw c.in_ok-indexed.ensures c.requires.tables }
