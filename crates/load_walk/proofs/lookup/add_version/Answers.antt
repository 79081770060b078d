use Rattle.std.proofs.Common.{◌∙◌, ◌||◌, ap, sym}
use Rattle.load_walk.specs.Lookup.{named}
use Rattle.load_walk.proofs.Lookups.{defines_name, named_inserted}
use Rattle.load_walk.proofs.lookup.add_version.Goals as goal

pub returns-in_ok-insert : goal.returns-in_ok-insert
returns-in_ok-insert c = λ version.
    ap (λ names. named names version) c.in_ok-insert.ensures.keys
    ∙ named_inserted c.args.names.now.keys c.in_ok-name.name version
    ∙ ap (λ same. named c.args.names.now.keys version || same) (defines_name c.args.verdef.now version c.in_ok-name.name.items (c.in_ok-name.ensures.items ∙ c.as_bytes.ensures) (sym c.is_base.ensures ∙ c.if-not-is_base.true))
