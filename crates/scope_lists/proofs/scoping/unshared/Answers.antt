use Rattle.std.proofs.Common.{false, refl}
use Rattle.scope_rule.specs.Seen.{seen}
use Rattle.scope_lists.specs.declared.kept.KeptScope.{KeptScope}
use Rattle.scope_lists.proofs.Parts.{is_alone}
use Rattle.scope_lists.proofs.scoping.unshared.Goals as goal

pub returns : goal.returns
returns c = λ global.
    let found : KeptScope = record { before = c.in_ok-before.before; is_global = false; after = c.no_entries.result } in
    is_alone (seen c.args.view.now) c.args.places.now c.requires.places global c.args.owner.now found c.args.list.now c.in_ok-before.ensures refl c.no_entries.ensures c.requires.list
