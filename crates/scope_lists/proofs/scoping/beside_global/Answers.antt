use Rattle.std.proofs.Common.{true, ap, map, refl, ◌∙◌}
use Rattle.scope_rule.specs.Seen.{seen}
use Rattle.scope_lists.specs.Kept.{entry_in}
use Rattle.scope_lists.specs.declared.kept.KeptScope.{KeptScope}
use Rattle.scope_lists.proofs.Parts.{is_shared}
use Rattle.scope_lists.proofs.scoping.beside_global.Goals as goal

pub returns : goal.returns
returns c = λ global is.
    let found : KeptScope = record { before = c.in_ok-before.before; is_global = true; after = c.in_ok-after.after } in
    is_shared (seen c.args.view.now) c.args.places.now c.requires.places global c.args.owner.now found c.args.own.now c.fill_parts.new.before c.fill_parts.new.after c.requires.own c.requires.sees is
    c.in_ok-fill_parts.ensures.before c.in_ok-fill_parts.ensures.after (c.in_ok-before.ensures ∙ ap (map (entry_in c.args.places.now)) c.as_slice.ensures) refl
    (c.in_ok-after.ensures ∙ ap (map (entry_in c.args.places.now)) c.as_slice-2.ensures)
