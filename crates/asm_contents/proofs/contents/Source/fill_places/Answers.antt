use Rattle.std.proofs.Common.{◌∙◌, ◌++◌, List, ℕ, ap, map}
use Rattle.asm_write.specs.declared.contents.Fix.{Fix}
use Rattle.asm_layout.specs.Symbols.{symbol_index}
use Rattle.asm_layout.specs.Uses.{slots}
use Rattle.asm_contents.proofs.contents.Source.fill_places.Goals as goal

pub returns : goal.returns
returns c =
    let lines = c.args.self.statements.now in
    let old = c.args.contents.now in
    let filled = c.in_ok-push_slots.ensures lines (record { imports = c.requires.source.uses.imports; own = c.in_ok-own.ensures lines c.requires.sorted })
    ∙ ap (λ (names : List (List ℕ)). old.slots ++ map (symbol_index lines) names) (c.as_slice.ensures ∙ c.requires.source.uses.slots) in
    ap (λ (all : List ℕ). record old { slots = all; fixes = c.in_ok-contents.field-0 }) filled
    ∙ ap (λ (all : List Fix). record old { slots = old.slots ++ map (symbol_index lines) (slots lines); fixes = all }) c.in_ok-contents.ensures
