use Rattle.std.proofs.Common.{◌≡◌, true, false, Some, None, refl, ◌∙◌, sym}
use Rattle.asm_layout.specs.Labels.{is_label}
use Rattle.asm_layout.specs.Uses.{exported_by}
use Rattle.asm_uses.specs.Exports.{export_as}
use Rattle.asm_uses.proofs.Preempt.{label_found}
use Rattle.asm_uses.proofs.export_set.Source.symbol.Goals as goal

pub returns-in-Some : goal.returns-in-Some
returns-in-Some c = λ lines is.
    let symbol = c.in_ok-symbol.symbol in
    let known : is_label lines symbol.label.now ≡ true =
    sym (label_found lines symbol.label.now (Some c.in-Some.field-0) (c.in-Some.ensures ∙ is.labels symbol.label.now)) in
    let e : Some (export_as symbol) ≡ exported_by lines c.args.line.now.statement = c.in_ok-symbol.ensures lines is in
    rw (← e, known) refl

pub returns-in-None : goal.returns-in-None
returns-in-None c = λ lines is.
    let symbol = c.in_ok-symbol.symbol in
    let known : is_label lines symbol.label.now ≡ false =
    sym (label_found lines symbol.label.now None (c.in-None.ensures ∙ is.labels symbol.label.now)) in
    let e : Some (export_as symbol) ≡ exported_by lines c.args.line.now.statement = c.in_ok-symbol.ensures lines is in
    rw (← e, known) refl
