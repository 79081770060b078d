use Rattle.std.proofs.Common.{◌∙◌}
use Rattle.asm_layout.specs.Labels.{defines}
use Rattle.asm_layout.proofs.Firsts.{position_below}
use Rattle.asm_code.proofs.Names.{label_there, label_missing}
use Rattle.asm_code.proofs.atlas.Atlas.label.Goals as goal

pub returns-in-Some-clause-value : goal.returns-in-Some-clause-value
returns-in-Some-clause-value c = λ lines is.
    let name = c.args.name.now in
    let e = c.in-Some.ensures ∙ is.uses.labels name in
    c.line_address.ensures.value lines is (position_below (defines name) lines c.in-Some.line e) ∙ label_there lines name c.in-Some.line e

pub returns-in-None-clause-value : goal.returns-in-None-clause-value
returns-in-None-clause-value c = λ lines is.
    let name = c.args.name.now in
    c.got_plt.ensures.value lines is ∙ label_missing lines name (c.in-None.ensures ∙ is.uses.labels name)
