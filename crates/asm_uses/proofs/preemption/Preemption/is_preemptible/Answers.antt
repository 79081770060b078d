use Rattle.std.proofs.Common.{Some, None, ◌∙◌, ap, sym, not}
use Rattle.asm_uses.proofs.Preempt.{label_found, of_label, of_foreign}
use Rattle.asm_uses.proofs.preemption.Preemption.is_preemptible.Goals as goal

pub returns-in-Some : goal.returns-in-Some
returns-in-Some c = λ lines labels exports.
    let name = c.args.name.now in
    let known = sym (label_found lines name (Some c.in-Some.field-0) (c.in-Some.ensures ∙ labels name)) in
    c.is_open.ensures ∙ rw (exports.kind, exports.exported name, exports.kept name) (sym (of_label lines name known))

pub returns-in-None : goal.returns-in-None
returns-in-None c = λ lines labels exports.
    let name = c.args.name.now in
    let foreign = sym (label_found lines name None (c.in-None.ensures ∙ labels name)) in
    ap not c.is_got_plt.ensures ∙ sym (of_foreign lines name foreign)
