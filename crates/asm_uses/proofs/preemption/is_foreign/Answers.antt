use Rattle.std.proofs.Common.{Some, None, ◌∙◌, ap, sym, not}
use Rattle.asm_uses.proofs.Preempt.{label_found, foreign_label, foreign_name}
use Rattle.asm_uses.proofs.preemption.is_foreign.Goals as goal

pub returns-in-Some : goal.returns-in-Some
returns-in-Some c = λ lines labels.
    let name = c.args.name.now in
    sym (foreign_label lines name (sym (label_found lines name (Some c.in-Some.field-0) (c.in-Some.ensures ∙ labels name))))

pub returns-in-None : goal.returns-in-None
returns-in-None c = λ lines labels.
    let name = c.args.name.now in
    ap not c.is_got_plt.ensures ∙ sym (foreign_name lines name (sym (label_found lines name None (c.in-None.ensures ∙ labels name))))
