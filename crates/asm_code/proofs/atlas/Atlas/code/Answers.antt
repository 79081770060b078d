use Rattle.std.proofs.Common.{◌∙◌, sym}
use Rattle.asm_code.proofs.Names.{call_by_slot, call_by_label}
use Rattle.asm_code.proofs.atlas.Atlas.code.Goals as goal

pub returns-then-is_preemptible-clause-value : goal.returns-then-is_preemptible-clause-value
returns-then-is_preemptible-clause-value c = λ lines is.
    c.slot.ensures.value lines is
    ∙ call_by_slot lines c.args.name.now (sym (c.is_preemptible.ensures lines is.uses) ∙ c.if-is_preemptible.true)

pub returns-else-is_preemptible-clause-value : goal.returns-else-is_preemptible-clause-value
returns-else-is_preemptible-clause-value c = λ lines is.
    c.label.ensures.value lines is
    ∙ call_by_label lines c.args.name.now (sym (c.is_preemptible.ensures lines is.uses) ∙ c.if-is_preemptible.false)
