use Rattle.std.proofs.Common.{◌∙◌, ap, sym}
use Rattle.asm_layout.specs.Words.{distance, operand_value, target}
use Rattle.asm_code.proofs.Between.{upper_between, word_between}
use Rattle.asm_code.proofs.atlas.Atlas.value.Goals as goal

pub returns-in-Label-clause-value : goal.returns-in-Label-clause-value
unfolding operand_value target
returns-in-Label-clause-value c = λ lines is.
    rw c.in-Label.is (c.distance.ensures.value ∙ ap (distance c.args.here) (c.label.ensures.value lines is))

pub returns-in-Code-clause-value : goal.returns-in-Code-clause-value
unfolding operand_value target
returns-in-Code-clause-value c = λ lines is.
    rw c.in-Code.is (c.distance-in-Code.ensures.value ∙ ap (distance c.args.here) (c.code.ensures.value lines is))

pub returns-in-Entry-clause-value : goal.returns-in-Entry-clause-value
unfolding operand_value target
returns-in-Entry-clause-value c = λ lines is.
    rw c.in-Entry.is (c.distance-in-Entry.ensures.value ∙ ap (distance c.args.here) (c.entry.ensures.value lines is))

pub returns-in-Upper-clause-range : goal.returns-in-Upper-clause-range
returns-in-Upper-clause-range c =
    rw c.in-Upper.is (λ fits v is. upper_between c.in-Upper.number v (sym c.value_of-in-Upper.ensures ∙ is) fits)

pub returns-in-Word-clause-range : goal.returns-in-Word-clause-range
returns-in-Word-clause-range c =
    rw c.in-Word.is (λ fits v is. word_between c.in-Word.number v (sym c.value_of-in-Word.ensures ∙ is) fits)
