use Rattle.std.proofs.Common.{◌∙◌, sym}
use Rattle.asm_code.proofs.Between.{upper_between, word_between}
use Rattle.asm_code.proofs.single.value_at.Goals as goal

pub returns-in-Upper-clause-range : goal.returns-in-Upper-clause-range
returns-in-Upper-clause-range c =
    rw c.in-Upper.is (λ fits v is. upper_between c.in-Upper.number v (sym c.value_of-in-Upper.ensures ∙ is) fits)

pub returns-in-Word-clause-range : goal.returns-in-Word-clause-range
returns-in-Word-clause-range c =
    rw c.in-Word.is (λ fits v is. word_between c.in-Word.number v (sym c.value_of-in-Word.ensures ∙ is) fits)
