use Rattle.std.proofs.Common.{◌∙◌, sym}
use Rattle.asm_layout.specs.Uses.{copies}
use Rattle.asm_layout.proofs.Firsts.{one_further}
use Rattle.asm_uses.proofs.export_set.copies_of.Goals as goal

pub loop-number-preserved : goal.loop-number-preserved
loop-number-preserved c = λ bytes.
    c.in_ok-note_copy.ensures bytes
    ∙ rw (c.loop-number.invariant bytes)
    (sym (one_further (λ line. copies bytes line.statement) c.as_slice-line-items.result.now c.loop-number.number c.line-item.result
    c.loop-number-test.true c.line-item.is))
