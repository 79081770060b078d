use Rattle.asm_object.proofs.Lasting.{one_more}
use Rattle.asm_object.proofs.last.last_statement.Goals as goal

pub loop-number-preserved : goal.loop-number-preserved
loop-number-preserved c =
    one_more c.as_slice-line-items.result.now c.loop-number.number c.loop-number.last c.last_with-last.result _ c.line-item.result
    c.loop-number-test.true c.line-item.is c.last_with-last.ensures c.loop-number.invariant
