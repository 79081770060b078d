use Rattle.std.proofs.Common.{◌∙◌, ap, ◌+◌, ◌++◌, drop}
use Rattle.asm_write.specs.Values.{lazy_words}
use Rattle.asm_write.proofs.Slots.{one_slot}
use Rattle.asm_write.proofs.tables.append_slots.Goals as goal

pub loop-slot-preserved : goal.loop-slot-preserved
loop-slot-preserved c =
    let rest = lazy_words c.args.plt (drop (c.loop-slot._slot-index + 1) c.args.slots.now) in
    ap (λ bytes. bytes ++ rest) c.in_ok-append_doubleword.ensures
    ∙ one_slot c.args.plt c.loop-slot._slot-index c.args.slots.now c.loop-slot.out.items c.loop-slot-test.true ∙ c.loop-slot.invariant
