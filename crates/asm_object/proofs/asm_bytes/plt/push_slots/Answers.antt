use Rattle.std.proofs.Common.{ap, ◌∙◌, ◌++◌}
use Rattle.asm_object.specs.AsmBytes.Words.{slot_code}
use Rattle.asm_object.proofs.AsmBytes.Linkage.{one_more}
use Rattle.asm_object.proofs.asm_bytes.plt.push_slots.Goals as goal

pub loop-slot-preserved : goal.loop-slot-preserved
loop-slot-preserved c =
    let f = slot_code c.args.plt c.args.got_plt in
    c.in_ok-push_numbered.ensures ∙ ap (λ bytes. bytes ++ f c.loop-slot.slot) c.loop-slot.invariant ∙ one_more f c.args.out.now.items c.loop-slot.slot
