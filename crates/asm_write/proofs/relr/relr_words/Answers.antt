-- One step is taken of those that are left.
use Rattle.std.proofs.Common.{◌≡◌, ◌∙◌, ap, ◌+◌, ◌-◌, ◌*◌, suc, length, arith}
use Rattle.asm_write.specs.Packing.{left}
use Rattle.asm_write.proofs.relr.relr_words.Goals as goal

pub loop-step-preserved : goal.loop-step-preserved
loop-step-preserved c =
    let end = 2 * length c.args.places.now in
    let step = c.loop-step._step in
    let one_less : suc (end - (step + 1)) ≡ end - step = omega arith in
    c.in_ok-packing.ensures (end - (step + 1)) ∙ ap (λ most. left most c.loop-step.packing) one_less ∙ c.loop-step.invariant
