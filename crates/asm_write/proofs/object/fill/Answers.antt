use Rattle.std.proofs.Common.{◌∙◌, ap, ◌+◌, ◌-◌, ◌++◌, replicate}
use Rattle.asm_write.proofs.Zeros.{one_more}
use Rattle.asm_write.proofs.object.fill.Goals as goal

pub loop-zero-preserved : goal.loop-zero-preserved
loop-zero-preserved c =
    let left = c.args.offset - (c.loop-zero._zero + 1) in
    ap (λ bytes. bytes ++ replicate left 0) c.in_ok-append_zero.ensures
    ∙ one_more c.loop-zero.out.items c.args.offset c.loop-zero._zero c.loop-zero-test.true ∙ c.loop-zero.invariant
