use Rattle.std.proofs.Common.{take}
use Rattle.std.specs.Prelude.{filter_map}
use Rattle.std.proofs.lemmas.List.{take_all}
use Rattle.asm_layout.specs.Uses.{distinct, same_use, got_use, got_uses}
use Rattle.asm_layout.proofs.Distinct.{distinct_further}
use Rattle.asm_uses.proofs.got.Got.fill.Goals as goal

pub loop-line-init : goal.loop-line-init
unfolding distinct
loop-line-init c = c.requires

pub loop-line-preserved : goal.loop-line-preserved
loop-line-preserved c =
    let lines = c.as_slice-line-items.result.now in
    rw (distinct_further same_use (λ line. got_use line.statement) lines c.loop-line.line-index c.line-item.result
    c.loop-line-test.true c.line-item.is)
    (c.in_ok-add_line.ensures (distinct same_use (filter_map (λ line. got_use line.statement) (take c.loop-line.line-index lines))) c.loop-line.invariant)

pub returns : goal.returns
unfolding got_uses
returns c =
    let lines = c.as_slice-line-items.result.now in
    let all = take_all c.loop-line.line-index lines c.loop-line-test.false in
    rw (← c.as_slice-line-items.ensures, ← all) c.loop-line.invariant
