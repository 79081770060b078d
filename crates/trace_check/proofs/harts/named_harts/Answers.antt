use Rattle.std.proofs.Common.{rules, ◌<◌, length, arith}
use Rattle.trace_check.proofs.Counted.{at_end, at_hart, at_other, at_over}
use Rattle.trace_check.proofs.harts.named_harts.Goals as goal
use Rattle.trace_check.proofs.harts.named_harts.Goals.{in-Hart+in_ok-named-in-Hart, in-Other}

pub returns-in-Over : goal.returns-in-Over
returns-in-Over c = at_over (λ line. line.now) c.args.lines.now c.loop-line.line-index _ c.loop-line.named (omega arith) c.in_ok-line_part.field-0 c.in-Over.is c.in_ok-line_part.ensures c.loop-line.invariant

pub loop-line-preserved : goal.loop-line-preserved
loop-line-preserved c =
    let inside : c.loop-line.line-index < length c.args.lines.now = omega arith in
    elim c.match-branch-2.branch [
      | in-Hart+in_ok-named-in-Hart w ↦ at_hart (λ line. line.now) c.args.lines.now c.loop-line.line-index _ c.loop-line.named inside c.in_ok-line_part.field-0 w.in-Hart.is c.in_ok-line_part.ensures c.match-branch-2.named (search rules) c.loop-line.invariant
      | in-Other w ↦ at_other (λ line. line.now) c.args.lines.now c.loop-line.line-index _ c.loop-line.named inside c.in_ok-line_part.field-0 w.in-Other.is c.in_ok-line_part.ensures c.match-branch-2.named w.named-is c.loop-line.invariant
    ]

pub returns : goal.returns
returns c = at_end (λ line. line.now) c.args.lines.now c.loop-line.line-index c.loop-line.named (omega arith) c.loop-line.invariant
