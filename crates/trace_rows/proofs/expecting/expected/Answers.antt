use Rattle.trace_rows.proofs.Unsaid.{expected_so, none_so}
use Rattle.trace_rows.proofs.expecting.expected.Goals as goal

pub returns-then-not-branch-clause-only : goal.returns-then-not-branch-clause-only
returns-then-not-branch-clause-only c = none_so c.args.replay.now c.args.line.now c.in_ok-may_come.field-0 c.requires.no_opening c.in_ok-may_come.ensures c.if-not-branch.true

pub returns-clause-may : goal.returns-clause-may
returns-clause-may c = expected_so c.args.replay.now c.args.line.now c.in_ok-event.event c.in_ok-may_come.field-0 c.in_ok-event.ensures c.in_ok-may_come.ensures c.if-not-branch.false
