use Rattle.std.proofs.Common.{ap}
use Rattle.history_event.specs.declared.event.Event.TheVariants as events
use Rattle.trace_rows.specs.Rows.{unsaid}
use Rattle.trace_rows.proofs.Unsaid.{decided_in, decided_of}
use Rattle.trace_rows.proofs.expecting.slot_may_come.Goals as goal

pub returns-in-Grant : goal.returns-in-Grant
returns-in-Grant c = decided_of c.args.replay.now c.args.line.now (events.Grant c.in-Grant.grant c.in-Grant.hart c.in-Grant.owner c.in-Grant.slot c.in-Grant.choice c.in-Grant.value) c.may_grant.result (ap unsaid c.in-Grant.is) c.may_grant.ensures

pub returns-in-Unresolved : goal.returns-in-Unresolved
returns-in-Unresolved c = decided_of c.args.replay.now c.args.line.now (events.Unresolved c.in-Unresolved.hart c.in-Unresolved.owner c.in-Unresolved.slot c.in-Unresolved.choice) c.may_not_bind.result (ap unsaid c.in-Unresolved.is) c.may_not_bind.ensures

pub returns-in-Lost : goal.returns-in-Lost
returns-in-Lost c = decided_in c.args.replay.now c.args.line.now (events.Lost c.in-Lost.grant c.in-Lost.saw) c.may_lose.result (ap unsaid c.in-Lost.is) (c.may_lose.ensures)
