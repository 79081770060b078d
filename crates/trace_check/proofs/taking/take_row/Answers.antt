use Rattle.std.proofs.Common.{[], None, refl}
use Rattle.trace_opens.specs.OpeningRows.Expected.{trace_run}
use Rattle.trace_rows.specs.Rows.{IsExpected}
use Rattle.trace_check.proofs.Taken.{some_in}
use Rattle.trace_check.proofs.taking.take_row.Goals as goal

pub take_event-requires-clause-follows : goal.take_event-requires-clause-follows
take_event-requires-clause-follows c =
    let e = some_in (IsExpected c.args.replay.now c.args.said.now) c.in_ok-event.field-0 c.in-Some.event c.in-Some.is c.in_ok-event.ensures.may in
    λ past shows. record { setting = trace_run c.args.replay.now.harts [] None; machine = refl; may = e.may (trace_run c.args.replay.now.harts [] None) past refl shows }

pub returns-in_ok-take_event-in-Some-clause-comes : goal.returns-in_ok-take_event-in-Some-clause-comes
returns-in_ok-take_event-in-Some-clause-comes c =
    let e = some_in (IsExpected c.args.replay.now c.args.said.now) c.in_ok-event.field-0 c.in-Some.event c.in-Some.is c.in_ok-event.ensures.may in
    λ w past machine shows. record { event = c.in-Some.event; is = e.said; may = e.may w past machine shows; shows = c.in_ok-take_event-in-Some.ensures.takes past shows }
