use Rattle.std.proofs.Common.{List, sym}
use Rattle.history_event.specs.declared.event.Event.{Event}
use Rattle.history_state.specs.After.{after}
use Rattle.history_state.specs.Setting.{Setting}
use Rattle.link_open_plan.specs.Before.{IsBefore}
use Rattle.trace_opens.specs.OpeningRows.Expected.{LoadsName, MayFailSo}
use Rattle.trace_opens.proofs.FailedPaths.Plans.{err_of, if_err, may_ask}
use Rattle.trace_opens.proofs.OpeningRows.Answered.{fails, if_ok}
use Rattle.trace_opens.proofs.opening_rows.finding.expected_before.Goals as goal

pub returns-in-None-clause-expected : goal.returns-in-None-clause-expected
returns-in-None-clause-expected g c =
    if_ok c.planned_opening-found.result (λ found row w past before. row w past c.args.line.now (sym c.in-None.ensures) before) c.planned_opening-found.ensures.expected

pub returns-in-Some-clause-path : goal.returns-in-Some-clause-path
returns-in-Some-clause-path g c =
    err_of (λ doubt. (w : Setting) (past : List Event) → IsBefore w past c.args.ask.now c.args.name.now c.args.ns c.args.before.now c.args.folders.now (g.L.Library.files c.args.library) → MayFailSo w past c.args.hart c.args.ask.now doubt)
    (λ w past before. tt) c.may_fail_at-may.result.0 c.failed_opening.result c.failed_opening.ensures.failed
    (if_err c.may_fail_at-may.result.0 (λ doubt row w past before. row w past c.args.ns before) c.may_fail_at-may.ensures.path)

pub returns-in-Some-clause-expected : goal.returns-in-Some-clause-expected
returns-in-Some-clause-expected g c =
    if_ok c.failed_opening.result (λ found is w past before.
    let loads : LoadsName (after past) c.args.hart c.args.ask.now = record { may = may_ask (after past) c.args.hart c.args.ask.now before.made.started; name = c.args.name.now; id = c.args.ns; named = before.made.named } in
    fails w past c.args.hart c.args.ask.now c.args.line.now c.in-Some.path.now c.may_fail_at-may.result.0 found loads (sym c.in-Some.ensures) is
    (if_ok c.may_fail_at-may.result.0 (λ may row yes. row yes w past c.args.ns before) c.may_fail_at-may.ensures.yes)
    (if_ok c.may_fail_at-may.result.0 (λ may row no files told. row no w files past c.args.ns told before) c.may_fail_at-may.ensures.no))
    c.failed_opening.ensures.found
