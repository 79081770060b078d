use Rattle.std.proofs.Common.{Some, sym, ap, subst, ◌∙◌}
use Rattle.history_event.specs.declared.event.OpenAsk.{OpenAsk}
use Rattle.history_event.specs.declared.handed.Opening.{Opening}
use Rattle.history_state.specs.After.{after}
use Rattle.trace_opens.specs.OpeningRows.Expected.{IsExpectedOpening, planned, unplanned}
use Rattle.trace_opens.proofs.FailedPaths.Plans.{fails_err, if_err, may_ask}
use Rattle.trace_opens.proofs.OpeningRows.Answered.{both_ok, expects_none, expects_plan}
use Rattle.trace_opens.proofs.opening_rows.finding.planned_opening.Goals as goal

pub returns-in-Ok-clause-expected : goal.returns-in-Ok-clause-expected
returns-in-Ok-clause-expected g c = λ w past line read before.
    subst (λ (o : Opening). IsExpectedOpening w past c.args.hart c.args.ask.now line (Some o)) (sym (c.planned.ensures ∙ ap (λ (a : OpenAsk). planned c.args.hart a c.args.ns c.in-Ok.plan) c.in_ok-asked.ensures))
    (expects_plan w past c.args.hart c.args.ask.now c.args.name.now c.args.ns (may_ask (after past) c.args.hart c.args.ask.now before.made.started) before.made.named
    c.one_answer.ensures.openings line read c.in-Ok.plan (c.in-Ok.ensures.planned w past c.args.ns before))

pub returns-in-Err-clause-expected : goal.returns-in-Err-clause-expected
returns-in-Err-clause-expected g c = both_ok c.unplanned.result (λ found is certain w past line read before.
    subst (IsExpectedOpening w past c.args.hart c.args.ask.now line) (sym (is ∙ ap (λ (a : OpenAsk). unplanned c.args.hart a c.in-Err.why) c.in_ok-asked.ensures))
    (expects_none w past c.args.hart c.args.ask.now c.args.name.now c.args.ns (may_ask (after past) c.args.hart c.args.ask.now before.made.started) before.made.named
    c.one_answer.ensures.openings line read c.in-Err.why certain (c.in-Err.ensures.unopened w past c.args.ns before)))
    c.unplanned.ensures.found c.unplanned.ensures.certain

pub returns-in-Err-clause-path : goal.returns-in-Err-clause-path
returns-in-Err-clause-path g c = if_err c.unplanned.result (λ doubt failed w past before.
    fails_err w past c.args.hart c.args.ask.now c.in-Err.why (may_ask (after past) c.args.hart c.args.ask.now before.made.started) (c.in-Err.ensures.unopened w past c.args.ns before) doubt failed)
    c.unplanned.ensures.failed
