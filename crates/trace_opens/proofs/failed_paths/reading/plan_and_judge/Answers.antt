use Rattle.trace_opens.proofs.FailedPaths.Plans.{broken_at, fails_so, if_err, if_ok, may_ask, other_at}
use Rattle.history_state.specs.After.{after}
use Rattle.trace_opens.proofs.failed_paths.reading.plan_and_judge.Goals as goal

pub returns-clause-yes : goal.returns-clause-yes
returns-clause-yes g c = if_ok c.judge.result (λ may is yes w past id before.
    broken_at w past c.args.hart c.args.ask.now c.args.path.now c.plan_named-planned.result (may_ask (after past) c.args.hart c.args.ask.now before.made.started) (is yes)
    (c.plan_named-planned.ensures.unopened w past id before))
    c.judge.ensures.yes

pub returns-clause-no : goal.returns-clause-no
returns-clause-no g c = if_ok c.judge.result (λ may sure no w past id before.
    other_at w past c.args.hart c.args.ask.now c.args.name.now id c.args.path.now c.args.before.now c.args.folders.now (g.L.Library.files c.args.library.now) c.plan_named-planned.result before (sure no)
    (c.plan_named-planned.ensures.planned w past id before) (c.plan_named-planned.ensures.unopened w past id before))
    c.judge.ensures.no

pub returns-clause-path : goal.returns-clause-path
returns-clause-path g c = if_err c.judge.result (λ doubt failed w past id before.
    fails_so w past c.args.hart c.args.ask.now c.plan_named-planned.result (may_ask (after past) c.args.hart c.args.ask.now before.made.started)
    (c.plan_named-planned.ensures.unopened w past id before) doubt failed)
    c.judge.ensures.failed

pub returns-clause-failed : goal.returns-clause-failed
returns-clause-failed g c =
    if_err c.judge.result (λ doubt shown failed is. c.plan_named-planned.ensures.counts.failed failed (shown failed is)) c.judge.ensures.failed
