use Rattle.std.proofs.Common.{[], sym, subst}
use Rattle.std.specs.Prelude.{IfErr, IfOk}
use Rattle.history_event.specs.declared.event.OpenAsk.{OpenAsk}
use Rattle.history_state.specs.After.{after}
use Rattle.history_calls.specs.Startup.{program_ask}
use Rattle.link_open_plan.specs.Planned.{IsUnopened, PlansNew}
use Rattle.link_open_plan.specs.Startup.{run_of}
use Rattle.trace_opens.specs.FailedPaths.Row.{GivesOther}
use Rattle.trace_opens.specs.OpeningRows.Expected.{MayFailSo}
use Rattle.history_state.specs.Allowed.{Allowed}
use Rattle.trace_opens.specs.FailedPaths.Emptied.{first_rule, is_broken}
use Rattle.trace_opens.proofs.FailedPaths.Plans.{broken_at, fails_so, if_err, if_ok, start_ask, start_other}
use Rattle.trace_opens.proofs.failed_paths.reading.plan_program_and_judge.Goals as goal

pub returns-clause-no : goal.returns-clause-no
returns-clause-no g c = if_ok c.judge.result (λ may sure no.
    let w = run_of c.args.setup.now (g.L.Library.files c.args.library.now) in
    subst (λ (a : OpenAsk). GivesOther w [] 0 a c.args.path.now) (sym c.requires.ask)
    (start_other w c.args.setup.now c.args.path.now c.plan_program-planned.result (sure no)
    (subst (λ (a : OpenAsk). IfOk c.plan_program-planned.result (PlansNew w (after []) 0 a c.args.setup.now.program 0)) c.requires.ask c.plan_program-planned.ensures.planned)
    (subst (λ (a : OpenAsk). IfErr c.plan_program-planned.result (IsUnopened w (after []) 0 a)) c.requires.ask c.plan_program-planned.ensures.unopened)))
    c.judge.ensures.no

pub returns-clause-path : goal.returns-clause-path
returns-clause-path g c = if_err c.judge.result (λ doubt failed.
    let w = run_of c.args.setup.now (g.L.Library.files c.args.library.now) in
    subst (λ (a : OpenAsk). MayFailSo w [] 0 a doubt) (sym c.requires.ask)
    (fails_so w [] 0 (program_ask c.args.setup.now) c.plan_program-planned.result (λ begins. start_ask c.args.setup.now)
    (subst (λ (a : OpenAsk). IfErr c.plan_program-planned.result (IsUnopened w (after []) 0 a)) c.requires.ask c.plan_program-planned.ensures.unopened) doubt failed))
    c.judge.ensures.failed

pub returns-clause-yes : goal.returns-clause-yes
returns-clause-yes g c = if_ok c.judge.result (λ may is yes.
    let w = run_of c.args.setup.now (g.L.Library.files c.args.library.now) in
    subst (λ (a : OpenAsk). Allowed w [] (is_broken 0 a c.args.path.now first_rule)) (sym c.requires.ask)
    (broken_at w [] 0 (program_ask c.args.setup.now) c.args.path.now c.plan_program-planned.result (λ begins. start_ask c.args.setup.now) (is yes)
    (subst (λ (a : OpenAsk). IfErr c.plan_program-planned.result (IsUnopened w (after []) 0 a)) c.requires.ask c.plan_program-planned.ensures.unopened)))
    c.judge.ensures.yes

pub returns-clause-failed : goal.returns-clause-failed
returns-clause-failed g c =
    if_err c.judge.result (λ doubt shown failed is. c.plan_program-planned.ensures.counts.failed failed (shown failed is)) c.judge.ensures.failed
