use Rattle.std.proofs.Common.{ℕ, [], sym, subst}
use Rattle.history_state.specs.After.{after}
use Rattle.link_open_plan.specs.Startup.{run_of}
use Rattle.trace_opens.specs.OpeningRows.Expected.{FailsBy, LoadsName, MayFailSo}
use Rattle.trace_opens.proofs.FailedPaths.Plans.{err_of, start_ask, start_named}
use Rattle.trace_opens.proofs.OpeningRows.Answered.{fails, if_ok}
use Rattle.trace_opens.proofs.opening_rows.starting.expected_program.Goals as goal

pub returns-in-Some-clause-path : goal.returns-in-Some-clause-path
returns-in-Some-clause-path g c =
    err_of (MayFailSo (run_of c.args.setup.now (g.L.Library.files c.args.library)) [] 0 c.args.ask.now) tt c.may_fail_at_start-may.result.0 c.failed_opening.result c.failed_opening.ensures.failed
    c.may_fail_at_start-may.ensures.path

pub returns-in-Some-clause-expected : goal.returns-in-Some-clause-expected
returns-in-Some-clause-expected g c =
    let w = run_of c.args.setup.now (g.L.Library.files c.args.library) in
    let loads : LoadsName (after []) 0 c.args.ask.now = subst (LoadsName (after []) 0) (sym c.requires.ask)
    (record { may = λ begins. start_ask c.args.setup.now; name = c.args.setup.now.program; id = 0; named = start_named c.args.setup.now }) in
    if_ok c.failed_opening.result (λ found is.
    fails w [] 0 c.args.ask.now c.args.line.now c.in-Some.path.now c.may_fail_at_start-may.result.0 found loads (sym c.in-Some.ensures)
    (subst (λ (h : ℕ). FailsBy h c.args.ask.now c.in-Some.path.now c.may_fail_at_start-may.result.0 found) c.new.ensures is)
    c.may_fail_at_start-may.ensures.yes c.may_fail_at_start-may.ensures.no)
    c.failed_opening.ensures.found
