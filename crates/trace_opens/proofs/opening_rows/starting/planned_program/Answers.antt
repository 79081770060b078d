use Rattle.std.proofs.Common.{ℕ, [], Some, sym, ap, subst, ◌∙◌}
use Rattle.history_event.specs.declared.event.OpenAsk.{OpenAsk}
use Rattle.history_event.specs.declared.handed.Opening.{Opening}
use Rattle.history_state.specs.After.{after}
use Rattle.history_calls.specs.Startup.{program_ask}
use Rattle.link_open_plan.specs.Planned.{IsUnopened, PlansNew}
use Rattle.link_open_plan.specs.Startup.{run_of}
use Rattle.trace_opens.specs.OpeningRows.Expected.{IsExpectedOpening, MayFailSo, brought, unplanned}
use Rattle.trace_opens.proofs.FailedPaths.Plans.{fails_err, if_err, start_ask}
use Rattle.trace_opens.proofs.OpeningRows.Answered.{both_ok}
use Rattle.trace_opens.proofs.OpeningRows.First.{first_none, first_plan}
use Rattle.trace_opens.proofs.opening_rows.starting.planned_program.Goals as goal

pub returns-in-Ok-clause-expected : goal.returns-in-Ok-clause-expected
returns-in-Ok-clause-expected g c = λ line read.
    let w = run_of c.args.setup.now (g.L.Library.files c.args.library.now) in
    let same = c.brought.ensures ∙ ap (λ (h : ℕ). brought h c.in_ok-asked.asked 0 c.in-Ok.news) c.new.ensures ∙ ap (λ (a : OpenAsk). brought 0 a 0 c.in-Ok.news) (c.in_ok-asked.ensures ∙ c.requires.ask) in
    subst (λ (o : Opening). IsExpectedOpening w [] 0 c.args.ask.now line (Some o)) (sym same)
    (subst (λ (a : OpenAsk). IsExpectedOpening w [] 0 a line (Some (brought 0 (program_ask c.args.setup.now) 0 c.in-Ok.news))) (sym c.requires.ask)
    (first_plan c.one_answer.ensures.openings w c.args.setup.now line read c.in-Ok.news
    (subst (λ (a : OpenAsk). PlansNew w (after []) 0 a c.args.setup.now.program 0 c.in-Ok.news) c.requires.ask c.in-Ok.ensures.planned)))

pub returns-in-Err-clause-expected : goal.returns-in-Err-clause-expected
returns-in-Err-clause-expected g c = both_ok c.unplanned.result (λ found is certain line read.
    let w = run_of c.args.setup.now (g.L.Library.files c.args.library.now) in
    let same = is ∙ ap (λ (h : ℕ). unplanned h c.in_ok-asked.asked c.in-Err.why) c.new-in-Err.ensures ∙ ap (λ (a : OpenAsk). unplanned 0 a c.in-Err.why) (c.in_ok-asked.ensures ∙ c.requires.ask) in
    subst (IsExpectedOpening w [] 0 c.args.ask.now line) (sym same)
    (subst (λ (a : OpenAsk). IsExpectedOpening w [] 0 a line (unplanned 0 (program_ask c.args.setup.now) c.in-Err.why)) (sym c.requires.ask)
    (first_none c.one_answer.ensures.openings w c.args.setup.now line read c.in-Err.why certain
    (subst (λ (a : OpenAsk). IsUnopened w (after []) 0 a c.in-Err.why) c.requires.ask c.in-Err.ensures.unopened))))
    c.unplanned.ensures.found c.unplanned.ensures.certain

pub returns-in-Err-clause-path : goal.returns-in-Err-clause-path
returns-in-Err-clause-path g c = if_err c.unplanned.result (λ doubt failed.
    let w = run_of c.args.setup.now (g.L.Library.files c.args.library.now) in
    subst (λ (a : OpenAsk). MayFailSo w [] 0 a doubt) (sym c.requires.ask)
    (fails_err w [] 0 (program_ask c.args.setup.now) c.in-Err.why (λ begins. start_ask c.args.setup.now)
    (subst (λ (a : OpenAsk). IsUnopened w (after []) 0 a c.in-Err.why) c.requires.ask c.in-Err.ensures.unopened) doubt failed))
    c.unplanned.ensures.failed
