use Rattle.std.proofs.Common.{ℕ, [], sym, ap, subst, ◌∙◌}
use Rattle.std.specs.Prelude.{IsTrue}
use Rattle.history_journal.specs.Following.{machine_of}
use Rattle.history_state.specs.After.{after}
use Rattle.history_state.specs.Asking.{IsStartupAsk}
use Rattle.history_state.specs.Objects.{is_startup}
use Rattle.history_state.specs.Setting.{Setting}
use Rattle.trace_opens.specs.OpeningRows.Expected.{IsExpectedOpening, MayFailSo, trace_run}
use Rattle.trace_opens.proofs.FailedPaths.Plans.{if_err}
use Rattle.trace_opens.proofs.OpeningRows.Answered.{if_ok}
use Rattle.trace_opens.proofs.OpeningRows.First.{expects_behind, fails_behind, run_is}
use Rattle.trace_opens.proofs.opening_rows.starting.expected_first.Goals as goal

pub returns-in-Ok-clause-expected : goal.returns-in-Ok-clause-expected
returns-in-Ok-clause-expected g c =
    let files = g.L.Library.files c.args.library in
    let asks : IsStartupAsk c.args.hart c.args.ask.now = c.is_startup_ask.ensures.0 c.if-is_startup_ask.true in
    if_ok c.expected_program.result.0 (λ found x past shows.
    let begins : IsTrue (is_startup (after past)) = sym shows.state.begins ∙ c.requires.begins in
    let same = ap (λ (n : ℕ). trace_run n c.args.folders.now files) (sym c.harts.ensures) ∙ run_is c.harts.result c.args.folders.now files c.args.ask.now c.in-Ok.setup c.in-Ok.ensures in
    expects_behind c.startup_needs_no_past.ensures (machine_of c.args.replay.now.harts) (trace_run c.args.replay.now.harts c.args.folders.now files) past shows.lawful begins
    (c.nothing_comes_before_startup.ensures (machine_of c.args.replay.now.harts) past shows.lawful begins) c.args.hart c.args.ask.now c.args.line.now found asks.by_first
    (subst (λ (v : Setting). IsExpectedOpening v [] 0 c.args.ask.now c.args.line.now found) (sym same) x))
    c.expected_program.ensures.expected

pub returns-in-Ok-clause-path : goal.returns-in-Ok-clause-path
returns-in-Ok-clause-path g c =
    let files = g.L.Library.files c.args.library in
    let asks : IsStartupAsk c.args.hart c.args.ask.now = c.is_startup_ask.ensures.0 c.if-is_startup_ask.true in
    if_err c.expected_program.result.0 (λ doubt x past shows.
    let begins : IsTrue (is_startup (after past)) = sym shows.state.begins ∙ c.requires.begins in
    let same = ap (λ (n : ℕ). trace_run n c.args.folders.now files) (sym c.harts.ensures) ∙ run_is c.harts.result c.args.folders.now files c.args.ask.now c.in-Ok.setup c.in-Ok.ensures in
    fails_behind c.startup_needs_no_past.ensures (machine_of c.args.replay.now.harts) (trace_run c.args.replay.now.harts c.args.folders.now files) past shows.lawful begins
    (c.nothing_comes_before_startup.ensures (machine_of c.args.replay.now.harts) past shows.lawful begins) c.args.hart c.args.ask.now asks.by_first doubt
    (subst (λ (v : Setting). MayFailSo v [] 0 c.args.ask.now doubt) (sym same) x))
    c.expected_program.ensures.path
