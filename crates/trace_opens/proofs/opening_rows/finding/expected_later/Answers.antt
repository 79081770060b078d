use Rattle.std.proofs.Common.{◌≡◌, ℕ, List, [], Some, false, sym, ap, subst, ◌∙◌}
use Rattle.history_event.specs.declared.event.Event.{Event}
use Rattle.history_event.specs.declared.event.OpenAnswer.TheVariants.{Done}
use Rattle.history_event.specs.declared.handed.Opening.{Opening}
use Rattle.history_journal.specs.Following.{machine_of}
use Rattle.history_state.specs.After.{after}
use Rattle.history_state.specs.Objects.{is_startup}
use Rattle.trace_opens.specs.OpeningRows.Expected.{IsExpectedOpening, MayFailSo, trace_run}
use Rattle.trace_opens.proofs.FailedPaths.Plans.{err_memory}
use Rattle.trace_opens.proofs.OpeningRows.Answered.{if_ok}
use Rattle.trace_opens.proofs.OpeningRows.Later.{expects_program, expects_refusal}
use Rattle.trace_replay.specs.Shown.{Shows}
use Rattle.trace_opens.proofs.opening_rows.finding.expected_later.Goals as goal

pub returns-in-Refused-clause-expected : goal.returns-in-Refused-clause-expected
returns-in-Refused-clause-expected g c = if_ok c.refused_opening.result (λ found is past shows.
    let w = trace_run c.args.replay.now.harts c.args.folders.now (g.L.Library.files c.args.library) in
    let started : is_startup (after past) ≡ false = sym shows.state.begins ∙ c.requires.begun in
    subst (IsExpectedOpening w past c.args.hart c.args.ask.now c.args.line.now) (sym is)
    (expects_refusal w past c.args.hart c.args.ask.now started c.refused_by_asking.ensures c.refusals_come_in_order.ensures.asked c.args.line.now c.in-Refused.fault
    (c.in-Refused.ensures (after past) started (sym shows.state.namespaces ∙ sym c.namespaces.ensures))))
    c.refused_opening.ensures.found

pub returns-in-None-clause-expected : goal.returns-in-None-clause-expected
returns-in-None-clause-expected g c = if_ok c.there_opening.result (λ found is past shows.
    let w = trace_run c.args.replay.now.harts c.args.folders.now (g.L.Library.files c.args.library) in
    let started : is_startup (after past) ≡ false = sym shows.state.begins ∙ c.requires.begun in
    let program : ℕ → Opening = λ root. record { hart = c.args.hart; ask = c.args.ask.now; answer = Done c.in-In.ns root [] []; choices = [] } in
    subst (IsExpectedOpening w past c.args.hart c.args.ask.now c.args.line.now) (sym (is ∙ ap (λ root. Some (program root)) c.new.ensures))
    (expects_program w past c.args.hart c.args.ask.now started c.args.line.now c.in-In.ns c.in-None.is
    (c.in-In.ensures (after past) started (sym shows.state.namespaces ∙ sym c.namespaces.ensures)) (c.program_stays.ensures (machine_of c.args.replay.now.harts) past shows.lawful started)))
    c.there_opening.ensures.found

pub returns-in-Refused-clause-path : goal.returns-in-Refused-clause-path
returns-in-Refused-clause-path g c =
    err_memory (λ doubt. (past : List Event) → Shows past c.args.replay.now → MayFailSo (trace_run c.args.replay.now.harts c.args.folders.now (g.L.Library.files c.args.library)) past c.args.hart c.args.ask.now doubt)
    (λ past shows. tt) c.refused_opening.result c.refused_opening.ensures.memory

pub returns-in-None-clause-path : goal.returns-in-None-clause-path
returns-in-None-clause-path g c =
    err_memory (λ doubt. (past : List Event) → Shows past c.args.replay.now → MayFailSo (trace_run c.args.replay.now.harts c.args.folders.now (g.L.Library.files c.args.library)) past c.args.hart c.args.ask.now doubt)
    (λ past shows. tt) c.there_opening.result c.there_opening.ensures.memory
