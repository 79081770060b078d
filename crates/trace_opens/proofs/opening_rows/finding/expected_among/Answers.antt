use Rattle.history_journal.specs.Following.{machine_of}
use Rattle.history_state.specs.After.{after}
use Rattle.link_open_plan.specs.declared.before.Before.{Before}
use Rattle.trace_opens.specs.OpeningRows.Expected.{trace_run}
use Rattle.trace_opens.proofs.FailedPaths.Plans.{if_err}
use Rattle.trace_opens.proofs.OpeningRows.Answered.{if_ok}
use Rattle.trace_opens.proofs.OpeningRows.Lent.{Lends, are_objects, before_is}
use Rattle.trace_opens.proofs.opening_rows.finding.expected_among.Goals as goal

pub expected_before-requires : goal.expected_before-requires
expected_before-requires g c = record {
  there = are_objects c.args.replay.now.harts (after c.has_history.ensures.past) c.args.ns c.args.namespace.now (c.requires.before c.has_history.ensures.past c.has_history.ensures.shows)
      (c.objects_are_read.ensures.mapped (machine_of c.args.replay.now.harts) c.has_history.ensures.past c.has_history.ensures.shows.lawful) c.one_object.ensures.table c.one_image.ensures.read;
}

pub returns-clause-expected : goal.returns-clause-expected
returns-clause-expected g c =
    let b : Before = record { namespace = c.args.namespace; next = c.next_serial.result; regions = c.regions.result; modules = c.modules.result; binds_now = c.binds_now.result } in
    let lends : Lends c.args.replay.now b = record { next = c.next_serial.ensures; free = c.regions.ensures; modules = c.modules.ensures.modules; size = c.modules.ensures.size; tp = c.modules.ensures.tp } in
    if_ok c.expected_before.result.0 (λ found row past shows.
    row (trace_run c.args.replay.now.harts c.args.folders.now (g.L.Library.files c.args.library)) past
    (before_is c.args.replay.now b past c.args.ask.now c.args.name.now c.args.ns c.args.folders.now (g.L.Library.files c.args.library) lends c.binds_now.ensures c.requires.begun
    shows (c.requires.named past shows) (c.requires.before past shows)))
    c.expected_before.ensures.expected

pub returns-clause-path : goal.returns-clause-path
returns-clause-path g c =
    let b : Before = record { namespace = c.args.namespace; next = c.next_serial.result; regions = c.regions.result; modules = c.modules.result; binds_now = c.binds_now.result } in
    let lends : Lends c.args.replay.now b = record { next = c.next_serial.ensures; free = c.regions.ensures; modules = c.modules.ensures.modules; size = c.modules.ensures.size; tp = c.modules.ensures.tp } in
    if_err c.expected_before.result.0 (λ doubt row past shows.
    row (trace_run c.args.replay.now.harts c.args.folders.now (g.L.Library.files c.args.library)) past
    (before_is c.args.replay.now b past c.args.ask.now c.args.name.now c.args.ns c.args.folders.now (g.L.Library.files c.args.library) lends c.binds_now.ensures c.requires.begun
    shows (c.requires.named past shows) (c.requires.before past shows)))
    c.expected_before.ensures.path
