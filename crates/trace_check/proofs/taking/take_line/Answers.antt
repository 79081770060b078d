use Rattle.std.proofs.Common.{List}
use Rattle.history_event.specs.declared.event.Event.{Event}
use Rattle.trace_check.specs.Rows.{IsDoubtOf}
use Rattle.trace_opens.specs.OpeningRows.Expected.{trace_run}
use Rattle.trace_replay.specs.Shown.{Shows}
use Rattle.trace_check.proofs.Opened.{if_err, line_checked, line_doubted}
use Rattle.trace_check.proofs.taking.take_line.Goals as goal

pub returns-in-Ok-clause-checked : goal.returns-in-Ok-clause-checked
returns-in-Ok-clause-checked g c =
    line_checked c.args.replay.now c.take_said-may.new.replay c.args.folders.now (g.L.Library.files c.args.library) c.args.line.now c.in-Ok.said c.take_said-may.result.0 c.refusal.result c.in-Ok.ensures.line c.refusal.ensures c.take_said-may.ensures.comes

pub returns-in-Ok-clause-path : goal.returns-in-Ok-clause-path
returns-in-Ok-clause-path g c =
    line_doubted (λ doubt. (past : List Event) → Shows past c.args.replay.now → IsDoubtOf (trace_run c.args.replay.now.harts c.args.folders.now (g.L.Library.files c.args.library)) past c.args.line.now doubt)
    c.take_said-may.result.0 c.refusal.result c.refusal.ensures
    (if_err c.take_said-may.result.0 (λ doubt row past shows. row past c.args.line.now shows c.in-Ok.ensures.line) c.take_said-may.ensures.path)
