use Rattle.std.proofs.Common.{ap, map, sym}
use Rattle.trace_check.specs.Rows.{StopsIn}
use Rattle.trace_check.specs.Split.{lines_of}
use Rattle.trace_opens.specs.OpeningRows.Expected.{trace_run}
use Rattle.trace_check.proofs.Opened.{if_err}
use Rattle.trace_check.proofs.Taken.{err_in}
use Rattle.trace_check.proofs.check.check_lines.Goals as goal

pub returns-clause-stopped : goal.returns-clause-stopped
returns-clause-stopped g c =
    err_in (StopsIn (trace_run c.args.replay.harts c.args.folders.now (g.L.Library.files c.args.library)) (map (λ line. line.now) c.as_slice.result.now)) c.take_lines-taken.result.0 c.in-Err.fault c.in-Err.is c.take_lines-taken.ensures.stopped
    (lines_of c.args.lines.now) (ap (λ items. map (λ line. line.now) items) (sym c.as_slice.ensures.value))

pub returns-in-Ok-clause-failed : goal.returns-in-Ok-clause-failed
returns-in-Ok-clause-failed g c = if_err c.judge_end.result (λ fault none path is. absurd (none path is)) c.judge_end.ensures.line
