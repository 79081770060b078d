use Rattle.std.proofs.Common.{ℕ, List, subst}
use Rattle.history_event.specs.declared.event.Event.{Event}
use Rattle.trace_check.specs.Rows.{IsDoubtOf}
use Rattle.trace_opens.specs.OpeningRows.Expected.{trace_run}
use Rattle.trace_read.specs.Lines.{HasLine}
use Rattle.trace_replay.specs.Shown.{Shows}
use Rattle.trace_check.proofs.Opened.{doubted_in, err_of, if_err, may_be_taken, opened_comes}
use Rattle.trace_check.proofs.taking.take_said.Goals as goal

pub take_found-requires : goal.take_found-requires
take_found-requires g c = may_be_taken c.args.replay.now c.args.replay.now c.args.folders.now (g.L.Library.files c.args.library) c.in-Open.hart c.in-Open.ask c.in-Open.answer c.expected_open-found.result.0 c.expected_open-found.ensures.expected

pub returns-in-Open-clause-comes : goal.returns-in-Open-clause-comes
returns-in-Open-clause-comes g c =
    opened_comes c.args.replay.now c.take_found.new.replay c.args.folders.now (g.L.Library.files c.args.library) c.in-Open.hart c.in-Open.ask c.in-Open.answer c.args.said.now c.expected_open-found.result.0 c.take_found.result c.in-Open.is
    c.expected_open-found.ensures.expected c.take_found.ensures.sure c.take_found.ensures.yes c.take_found.ensures.no

pub returns-in-Open-clause-path : goal.returns-in-Open-clause-path
returns-in-Open-clause-path g c =
    let w = trace_run c.args.replay.now.harts c.args.folders.now (g.L.Library.files c.args.library) in
    err_of (λ doubt. (past : List Event) (line : List ℕ) → Shows past c.args.replay.now → HasLine line c.args.said.now → IsDoubtOf w past line doubt) (λ past line shows has. tt)
    c.expected_open-found.result.0 c.take_found.result c.take_found.ensures.failed
    (if_err c.expected_open-found.result.0 (λ doubt row past line shows has.
    doubted_in w past c.in-Open.hart c.in-Open.ask c.in-Open.answer line (subst (HasLine line) c.in-Open.is has) doubt (row past shows))
    c.expected_open-found.ensures.path)
