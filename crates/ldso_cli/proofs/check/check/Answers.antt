use Rattle.std.proofs.Common.{ap, Err}
use Rattle.ldso_cli.specs.Outside.{library_at}
use Rattle.ldso_cli.proofs.Dumping.{told_missing}
use Rattle.ldso_cli.proofs.Traces.{failed_comes, missing_comes, read_comes}
use Rattle.ldso_cli.proofs.check.check.Goals as goal

pub returns-in-Ok-clause-answers : goal.returns-in-Ok-clause-answers
returns-in-Ok-clause-answers g c =
    let before = library_at g.L.Library.files g.L.Library.faults g.L.Library.misses c.args.library in
    let middle = library_at g.L.Library.files g.L.Library.faults g.L.Library.misses c.read.new.self in
    let after = library_at g.L.Library.files g.L.Library.faults g.L.Library.misses c.of_trace.result.1 in
    read_comes c.args.command before middle after c.in-Ok.trace.items c.of_trace.result.0 c.read.ensures.files c.read.ensures.faults
    (rw c.as_bytes.ensures at c.in-Ok.ensures.found) (rw c.as_slice.ensures.value at c.of_trace.ensures.comes)

pub returns-in-Err-Missing-clause-answers : goal.returns-in-Err-Missing-clause-answers
returns-in-Err-Missing-clause-answers g c =
    let before = library_at g.L.Library.files g.L.Library.faults g.L.Library.misses c.args.library in
    let after = library_at g.L.Library.files g.L.Library.faults g.L.Library.misses c.read.new.self in
    let tells = rw c.as_bytes.ensures at (told_missing _ _ _ c.in-Err-Missing.ensures.absent (ap Err c.in-Err-Missing.field-0-is)) in
    missing_comes c.args.command before after c.refused.result tells (c.in-Err-Missing.ensures.missing (ap Err c.in-Err-Missing.field-0-is)) c.refused.ensures.end c.refused.ensures.text

pub returns-in-Err-Failed-clause-answers : goal.returns-in-Err-Failed-clause-answers
returns-in-Err-Failed-clause-answers g c =
    let before = library_at g.L.Library.files g.L.Library.faults g.L.Library.misses c.args.library in
    let after = library_at g.L.Library.files g.L.Library.faults g.L.Library.misses c.read.new.self in
    failed_comes c.args.command before after c.refused-in-Err-Failed.result (c.in-Err-Failed.ensures.failed (ap Err c.in-Err-Failed.field-0-is))
    c.refused-in-Err-Failed.ensures.end c.refused-in-Err-Failed.ensures.text
