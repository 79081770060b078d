use Rattle.std.proofs.Common.{ap, Err}
use Rattle.ldso_cli.specs.Outside.{library_at}
use Rattle.ldso_cli.proofs.Dumping.{shown_answers, missing_answers, failed_answers, told_missing}
use Rattle.ldso_cli.proofs.dump.dump.Goals as goal

pub returns-in-Ok-clause-answers : goal.returns-in-Ok-clause-answers
returns-in-Ok-clause-answers g c =
    let before = library_at g.L.Library.files g.L.Library.faults g.L.Library.misses c.args.library.now in
    let after = library_at g.L.Library.files g.L.Library.faults g.L.Library.misses c.read.new.self in
    shown_answers c.args.path before after c.in-Ok.bytes.items c.of_bytes.result (rw c.as_bytes.ensures at c.in-Ok.ensures.found)
    c.of_bytes.ensures.end c.of_bytes.ensures.text

pub returns-in-Err-Missing-clause-answers : goal.returns-in-Err-Missing-clause-answers
returns-in-Err-Missing-clause-answers g c =
    let before = library_at g.L.Library.files g.L.Library.faults g.L.Library.misses c.args.library.now in
    let after = library_at g.L.Library.files g.L.Library.faults g.L.Library.misses c.read.new.self in
    let tells = rw c.as_bytes.ensures at (told_missing _ _ _ c.in-Err-Missing.ensures.absent (ap Err c.in-Err-Missing.field-0-is)) in
    missing_answers c.args.path before after c.refused.result tells (c.in-Err-Missing.ensures.missing (ap Err c.in-Err-Missing.field-0-is)) c.refused.ensures.end c.refused.ensures.text

pub returns-in-Err-Failed-clause-answers : goal.returns-in-Err-Failed-clause-answers
returns-in-Err-Failed-clause-answers g c =
    let before = library_at g.L.Library.files g.L.Library.faults g.L.Library.misses c.args.library.now in
    let after = library_at g.L.Library.files g.L.Library.faults g.L.Library.misses c.read.new.self in
    failed_answers c.args.path before after c.refused-in-Err-Failed.result (c.in-Err-Failed.ensures.failed (ap Err c.in-Err-Failed.field-0-is)) c.refused-in-Err-Failed.ensures.end c.refused-in-Err-Failed.ensures.text
