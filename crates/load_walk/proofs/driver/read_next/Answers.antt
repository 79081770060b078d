use Rattle.std.proofs.Common.{Err, ap}
use Rattle.load_walk.proofs.Stages.{bytes_taken, faulted_failed, stage_missed, tells_absent, tells_found}
use Rattle.load_walk.proofs.driver.read_next.Goals as goal

pub returns-in_ok-add-in-Err-Missing : goal.returns-in_ok-add-in-Err-Missing
returns-in_ok-add-in-Err-Missing g c = λ there first stage to_read.
    let h = c.in-Err-Missing.ensures in
    let path = c.as_bytes-in-Err-Missing.ensures in
    let unread = to_read.unread _ stage.over.holds in
    let added = c.in_ok-add-in-Err-Missing.ensures.ok (rw path unread.unmissed) in
    rw (added, path)
    (stage_missed _ _ _ _ _ _ stage _ c.args.path (record { files = h.files; faults = h.faults; misses = h.misses }) (h.missing (ap Err c.in-Err-Missing.field-0-is))
    (tells_absent _ c.args.path _ _ c.as_bytes.ensures h.absent (ap Err c.in-Err-Missing.field-0-is)) to_read)

pub returns-in-Err-Failed : goal.returns-in-Err-Failed
returns-in-Err-Failed g c = λ there first stage to_read.
    let h = c.in-Err-Failed.ensures in
    faulted_failed _ _ _ _ _ _ stage _ c.args.path (record { files = h.files; faults = h.faults; misses = h.misses }) (h.failed (ap Err c.in-Err-Failed.field-0-is)) to_read

pub returns-in_ok-file-in-Ok : goal.returns-in_ok-file-in-Ok
returns-in_ok-file-in-Ok g c = λ there first stage to_read.
    let h = c.in-Ok.ensures in
    bytes_taken _ _ _ _ _ _ stage _ c.args.path c.in_ok-file-in-Ok.file _ _ (record { files = h.files; faults = h.faults; misses = h.misses })
    (tells_found _ c.args.path _ c.in_ok-file-in-Ok.file c.in-Ok.bytes c.as_bytes.ensures c.in_ok-file-in-Ok.ensures.ok h.found) to_read c.take_file.ensures
