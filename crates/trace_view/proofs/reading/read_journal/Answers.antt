use Rattle.trace_view.proofs.Read.{read_next}
use Rattle.trace_view.proofs.reading.read_journal.Goals as goal

pub loop-rest-preserved : goal.loop-rest-preserved
loop-rest-preserved c =
    read_next c.line_length.result c.args.bytes.now c.loop-rest.rest.now c.split_at.result.0.now c.split_at.result.1.now c.loop-rest.steps c.add.new.steps
    c.loop-rest.grants c.add.new.grants c.in-Ok.event c.loop-rest.invariant c.split_at.ensures.front c.split_at.ensures.back c.in-Ok.ensures.line
    c.in_ok-add-in-Ok.ensures.steps c.in_ok-add-in-Ok.ensures.grants
