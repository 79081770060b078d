use Rattle.trace_read.proofs.Law.{events_have_lines}
use Rattle.trace_read.proofs.once.events_have_lines.Goals as goal

pub returns : goal.returns
returns c = events_have_lines
