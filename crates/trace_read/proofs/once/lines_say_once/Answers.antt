use Rattle.trace_read.proofs.Law.{one_saying}
use Rattle.trace_read.proofs.once.lines_say_once.Goals as goal

pub returns : goal.returns
returns c = one_saying
