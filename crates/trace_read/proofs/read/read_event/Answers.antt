use Rattle.trace_read.proofs.Law.{has_line, only_one, no_line, inverts}
use Rattle.trace_read.proofs.read.read_event.Goals as goal

pub returns-clause-line : goal.returns-clause-line
returns-clause-line c = has_line c.args.line.now _ c.read_line.ensures

pub returns-clause-only : goal.returns-clause-only
returns-clause-only c = only_one c.args.line.now _ c.read_line.ensures

pub returns-clause-not_a_line : goal.returns-clause-not_a_line
returns-clause-not_a_line c = no_line c.args.line.now _ c.read_line.ensures

pub returns-clause-inverse : goal.returns-clause-inverse
returns-clause-inverse c = inverts c.args.line.now _ c.read_line.ensures
