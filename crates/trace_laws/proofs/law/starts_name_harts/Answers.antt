use Rattle.trace_laws.proofs.Named.{starts_name}
use Rattle.trace_laws.proofs.law.starts_name_harts.Goals as goal

pub returns : goal.returns
returns c = starts_name c.events_have_lines.ensures
