use Rattle.std.proofs.Common.{refl}
use Rattle.std.specs.Fmt.{digits}
use Rattle.trace_text.specs.Ends.{end_text}
use Rattle.trace_text.specs.RunTexts.Ends.{end_line}
use Rattle.trace_text.proofs.run_texts.worked_runs.deciding_harts_are_named.Goals as goal

pub returns-clause-fuel : goal.returns-clause-fuel
unfolding digits end_line end_text
returns-clause-fuel c = refl

pub returns-clause-slot_store : goal.returns-clause-slot_store
unfolding digits end_line end_text
returns-clause-slot_store c = refl
