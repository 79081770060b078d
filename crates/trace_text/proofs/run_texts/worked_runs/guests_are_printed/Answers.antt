use Rattle.std.proofs.Common.{refl}
use Rattle.std.specs.Fmt.{digits}
use Rattle.trace_text.specs.RunTexts.Ends.{end_line}
use Rattle.trace_text.specs.RunTexts.Printed.{written_by}
use Rattle.trace_text.proofs.run_texts.worked_runs.guests_are_printed.Goals as goal

pub returns-clause-realistic : goal.returns-clause-realistic
unfolding digits end_line written_by
returns-clause-realistic c = refl

pub returns-clause-whole_line : goal.returns-clause-whole_line
unfolding written_by
returns-clause-whole_line c = refl

pub returns-clause-nothing : goal.returns-clause-nothing
unfolding written_by
returns-clause-nothing c = refl
