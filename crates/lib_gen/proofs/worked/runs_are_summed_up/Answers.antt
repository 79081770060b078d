use Rattle.std.proofs.Common.{refl}
use Rattle.std.specs.Fmt.{digits}
use Rattle.lib_gen.specs.GeneratedSources.Shape.{function_count, library_count}
use Rattle.lib_gen.specs.Summary.{summary_line}
use Rattle.lib_gen.proofs.worked.runs_are_summed_up.Goals as goal

pub returns-clause-smallest : goal.returns-clause-smallest
unfolding digits function_count library_count summary_line
returns-clause-smallest c = refl

pub returns-clause-large : goal.returns-clause-large
unfolding digits function_count library_count summary_line
returns-clause-large c = refl

pub returns-clause-stopped : goal.returns-clause-stopped
unfolding digits function_count library_count summary_line
returns-clause-stopped c = refl
