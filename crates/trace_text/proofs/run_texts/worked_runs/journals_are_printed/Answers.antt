use Rattle.std.proofs.Common.{refl}
use Rattle.std.specs.Fmt.{digits}
use Rattle.ld_base.specs.Text.{name_text}
use Rattle.trace_text.specs.Ends.{end_text}
use Rattle.trace_text.specs.Lines.{open_text, sym_text, words_text}
use Rattle.trace_text.specs.RunTexts.Counting.{is_bound, is_grant, is_lost}
use Rattle.trace_text.specs.RunTexts.Ends.{end_line}
use Rattle.trace_text.proofs.run_texts.worked_runs.journals_are_printed.Goals as goal

pub returns-clause-first_match : goal.returns-clause-first_match
unfolding digits end_line end_text name_text open_text words_text
returns-clause-first_match c = refl

pub returns-clause-race : goal.returns-clause-race
unfolding digits end_line end_text name_text open_text sym_text words_text
returns-clause-race c = refl

pub returns-clause-race_counts : goal.returns-clause-race_counts
unfolding is_bound is_grant is_lost
returns-clause-race_counts c = refl
