-- What gen comes to.
use Rattle.std.specs.Prelude.{◌≡◌, ℕ, false, List, [], ◌∷◌, ◌++◌, codes, Option, Some, None, Result, Ok, Err}
use Rattle.ld_base.specs.declared.fault.DlFault.{DlFault}
use Rattle.ld_base.specs.declared.linking.File.{File}
use Rattle.lib_gen.specs.Set.{AreSetOf}
use Rattle.lib_gen.specs.Summary.{summary_line}
use Rattle.history_event.specs.declared.event.Event.{Event}
use Rattle.history_calls.specs.declared.link_served.startup.Setup.{Setup}
use Rattle.trace_text.specs.RunTexts.Counting.{counts_of}
use Rattle.trace_text.specs.RunTexts.Ends.{end_line}
use Rattle.trace_text.specs.declared.run_texts.record.RunRecord.{RunRecord}
use Rattle.trace_text.specs.declared.run_texts.run_end.RunEnd.{RunEnd}
use Rattle.trace_text.specs.declared.run_texts.run_end.RunEnd.TheVariants.{Exited, Ended}
use Rattle.ldso_cli.specs.End.{kept_end}
use Rattle.ldso_cli.specs.Outside.{LibraryAt}
use Rattle.ldso_cli.specs.Played.{IsPlayed, last_line, run_cause}
use Rattle.ldso_cli.specs.declared.outcome.Cause.{Cause}
use Rattle.ldso_cli.specs.declared.outcome.Cause.TheVariants as causes
use Rattle.ldso_cli.specs.declared.outcome.End.{End}

-- the program of a set, whose libraries are looked for in one folder
abbrev pub set_setup : Setup
set_setup = record { program = codes "gen"; folders = codes "lib" ∷ []; preload = []; bind_now = false; harts = []; fuel = 1000000 }

-- the library of a set: it has the set's files, never fails, and has missed so many paths
abbrev pub set_at : List File → ℕ → LibraryAt
set_at files misses = record { files = Some files; faults = 0; misses = misses }

-- the code with which the program exited, if it did
abbrev pub exit_code : Result RunEnd DlFault → Option ℕ
exit_code (Ok (Exited code)) = Some code
exit_code (Ok (Ended hart reason)) = None
exit_code (Err fault) = None

-- then gen has done what it was asked, whatever the code, and its last line has the status 0
abbrev pub set_cause : Result RunEnd DlFault → Cause
set_cause ended = elim (exit_code ended) [ Some code ↦ causes.Done | None ↦ run_cause ended ]

abbrev pub set_line : Result RunEnd DlFault → List ℕ
set_line ended = elim (exit_code ended) [ Some code ↦ end_line (Exited 0) | None ↦ last_line ended ]

-- the summary of the run, and the last line
abbrev pub set_text : ℕ → Result RunEnd DlFault → List Event → List ℕ
set_text number ended journal = summary_line number (counts_of journal) (exit_code ended) ++ set_line ended

-- how gen comes to its end and its text: by a run of its set by a schedule without items, over the set's own library, which has missed some
-- paths then. What that left is kept
pub record GenComes (number : ℕ) (end : End) (text : List ℕ) : Type 0 where
  pub files : List File
  pub are : AreSetOf number files
  pub misses : ℕ
  pub ended : Result RunEnd DlFault
  pub left : RunRecord
  pub plays : IsPlayed set_setup [] (set_at files 0) (set_at files misses) ended left
  pub end_is : end ≡ kept_end (set_cause ended) left
  pub text_is : text ≡ set_text number ended left.journal.events
