-- What holds of the texts of journals.
use Rattle.std.specs.Prelude.{◌≡◌, ℕ, ◌+◌, List, [], ◌++◌, length, map, Some, All}
use Rattle.hart_threads.specs.Constructed.{IsConstructed}
use Rattle.history_calls.specs.RunJournal.{IsRunJournal}
use Rattle.history_calls.specs.declared.link_served.startup.Setup.{Setup}
use Rattle.history_event.specs.declared.event.Event.{Event}
use Rattle.history_state.specs.Legal.{Legal, Whole}
use Rattle.history_state.specs.Setting.{Setting}
use Rattle.ld_base.specs.declared.linking.File.{File}
use Rattle.link_open_plan.specs.Startup.{run_of}
use Rattle.trace_check.specs.Harts.{NameHarts}
use Rattle.trace_check.specs.Judged.{IsJudged, legal}
use Rattle.trace_check.specs.Lines.{IsLast}
use Rattle.trace_laws.specs.Beginning.{IsWritten, StartsAlone}
use Rattle.trace_opens.specs.OpeningRows.Expected.{trace_run}
use Rattle.trace_text.specs.Lines.{line_text}
use Rattle.trace_text.specs.RunTexts.Ends.{end_line}
use Rattle.trace_text.specs.RunTexts.Printed.{journal_lines}
use Rattle.trace_text.specs.declared.run_texts.run_end.RunEnd.{RunEnd}
use Rattle.world_turns.specs.Run.{Run}
use Rattle.world_turns.specs.World.{World}
use Rattle.world_turns.specs.declared.schedules.schedule.TurnItem.{TurnItem}

-- each line that a run ends with is the last of a trace
abbrev pub EndLinesAreLast : Type 0
EndLinesAreLast = (run_end : RunEnd) → IsLast (end_line run_end)

-- where the lines of a legal, whole journal name the harts of its run, its text is judged legal, over the files that it is legal by
abbrev pub LegalTracesPass : Type 0
LegalTracesPass = (named : ℕ) (folders : List (List ℕ)) (files : List File) (journal : List Event) (last : List ℕ) → All IsWritten journal
    → NameHarts (map line_text journal) named → Legal (trace_run (named + 1) folders (Some files)) journal
    → Whole (trace_run (named + 1) folders (Some files)) journal → IsLast last
    → IsJudged folders (Some files) (journal_lines journal ++ last) (legal (length journal))

-- the lines of a run's journal name its harts, where it begins by the first hart alone
abbrev pub StartsNameHarts : Type 0
StartsNameHarts = (w : Setting) (setup : Setup) (journal : List Event) → All IsWritten journal → StartsAlone w setup journal
    → NameHarts (map line_text journal) (length setup.harts)

-- ---- runs on one thread

-- each begins so: the first hart runs startup's constructors before any other takes a turn
abbrev pub RunsBeginAlone : Type 0
RunsBeginAlone = (w : Setting) (setup : Setup) (items : List TurnItem) (world : World) → Run w setup items world → StartsAlone w setup world.journal

-- and what is printed of one without preload names is judged legal, over its files
abbrev pub RunsPass : Type 0
RunsPass = (setup : Setup) (items : List TurnItem) (files : List File) (world : World) (run_end : RunEnd) → setup.preload ≡ []
    → Run (run_of setup (Some files)) setup items world → All IsWritten world.journal
    → IsJudged setup.folders (Some files) (journal_lines world.journal ++ end_line run_end) (legal (length world.journal))

-- ---- runs on threads

-- each begins so, too: the first hart runs startup's constructors alone
abbrev pub ThreadsBeginAlone : Type 0
ThreadsBeginAlone = (w : Setting) (setup : Setup) (journal alone more : List Event) (by : IsRunJournal w setup journal)
    → IsConstructed w setup by.startup alone by.started → by.others ≡ alone ++ more → StartsAlone w setup journal

-- and what is printed of one without preload names, whose journal is legal and whole, is judged legal, over its files
abbrev pub ThreadsPass : Type 0
ThreadsPass = (setup : Setup) (files : List File) (journal alone more : List Event) (run_end : RunEnd)
    (by : IsRunJournal (run_of setup (Some files)) setup journal) → IsConstructed (run_of setup (Some files)) setup by.startup alone by.started
    → by.others ≡ alone ++ more → Legal (run_of setup (Some files)) journal → Whole (run_of setup (Some files)) journal → setup.preload ≡ []
    → All IsWritten journal → IsJudged setup.folders (Some files) (journal_lines journal ++ end_line run_end) (legal (length journal))
