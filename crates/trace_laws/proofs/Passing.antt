-- The text of a legal, whole journal is judged legal.
use Rattle.std.proofs.Common.{◌≡◌, ℕ, ◌+◌, List, [], ◌++◌, length, Some, refl, ap, subst}
use Rattle.std.proofs.lemmas.List.Elements.{recursion_from_All}
use Rattle.history_calls.specs.declared.link_served.startup.Setup.{Setup}
use Rattle.history_journal.specs.Following.{machine_of}
use Rattle.history_state.specs.Accepted.{AcceptsOnly}
use Rattle.history_state.specs.Legal.{Legal, Whole}
use Rattle.history_state.specs.Setting.{Setting}
use Rattle.ld_base.specs.declared.linking.File.{File}
use Rattle.link_open_plan.specs.Startup.{run_of}
use Rattle.trace_check.specs.Judged.{IsJudged, legal as is_judged_legal}
use Rattle.trace_check.specs.Judged.Judged.{is_legal}
use Rattle.trace_text.specs.RunTexts.Ends.{end_line}
use Rattle.trace_text.specs.RunTexts.Printed.{journal_lines}
use Rattle.trace_text.specs.declared.run_texts.run_end.RunEnd.{RunEnd}
use Rattle.history_event.specs.declared.event.Event.{Event}
use Rattle.std.specs.Prelude.{All}
use Rattle.trace_opens.specs.OpeningRows.Expected.{trace_run}
use Rattle.world_laws.specs.WorldWhole.Laws.{RunsAreWhole}
use Rattle.world_turns.specs.Throughout.{RunsAreSound}
use Rattle.trace_laws.specs.Beginning.{IsWritten, StartsAlone}
use Rattle.trace_laws.specs.Laws.{EndLinesAreLast, LegalTracesPass, RunsBeginAlone, RunsPass, StartsNameHarts, ThreadsBeginAlone, ThreadsPass}
use Rattle.trace_read.specs.Laws.{EventsHaveLines}
use Rattle.trace_laws.proofs.Lines.{all_said, are_lines, lines_of}

pub legal_traces_pass : EventsHaveLines → LegalTracesPass
legal_traces_pass law named folders files journal last written harts legal whole ends = record {
  lines = lines_of journal last;
  are = are_lines journal last ends;
  named = named;
  harts = harts;
  judged = is_legal journal (record { said = all_said law journal (recursion_from_All IsWritten journal written); legal = legal }) refl whole refl;
}

-- ---- runs

pub record Laws : Type 0 where
  pub pass : LegalTracesPass
  pub name : StartsNameHarts
  pub alone : RunsBeginAlone
  pub last : EndLinesAreLast
  pub sound : RunsAreSound
  pub whole : RunsAreWhole
  pub only : (harts : ℕ) → AcceptsOnly (machine_of harts)

same_run : (setup : Setup) (files : List File) → setup.preload ≡ [] → run_of setup (Some files) ≡ trace_run (length setup.harts + 1) setup.folders (Some files)
same_run setup files none =
    ap (λ (preload : List (List ℕ)). record { machine = machine_of (length setup.harts + 1); folders = setup.folders; preload = preload; files = Some files }) none

-- the text of a legal, whole journal that begins alone
alone_pass : LegalTracesPass → StartsNameHarts → EndLinesAreLast → (setup : Setup) (files : List File) (journal : List Event) (run_end : RunEnd) → StartsAlone (run_of setup (Some files)) setup journal
    → Legal (run_of setup (Some files)) journal → Whole (run_of setup (Some files)) journal → setup.preload ≡ [] → All IsWritten journal
    → IsJudged setup.folders (Some files) (journal_lines journal ++ end_line run_end) (is_judged_legal (length journal))
alone_pass pass name last setup files journal run_end alone legal whole none written =
    pass (length setup.harts) setup.folders files journal (end_line run_end) written (name (run_of setup (Some files)) setup journal written alone)
    (subst (λ (v : Setting). Legal v journal) (same_run setup files none) legal)
    (subst (λ (v : Setting). Whole v journal) (same_run setup files none) whole)
    (last run_end)

pub runs_pass : Laws → RunsPass
runs_pass laws setup items files world run_end none run written =
    let w : Setting = run_of setup (Some files) in
    alone_pass laws.pass laws.name laws.last setup files world.journal run_end (laws.alone w setup items world run)
    (laws.sound w setup items world run (laws.only (length setup.harts + 1))).ended.legal (laws.whole w setup items world (laws.only (length setup.harts + 1)) run) none written

pub threads_pass : LegalTracesPass → StartsNameHarts → EndLinesAreLast → ThreadsBeginAlone → ThreadsPass
threads_pass pass name last alone setup files journal first more run_end by constructed are legal whole none written =
    alone_pass pass name last setup files journal run_end (alone (run_of setup (Some files)) setup journal first more by constructed are) legal whole none written
