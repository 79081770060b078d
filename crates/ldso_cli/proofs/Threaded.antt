-- What a run on threads comes to: one that ran, and one that was refused.
use Rattle.std.proofs.Common.{◌≡◌, ◌⊎◌, ◌≤◌, inl, inr, List, [], ◌++◌, length, Option, Some, Result, Ok, Err, IfOk, IfErr, sym, ap, subst, ◌∙◌, arith}
use Rattle.std.specs.declared.alloc.AllocError.{AllocError}
use Rattle.cli_words.specs.declared.command.Run.{Run}
use Rattle.ld_base.specs.declared.fault.DlFault.{DlFault}
use Rattle.ld_base.specs.declared.fault.DlFault.TheVariants as dl
use Rattle.history_calls.specs.CallLaws.Counts.{ArePathsAtStart, ShowsInCounts}
use Rattle.history_event.specs.declared.event.Event.{Event}
use Rattle.history_event.specs.declared.hart_end.HartEnd.{HartEnd}
use Rattle.history_calls.specs.declared.link_served.startup.Setup.{Setup}
use Rattle.history_calls.specs.declared.link_served.startup.StartFault.{StartFault}
use Rattle.history_calls.specs.declared.link_served.startup.StartFault.TheVariants as starts
use Rattle.history_calls.specs.Laws.{FailsLegal}
use Rattle.history_calls.specs.Startup.{FailsToStart, harts_of}
use Rattle.history_state.specs.Legal.{Legal}
use Rattle.link_open_plan.specs.Startup.{run_of}
use Rattle.link_startup.specs.Startup.{IsNotStarted, startup_refusal}
use Rattle.trace_text.specs.RunTexts.Ends.{IsRunEnd}
use Rattle.trace_text.specs.declared.run_texts.record.RunRecord.{RunRecord}
use Rattle.trace_text.specs.declared.run_texts.run_end.RunEnd.{RunEnd}
use Rattle.trace_text.specs.declared.run_texts.run_end.RunEnd.TheVariants.{Exited, Ended}
use Rattle.word_rule.specs.declared.view.KeeperView.{KeeperView}
use Rattle.world_threads.specs.Threaded.{IsThreaded, left_events}
use Rattle.world_threads.specs.declared.run.Ran.{Ran}
use Rattle.world_turns.specs.Counts.{ShowInCounts}
use Rattle.ldso_cli.specs.Outside.{LibraryAt, counts_in}
use Rattle.ldso_cli.specs.End.{end_with_trails}
use Rattle.ldso_cli.specs.Played.{IsNotRun, last_line, run_cause}
use Rattle.ldso_cli.specs.Threads.{ComesOnThreads, EndsOnThreads, HasEnds, RefusesStart, RunComes, RunLeaves, RunsOnThreads, printed_of}
use Rattle.ldso_cli.specs.declared.answer.Answer.{Answer}
use Rattle.ldso_cli.specs.declared.threads.Threaded.{Threaded}

-- each hart has an end
pub has_ends : (setup : Setup) (before : LibraryAt) (ran : Result Ran StartFault) → harts_of setup ≤ 16 → IfOk ran (λ r. IsThreaded (run_of setup before.files) setup r.left r.trails) → IfOk ran HasEnds
has_ends setup before (Err why) few is = tt
has_ends setup before (Ok ran) few is =
    let all : length ran.left.ends ≡ harts_of setup = is.last.all in
    record { some = omega (arith, all); few = omega (arith, all, few) }

no_end : (run_end : RunEnd) → IsRunEnd [] run_end → ⊥
no_end (Exited code) all = let e = all.first in absurd cc
no_end (Ended hart reason) decides = let e = decides.there in absurd cc

module _ (setup : Setup) (before after : LibraryAt) (ended : Result RunEnd DlFault) (left : RunRecord) (trails : Option KeeperView) where
  ran_comes : (ran : Ran) → IsThreaded (run_of setup before.files) setup ran.left ran.trails → EndsOnThreads ran ended left trails
      → ShowInCounts setup.folders ran.left.journal.events (counts_in before) (counts_in after) → ComesOnThreads setup before after ended left trails
  ran_comes ran is ends shows = record {
    comes = record {
      is = inr (record {
        view = ran.trails;
        trails_are = ends.trails_are;
        is = subst (λ (r : RunRecord). IsThreaded (run_of setup before.files) setup r ran.trails) (sym ends.left_is) is;
        run_end = ends.run_end;
        ended_is = ends.ended_is;
        decides = ends.decides;
      });
      read_fault = λ path e. absurd (other (dl.ReadFault path) e);
      missing = λ name e. absurd (other (dl.MissingLibrary name) e);
      counted = subst (λ (r : RunRecord). ShowInCounts setup.folders r.journal.events (counts_in before) (counts_in after)) (sym ends.left_is) shows;
    };
    no_trails = λ none. absurd (no_end ends.run_end (subst (λ (es : List HartEnd). IsRunEnd es ends.run_end) none ends.decides));
  }
    where
      other : (fault : DlFault) → ended ≡ Err fault → ⊥
      other fault e = (let no : Ok ends.run_end ≡ Err fault = sym ends.ended_is ∙ e in cc no)

  refusal_comes : (fault : DlFault) (events : List Event) → FailsToStart (run_of setup before.files) setup fault events → RefusesStart fault events ended left trails
      → ShowsInCounts (ArePathsAtStart setup.folders setup.program) (Some fault) before.faults after.faults before.misses after.misses
      → ShowInCounts setup.folders events (counts_in before) (counts_in after) → ComesOnThreads setup before after ended left trails
  refusal_comes fault events fails refused counts shows = record {
    comes = record {
      is = inl (record { fault = fault; events = events; fails = fails; leaves = refused.leaves });
      read_fault = λ path e. counts.failed path (ap Some (same (dl.ReadFault path) e));
      missing = λ name e. counts.missed name (ap Some (same (dl.MissingLibrary name) e));
      counted = subst (λ (es : List Event). ShowInCounts setup.folders es (counts_in before) (counts_in after)) (sym refused.leaves.journal) shows;
    };
    no_trails = λ none. refused.none;
  }
    where
      same : (other : DlFault) → ended ≡ Err other → fault ≡ other
      same other e = (let one : Err fault ≡ Err other = sym refused.leaves.ended_is ∙ e in cc)

  pub comes_on_threads : (ran : Result Ran StartFault) → IfOk ran (λ r. IsThreaded (run_of setup before.files) setup r.left r.trails)
      → IfErr ran (IsNotStarted (run_of setup before.files) setup)
      → ShowsInCounts (ArePathsAtStart setup.folders setup.program) (startup_refusal ran) before.faults after.faults before.misses after.misses
      → ShowInCounts setup.folders (left_events ran) (counts_in before) (counts_in after) → RunLeaves ran ended left trails → ComesOnThreads setup before after ended left trails
  comes_on_threads (Ok ran) is fails counts shows leaves = ran_comes ran is leaves shows
  comes_on_threads (Err (starts.Refused fault journal)) is fails counts shows leaves = refusal_comes fault journal.events fails leaves counts shows
  comes_on_threads (Err starts.Memory) is fails counts shows leaves = absurd leaves

-- whether there was memory or not
pub all_come : (setup : Setup) (before after : LibraryAt) (ran : Result Ran StartFault) (r : Result Threaded AllocError) → IfOk ran (λ x. IsThreaded (run_of setup before.files) setup x.left x.trails)
    → IfErr ran (IsNotStarted (run_of setup before.files) setup)
    → ShowsInCounts (ArePathsAtStart setup.folders setup.program) (startup_refusal ran) before.faults after.faults before.misses after.misses
    → ShowInCounts setup.folders (left_events ran) (counts_in before) (counts_in after) → IfOk r (λ t. RunLeaves ran t.played.ended t.played.left t.trails)
    → IfOk r (λ t. ComesOnThreads setup before after t.played.ended t.played.left t.trails)
all_come setup before after ran (Err e) is fails counts shows leaves = tt
all_come setup before after ran (Ok t) is fails counts shows leaves =
    comes_on_threads setup before after t.played.ended t.played.left t.trails ran is fails counts shows leaves

-- its journal is legal
pub come_legal : FailsLegal → (setup : Setup) (before after : LibraryAt) (ended : Result RunEnd DlFault) (left : RunRecord) (trails : Option KeeperView) → ComesOnThreads setup before after ended left trails
    → Legal (run_of setup before.files) left.journal.events
come_legal fails setup before after ended left trails comes = by comes.comes.is
  where
    by : IsNotRun setup before.files ended left ⊎ RunsOnThreads setup before.files ended left trails → Legal (run_of setup before.files) left.journal.events
    by (inl p) = subst (Legal (run_of setup before.files)) (sym p.leaves.journal) (fails (run_of setup before.files) setup p.fault p.events p.fails)
    by (inr p) = p.is.legal

-- the answer of a run
pub run_answers : (run : Run) (before after : LibraryAt) (t : Threaded) (r : Result Answer AllocError) → ComesOnThreads run.setup before after t.played.ended t.played.left t.trails
    → IfOk r (λ a. a.end ≡ end_with_trails (run_cause t.played.ended) t.played.left t.trails)
    → IfOk r (λ a. a.text ≡ printed_of run.trace t.played.left.journal.events ++ last_line t.played.ended) → IfOk r (λ a. RunComes run before after a.end a.text)
run_answers run before after t (Err e) comes end text = tt
run_answers run before after t (Ok a) comes end text =
    record { ended = t.played.ended; left = t.played.left; trails = t.trails; run = comes; end_is = end; text_is = text }
