-- What is kept of a run is a history.
use Rattle.std.proofs.Common.{◌≡◌, ◌⊎◌, ⊎_elim, inl, inr, ℕ, List, [], take, Option, None, Some, Result, Err, refl, sym, ap, subst, ◌∙◌, true≢false}
use Rattle.std.specs.Prelude.{IsTrue}
use Rattle.cli_words.specs.declared.command.Command.{Command}
use Rattle.cli_words.specs.declared.command.Command.TheVariants as commands
use Rattle.ld_base.specs.declared.fault.DlFault.{DlFault}
use Rattle.ld_base.specs.declared.fault.DlFault.TheVariants as dl
use Rattle.ld_base.specs.declared.linking.File.{File}
use Rattle.library_source.specs.Count.{Rises}
use Rattle.hart_moves.specs.Follows.{HartsFollow}
use Rattle.history_event.specs.declared.event.Event.{Event}
use Rattle.history_calls.specs.RunJournal.{IsRunJournal}
use Rattle.history_calls.specs.Startup.{FailsToStart}
use Rattle.world_laws.specs.HartWays.Laws.{RunsFollow}
use Rattle.world_laws.specs.RunJournals.Laws.{RunsHaveJournals}
use Rattle.history_event.specs.declared.hart_end.HartEnd.{HartEnd}
use Rattle.history_state.specs.Legal.{Legal, Whole}
use Rattle.history_state.specs.Setting.{Setting}
use Rattle.history_state.specs.Lemmas.History.{legal_take}
use Rattle.history_calls.specs.declared.link_served.startup.Setup.{Setup}
use Rattle.history_calls.specs.Laws.{FailsLegal, StartsOrFails, is_read_fault}
use Rattle.link_startup.specs.Startup.{CanStart}
use Rattle.link_open_plan.specs.Startup.{run_of}
use Rattle.world_laws.specs.RunMoments.Laws.{JournalsAreTrue, RunsAreTrue}
use Rattle.trace_text.specs.RunTexts.Ends.{IsRunEnd}
use Rattle.trace_text.specs.declared.run_texts.record.RunRecord.{RunRecord}
use Rattle.trace_text.specs.declared.run_texts.run_end.RunEnd.{RunEnd}
use Rattle.trace_text.specs.declared.run_texts.run_end.RunEnd.TheVariants.{Ended, Exited}
use Rattle.world_turns.specs.declared.schedules.schedule.TurnItem.{TurnItem}
use Rattle.world_turns.specs.Throughout.{RunsAreSound}
use Rattle.word_rule.specs.declared.view.KeeperView.{KeeperView}
use Rattle.world_laws.specs.WorldWhole.Laws.{RunsAreWhole}
use Rattle.world_threads.specs.Slots.{RunsEndSlots}
use Rattle.ldso_cli.proofs.Turning.{Accepts}
use Rattle.ldso_cli.specs.Command.{CommandAnswers}
use Rattle.ldso_cli.specs.End.{bare, end_with_trails}
use Rattle.ldso_cli.specs.Generate.{set_at, set_cause, set_setup}
use Rattle.ldso_cli.specs.Headline.{HasRun, HasRunOnThreads, Headline, IsHistory, IsHistoryOfThreads, IsKept}
use Rattle.ldso_cli.specs.Laws.{AnswersAreHistories}
use Rattle.ldso_cli.specs.Outside.{LibraryAt}
use Rattle.ldso_cli.specs.Played.{ComesToEnd, IsNotRun, IsPlayed, IsRun, run_cause}
use Rattle.ldso_cli.specs.Threads.{RunsOnThreads}
use Rattle.ldso_cli.specs.declared.outcome.Cause.{Cause}
use Rattle.ldso_cli.specs.declared.outcome.Cause.TheVariants as causes
use Rattle.ldso_cli.specs.declared.outcome.End.{End}

-- what is known of runs
pub record RunLaws : Type 0 where
  pub accepts : Accepts
  pub fails : FailsLegal
  pub sound : RunsAreSound
  pub whole : RunsAreWhole
  pub journals : RunsHaveJournals
  pub follow : RunsFollow
  pub are_true : RunsAreTrue
  pub moments : JournalsAreTrue
  pub slots : RunsEndSlots
  pub starts : StartsOrFails

-- ---- why one starts

record IsReadFault (fault : DlFault) : Type 0 where
  pub path : List ℕ
  pub is : fault ≡ dl.ReadFault path

read_fault : (fault : DlFault) → IsTrue (is_read_fault fault) → IsReadFault fault
read_fault (dl.ReadFault path) e = record { path = path; is = refl }
read_fault _ e = absurd (true≢false (sym e))

abbrev failed : DlFault → Result RunEnd DlFault
failed fault = Err fault

not_refused : StartsOrFails → (Runs : Type 0) (setup : Setup) (before after : LibraryAt) (files : List File) (ended : Result RunEnd DlFault) (left : RunRecord)
    → before.files ≡ Some files → (Rises before.faults after.faults → ⊥) → CanStart (run_of setup before.files) setup → ComesToEnd Runs setup before after ended left
    → IsNotRun setup before.files ended left → ⊥
not_refused starts Runs setup before after files ended left told still may comes p =
    let w : Setting = run_of setup before.files in
    let fault = read_fault p.fault (starts w setup files may.root may.added may.ranges may.found p.events may.addresses p.fault told may.opens may.finds p.fails) in
    still (comes.read_fault fault.path (p.leaves.ended_is ∙ ap failed fault.is))

-- a program that may start over files that are told runs, where no read fails
pub has_come : StartsOrFails → (Runs : Type 0) (setup : Setup) (before after : LibraryAt) (files : List File) (ended : Result RunEnd DlFault) (left : RunRecord)
    → before.files ≡ Some files → (Rises before.faults after.faults → ⊥) → CanStart (run_of setup before.files) setup → ComesToEnd Runs setup before after ended left → Runs
has_come starts Runs setup before after files ended left told still may comes = ⊎_elim
    (λ (p : IsNotRun setup before.files ended left). absurd (not_refused starts Runs setup before after files ended left told still may comes p))
    (λ (p : Runs). p)
    comes.is

pub has_run : StartsOrFails → (setup : Setup) (items : List TurnItem) (before after : LibraryAt) (files : List File) (ended : Result RunEnd DlFault) (left : RunRecord)
    → before.files ≡ Some files → (Rises before.faults after.faults → ⊥) → CanStart (run_of setup before.files) setup → IsPlayed setup items before after ended left
    → IsRun setup items before.files ended left
has_run starts setup items before after files ended left told still may plays =
    has_come starts (IsRun setup items before.files ended left) setup before after files ended left told still may plays

no_end : (run_end : RunEnd) → IsRunEnd [] run_end → ⊥
no_end (Exited code) all = let e = all.first in absurd cc
no_end (Ended hart reason) decides = let e = decides.there in absurd cc

-- of one that ran a hart has ended
some_end : (setup : Setup) (items : List TurnItem) (files : Option (List File)) (ended : Result RunEnd DlFault) (left : RunRecord) → IsRun setup items files ended left → left.ends ≡ [] → ⊥
some_end setup items files ended left p none =
    let P : List HartEnd → Type 0 = λ last. IsRunEnd last p.leaves.run_end in
    no_end p.leaves.run_end (subst P none p.leaves.decides)

pub leaves_legal : FailsLegal → RunsAreSound → Accepts → (setup : Setup) (items : List TurnItem) (files : Option (List File)) (ended : Result RunEnd DlFault) (left : RunRecord)
    → IsNotRun setup files ended left ⊎ IsRun setup items files ended left → Legal (run_of setup files) left.journal.events
leaves_legal fails sound accepts setup items files ended left (inl p) =
    let w : Setting = run_of setup files in
    subst (Legal w) (sym p.leaves.journal) (fails w setup p.fault p.events p.fails)
leaves_legal fails sound accepts setup items files ended left (inr p) =
    let w : Setting = run_of setup files in
    subst (Legal w) (sym p.leaves.journal) (sound w setup items p.world p.runs (accepts w.machine refl)).ended.legal

module _ (laws : RunLaws) (setup : Setup) (items : List TurnItem) (before after : LibraryAt) (ended : Result RunEnd DlFault) (left : RunRecord) where
  ran : IsNotRun setup before.files ended left ⊎ IsRun setup items before.files ended left → (left.ends ≡ [] → ⊥) → HasRun setup items before.files left
  ran (inl p) some = absurd (some p.leaves.no_ends)
  ran (inr p) some =
      let w : Setting = run_of setup before.files in
      record {
        world = p.world;
        run = p.runs;
        journal = p.leaves.journal;
        ends = p.leaves.ends;
        by = subst (IsRunJournal w setup) (sym p.leaves.journal) (laws.journals w setup items p.world p.runs);
        follow = subst (λ (journal : List Event). HartsFollow w setup journal left.ends) (sym p.leaves.journal) (laws.follow w setup items p.world left.ends p.runs p.leaves.ends);
        whole = subst (Whole w) (sym p.leaves.journal) (laws.whole w setup items p.world (laws.accepts w.machine refl) p.runs);
        moments = laws.are_true w setup items p.world p.runs (laws.accepts w.machine refl);
      }

  refused : IsNotRun setup before.files ended left ⊎ IsRun setup items before.files ended left → left.ends ≡ []
      → (fault : DlFault) × FailsToStart (run_of setup before.files) setup fault left.journal.events
  refused (inl p) none = let w : Setting = run_of setup before.files in (p.fault, subst (FailsToStart w setup p.fault) (sym p.leaves.journal) p.fails)
  refused (inr p) none = absurd (some_end setup items before.files ended left p none)

  is_history : IsPlayed setup items before after ended left → IsHistory setup items before after left
  is_history plays = record {
    legal = leaves_legal laws.fails laws.sound laws.accepts setup items before.files ended left plays.is;
    ran = ran plays.is;
    refused = refused plays.is;
    runs = λ files told still may. some_end setup items before.files ended left (has_run laws.starts setup items before after files ended left told still may plays);
  }

-- ---- a run on threads

-- of one that ran a hart has ended
threads_end : (setup : Setup) (files : Option (List File)) (ended : Result RunEnd DlFault) (left : RunRecord) (trails : Option KeeperView) → RunsOnThreads setup files ended left trails
    → left.ends ≡ [] → ⊥
threads_end setup files ended left trails p none = no_end p.run_end (subst (λ (last : List HartEnd). IsRunEnd last p.run_end) none p.decides)

module _ (laws : RunLaws) (setup : Setup) (before after : LibraryAt) (ended : Result RunEnd DlFault) (left : RunRecord) (trails : Option KeeperView) where
  abbrev w : Setting
  w = run_of setup before.files

  abbrev Runs : Type 0
  Runs = RunsOnThreads setup before.files ended left trails

  pub threads_legal : IsNotRun setup before.files ended left ⊎ Runs → Legal w left.journal.events
  threads_legal (inl p) = subst (Legal w) (sym p.leaves.journal) (laws.fails w setup p.fault p.events p.fails)
  threads_legal (inr p) = p.is.legal

  threads_ran : IsNotRun setup before.files ended left ⊎ Runs → (left.ends ≡ [] → ⊥) → HasRunOnThreads setup before.files left trails
  threads_ran (inl p) some = absurd (some p.leaves.no_ends)
  threads_ran (inr p) some = record {
    view = p.view;
    trails_are = p.trails_are;
    is = p.is;
    slots = laws.slots w setup left p.view p.is;
    moments = λ k. laws.moments w (take k left.journal.events) (laws.accepts w.machine refl) (legal_take w left.journal.events k p.is.legal);
  }

  threads_refused : IsNotRun setup before.files ended left ⊎ Runs → left.ends ≡ [] → (fault : DlFault) × FailsToStart w setup fault left.journal.events
  threads_refused (inl p) none = (p.fault, subst (FailsToStart w setup p.fault) (sym p.leaves.journal) p.fails)
  threads_refused (inr p) none = absurd (threads_end setup before.files ended left trails p none)

  threads_history : ComesToEnd Runs setup before after ended left → (left.ends ≡ [] → trails ≡ None) → IsHistoryOfThreads setup before after left trails
  threads_history comes none = record {
    is = record {
      legal = threads_legal comes.is;
      ran = threads_ran comes.is;
      refused = threads_refused comes.is;
      runs = λ files told still may. threads_end setup before.files ended left trails (has_come laws.starts Runs setup before after files ended left told still may comes);
    };
    no_trails = none;
  }

-- ---- gen

-- a set's library never fails, however many paths it has missed
of_set : RunLaws → (files : List File) (misses : ℕ) (ended : Result RunEnd DlFault) (left : RunRecord) → IsPlayed set_setup [] (set_at files 0) (set_at files misses) ended left
    → IsHistory set_setup [] (set_at files 0) (set_at files 0) left
of_set laws files misses ended left plays =
    let history = is_history laws set_setup [] (set_at files 0) (set_at files misses) ended left plays in
    record { legal = history.legal; ran = history.ran; refused = history.refused; runs = λ told are still may. history.runs told are still may }

-- ---- what an answer keeps

nothing_kept : (command : Option Command) (before after : LibraryAt) (own : End) (cause : Cause) → own ≡ bare cause → Headline command before after own
nothing_kept command before after own cause is = subst (Headline command before after) (sym is) refl

kept : (command : Command) (before after : LibraryAt) (own : End) (cause : Cause) (left : RunRecord) (trails : Option KeeperView) → own ≡ end_with_trails cause left trails
    → IsKept command before after left trails → Headline (Some command) before after own
kept command before after own cause left trails is holds = subst (Headline (Some command) before after) (sym is) holds

of_command : RunLaws → (command : Command) (before after : LibraryAt) (own : End) (text : List ℕ) → CommandAnswers command before after own text → Headline (Some command) before after own
of_command laws (commands.Bind bind) before after own text over =
    nothing_kept (Some (commands.Bind bind)) before after own over.holds.comes.cause over.holds.comes.end_is
of_command laws (commands.Dump path) before after own text over =
    nothing_kept (Some (commands.Dump path)) before after own over.holds.comes.cause over.holds.comes.end_is
of_command laws (commands.Assemble path) before after own text over =
    nothing_kept (Some (commands.Assemble path)) before after own over.holds.comes.cause over.holds.comes.end_is
of_command laws (commands.Turns turns) before after own text comes = kept (commands.Turns turns) before after own (run_cause comes.ended) comes.left None comes.end_is
    (record { items = comes.items; says = comes.says; is = is_history laws turns.setup comes.items before after comes.ended comes.left comes.plays }, refl)
of_command laws (commands.Run run) before after own text comes = kept (commands.Run run) before after own (run_cause comes.ended) comes.left comes.trails comes.end_is
    (threads_history laws run.setup before after comes.ended comes.left comes.trails comes.run.comes comes.run.no_trails)
of_command laws (commands.Check check) before after own text comes =
    nothing_kept (Some (commands.Check check)) before after own comes.cause comes.end_is
of_command laws (commands.Generate number) before after own text comes = kept (commands.Generate number) before after own (set_cause comes.ended) comes.left None comes.end_is (
  record {
    files = comes.files;
    are = comes.are;
    is = of_set laws comes.files comes.misses comes.ended comes.left comes.plays;
  },
  refl,
)

pub histories : RunLaws → AnswersAreHistories
histories laws None before after own text usage = nothing_kept None before after own causes.Usage usage.end_is
histories laws (Some command) before after own text answers = of_command laws command before after own text answers
