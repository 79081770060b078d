-- Where the files have all that a command asks for, and nothing fails, it does what it was asked.
use Rattle.std.proofs.Common.{◌≡◌, ◌⊎◌, inl, inr, ℕ, Bool, List, [], Option, Some, None, Result, Ok, refl, sym, ap, subst, ◌∙◌}
use Rattle.asm_layout.specs.AsmDenotes.Denotes.{Denotes}
use Rattle.cli_text.specs.Refusal.{first_refusal}
use Rattle.cli_words.specs.declared.command.Bind.{Bind}
use Rattle.cli_words.specs.declared.command.Command.{Command}
use Rattle.cli_words.specs.declared.command.Command.TheVariants as commands
use Rattle.history_calls.specs.Laws.{StartsOrFails}
use Rattle.history_calls.specs.declared.link_served.startup.Setup.{Setup}
use Rattle.ld_base.specs.declared.fault.DlFault.{DlFault}
use Rattle.ld_base.specs.declared.linking.File.{File}
use Rattle.ld_base.specs.declared.linking.Loaded.{Loaded}
use Rattle.library_source.specs.Count.{Rises}
use Rattle.library_source.specs.Files.{Over, file_at}
use Rattle.link_open_plan.specs.Startup.{run_of}
use Rattle.link_startup.specs.Startup.{CanStart}
use Rattle.scope_rule.specs.Finding.{Reading, absent, failed, here, unaccepted}
use Rattle.scope_rule.specs.Load.{Stops, records_of, refuses}
use Rattle.scope_rule.specs.Needed.{version_fault}
use Rattle.load_walk.specs.Plan.{Lacks}
use Rattle.trace_text.specs.declared.run_texts.record.RunRecord.{RunRecord}
use Rattle.trace_text.specs.declared.run_texts.run_end.RunEnd.{RunEnd}
use Rattle.trace_check.specs.Laws.{OneVerdict}
use Rattle.word_rule.specs.declared.view.KeeperView.{KeeperView}
use Rattle.world_turns.specs.declared.schedules.schedule.TurnItem.{TurnItem}
use Rattle.ldso_cli.proofs.Assembling.{NeverBoth}
use Rattle.ldso_cli.proofs.Decided.{NotBoth, settled}
use Rattle.ldso_cli.proofs.Kept.{has_come, has_run}
use Rattle.ldso_cli.proofs.Same.{OneWalk, one_list}
use Rattle.ldso_cli.proofs.Told.{never_rises}
use Rattle.ldso_cli.proofs.Traces.{check_done}
use Rattle.ldso_cli.proofs.Whole.{OneSet}
use Rattle.ldso_cli.specs.Asm.{AsmComes, GivesCause, ReadsSource, SourceComes, SourceRead, failed as unread, missing, source}
use Rattle.ldso_cli.specs.Bind.{BindComes, IsLoaded, IsNotLoaded, cause_of, namespace_of, program_load}
use Rattle.ldso_cli.specs.Command.{CommandAnswers, IsAnswer, OverFiles, ReadsWell}
use Rattle.ldso_cli.specs.Complete.{AreFilesOf, CanBeAssembled, CanBeBound, CanBeDumped, FilesSuffice, IsDone, RanToItsEnd}
use Rattle.ldso_cli.specs.Dump.{DumpComes, ReadsAs, dump_cause}
use Rattle.ldso_cli.specs.End.{kept_end, end_with_trails}
use Rattle.ldso_cli.specs.Generate.{set_at, set_cause, set_setup}
use Rattle.ldso_cli.specs.Laws.{AnswersComplete}
use Rattle.ldso_cli.specs.Outside.{LibraryAt}
use Rattle.ldso_cli.specs.Played.{ComesToEnd, IsPlayed, run_cause}
use Rattle.ldso_cli.specs.Threads.{RunsOnThreads}
use Rattle.ldso_cli.specs.declared.outcome.Cause.{Cause}
use Rattle.ldso_cli.specs.declared.outcome.Cause.TheVariants as causes
use Rattle.ldso_cli.specs.declared.outcome.End.{End}

-- what is known of loads, of sources and of starts
pub record Laws : Type 0 where
  pub one_walk : OneWalk
  pub not_both : NotBoth
  pub never_both : NeverBoth
  pub starts : StartsOrFails
  pub one_set : OneSet
  pub one_verdict : OneVerdict

module _ (laws : Laws) where
  -- ---- bind

  module _ (bind : Bind) (files : List File) (can : CanBeBound bind files) where
    not_refused : (fault : DlFault) → Stops (program_load bind files) (refuses fault) ⊎ Lacks (program_load bind files) Bool.false fault → ⊥
    not_refused fault (inl stops) = laws.not_both (program_load bind files) can.loads.walk (refuses fault) can.loads.brings stops
    not_refused fault (inr lacks) =
        let walks = laws.one_walk (program_load bind files) can.loads.walk lacks.walk can.loads.brings lacks.brings in
        let same : can.objects ≡ records_of (program_load bind files) Bool.false lacks.walk = can.loads.are ∙ ap (records_of (program_load bind files) Bool.false) walks in
        let e : None ≡ Some fault = sym can.versions ∙ ap (version_fault []) same ∙ lacks.lacks in
        absurd cc

    loaded_done : (cause : Cause) → IsLoaded bind files cause → cause ≡ causes.Done
    loaded_done cause p =
        let same : p.objects ≡ can.objects = one_list laws.one_walk bind files p.objects can.objects p.loads can.loads in
        p.cause_is ∙ ap (λ (objects : List Loaded). cause_of (first_refusal (namespace_of objects) bind.now objects)) same ∙ ap cause_of can.references

    bind_done : (before after : LibraryAt) (cause : Cause) → (Rises before.faults after.faults → ⊥) → BindComes bind before after files cause → cause ≡ causes.Done
    bind_done before after cause still comes = by comes.is
      where
        by : IsLoaded bind files cause ⊎ IsNotLoaded bind files cause → cause ≡ causes.Done
        by (inl p) = loaded_done cause p
        by (inr p) = let fault = settled bind files cause p (λ path e. still (comes.read_fault path e)) in absurd (not_refused fault.fault fault.is)

  -- ---- dump

  dump_done : (path : List ℕ) (before after : LibraryAt) (files : List File) (cause : Cause) → CanBeDumped path files → (Rises before.faults after.faults → ⊥)
      → DumpComes path before after files cause → cause ≡ causes.Done
  dump_done path before after files cause can still comes = comes.cause_is ∙ by comes.reading comes.gives
    where
      by : (reading : Reading) → ReadsAs before after (file_at files path) reading → dump_cause path reading ≡ causes.Done
      by (here o table) gives = refl
      by (unaccepted broken) gives = let e : here can.object can.table ≡ unaccepted broken = sym can.is ∙ gives in absurd cc
      by absent gives = let e : here can.object can.table ≡ absent = sym can.is ∙ gives.0 in absurd cc
      by failed gives = absurd (still gives)

  -- ---- asm

  source_done : (bytes object text : List ℕ) (cause : Cause) → Denotes bytes object → SourceComes bytes cause text → cause ≡ causes.Done
  source_done bytes object text causes.Done denotes comes = refl
  source_done bytes object text (causes.AsmRefused line why) denotes comes = absurd (laws.never_both bytes object line why denotes comes.0)
  source_done bytes object text (causes.Refused fault) denotes comes = absurd comes
  source_done bytes object text (causes.Ran run_end) denotes comes = absurd comes
  source_done bytes object text (causes.TraceRefused line why) denotes comes = absurd comes
  source_done bytes object text causes.Usage denotes comes = absurd comes
  source_done bytes object text causes.WriteFault denotes comes = absurd comes
  source_done bytes object text causes.Memory denotes comes = absurd comes

  asm_done : (path : List ℕ) (before after : LibraryAt) (files : List File) (cause : Cause) → CanBeAssembled path files → (Rises before.faults after.faults → ⊥)
      → AsmComes path before after files cause → cause ≡ causes.Done
  asm_done path before after files cause can still comes = by comes.read comes.reads comes.gives
    where
      by : (read : SourceRead) → ReadsSource before after (file_at files path) read → GivesCause path read cause → cause ≡ causes.Done
      by (source bytes) reads gives =
          let e : Some can.source ≡ Some bytes = sym can.is ∙ reads in
          let same : can.source ≡ bytes = cc in
          source_done bytes can.bytes gives.0 cause (subst (λ (it : List ℕ). Denotes it can.bytes) same can.denotes) gives.1
      by missing reads gives = let e : Some can.source ≡ None = sym can.is ∙ reads.0 in absurd cc
      by unread reads gives = absurd (still reads)

  -- ---- a run

  ran_to_end : (setup : Setup) (items : List TurnItem) (before after : LibraryAt) (ended : Result RunEnd DlFault) (left : RunRecord) (own : End) (files : List File)
      (of_ended : Result RunEnd DlFault → Cause) → before.files ≡ Some files → (Rises before.faults after.faults → ⊥) → CanStart (run_of setup (Some files)) setup
      → IsPlayed setup items before after ended left → own ≡ kept_end (of_ended ended) left → RanToItsEnd (λ run_end. of_ended (Ok run_end)) own
  ran_to_end setup items before after ended left own files of_ended told still may plays is =
      let may_start : CanStart (run_of setup before.files) setup = subst (λ (fs : Option (List File)). CanStart (run_of setup fs) setup) (sym told) may in
      let run = has_run laws.starts setup items before after files ended left told still may_start plays in
      record {
        run_end = run.leaves.run_end;
        left = left;
        kept = ap (λ (end : End). end.kept) is;
        decides = run.leaves.decides;
        cause = ap (λ (end : End). end.cause) is ∙ ap of_ended run.leaves.ended_is;
      }

  threads_to_end : (setup : Setup) (before after : LibraryAt) (ended : Result RunEnd DlFault) (left : RunRecord) (trails : Option KeeperView) (own : End) (files : List File)
      → before.files ≡ Some files → (Rises before.faults after.faults → ⊥) → CanStart (run_of setup (Some files)) setup
      → ComesToEnd (RunsOnThreads setup before.files ended left trails) setup before after ended left → own ≡ end_with_trails (run_cause ended) left trails → RanToItsEnd causes.Ran own
  threads_to_end setup before after ended left trails own files told still may comes is =
      let may_start : CanStart (run_of setup before.files) setup = subst (λ (fs : Option (List File)). CanStart (run_of setup fs) setup) (sym told) may in
      let run = has_come laws.starts (RunsOnThreads setup before.files ended left trails) setup before after files ended left told still may_start comes in
      record {
        run_end = run.run_end;
        left = left;
        kept = ap (λ (end : End). end.kept) is;
        decides = run.decides;
        cause = ap (λ (end : End). end.cause) is ∙ ap run_cause run.ended_is;
      }

  -- ---- all commands

  over_told : (command : Command) (before after : LibraryAt) (own : End) (text : List ℕ) (files : List File) → before.files ≡ Some files
      → OverFiles command before after own text → IsAnswer command before after own text files
  over_told command before after own text files told answers =
      let P : List File → Type 0 = IsAnswer command before after own text in
      let over : Over (Some files) P = subst (λ (t : Option (List File)). Over t P) told answers in
      subst P over.are over.holds

  done : (command : Command) (before after : LibraryAt) (own : End) (text : List ℕ) (files : List File) → CommandAnswers command before after own text
      → AreFilesOf command before files → ReadsWell command before after → FilesSuffice command files → IsDone command own
  done (commands.Bind bind) before after own text files answers told well can =
      let comes = (over_told (commands.Bind bind) before after own text files told answers).comes in
      ap (λ (end : End). end.cause) comes.end_is ∙ bind_done bind files can before after comes.cause (well refl) comes.by
  done (commands.Dump path) before after own text files answers told well can =
      let comes = (over_told (commands.Dump path) before after own text files told answers).comes in
      ap (λ (end : End). end.cause) comes.end_is ∙ dump_done path before after files comes.cause can (well refl) comes.by
  done (commands.Assemble path) before after own text files answers told well can =
      let comes = (over_told (commands.Assemble path) before after own text files told answers).comes in
      ap (λ (end : End). end.cause) comes.end_is ∙ asm_done path before after files comes.cause can (well refl) comes.by
  done (commands.Turns turns) before after own text files comes told well can =
      ran_to_end turns.setup comes.items before after comes.ended comes.left own files run_cause told (well refl) can comes.plays comes.end_is
  done (commands.Run run) before after own text files comes told well can =
      threads_to_end run.setup before after comes.ended comes.left comes.trails own files told (well refl) can comes.run.comes comes.end_is
  done (commands.Check check) before after own text files comes told well can =
      ap (λ (end : End). end.cause) comes.end_is ∙ check_done laws.one_verdict check files can before after own text told (well refl) comes
  done (commands.Generate number) before after own text files comes are well can =
      let same : comes.files ≡ files = laws.one_set number comes.files files comes.are are in
      ran_to_end set_setup [] (set_at comes.files 0) (set_at comes.files comes.misses) comes.ended comes.left own files set_cause (ap Some same) never_rises can comes.plays comes.end_is

pub complete : Laws → AnswersComplete
complete laws command before after own text files answers are well can = done laws command before after own text files answers are well can
