-- Each cause comes only where it is so.
use Rattle.std.proofs.Common.{◌≡◌, inl, inr, ℕ, List, Option, Some, None, Result, Ok, Err, refl, sym, ap, subst, ◌∙◌}
use Rattle.std.specs.Prelude.{IfOk}
use Rattle.std.specs.Result.{MatchResult}
use Rattle.std.specs.declared.alloc.AllocError.{AllocError}
use Rattle.ld_base.specs.declared.fault.DlFault.{DlFault}
use Rattle.ld_base.specs.declared.fault.DlFault.TheVariants as dl
use Rattle.ld_base.specs.declared.linking.File.{File}
use Rattle.library_source.specs.Count.{Rises}
use Rattle.library_source.specs.Files.{AreFiles, file_at}
use Rattle.trace_text.specs.declared.run_texts.run_end.RunEnd.{RunEnd}
use Rattle.trace_text.specs.declared.run_texts.run_end.RunEnd.TheVariants.{Exited, Ended}
use Rattle.scope_rule.specs.Finding.{Reading, here, unaccepted, absent, failed}
use Rattle.cli_text.specs.Refusal.{first_refusal}
use Rattle.cli_words.specs.declared.command.Bind.{Bind}
use Rattle.cli_words.specs.declared.command.Check.{Check}
use Rattle.cli_words.specs.declared.command.Command.{Command}
use Rattle.cli_words.specs.declared.command.Command.TheVariants as commands
use Rattle.ldso_cli.proofs.Told.{never_rises}
use Rattle.ldso_cli.specs.Asm.{SourceRead, SourceComes, ReadsSource, GivesCause}
use Rattle.ldso_cli.specs.Bind.{BindComes, cause_of, namespace_of}
use Rattle.cli_words.specs.declared.command.Run.{Run}
use Rattle.cli_words.specs.declared.command.Turns.{Turns}
use Rattle.ldso_cli.specs.Check.{CheckGives, IsUnread, ReadsTrace, TraceComes}
use Rattle.ldso_cli.specs.Command.{WordsAnswer, CommandAnswers, Misses}
use Rattle.ldso_cli.specs.Dump.{DumpComes, ReadsAs, dump_cause}
use Rattle.ldso_cli.specs.End.{bare}
use Rattle.ldso_cli.specs.Ends.{Handing, IsCaused, IsUnanswered, Written}
use Rattle.ldso_cli.specs.Generate.{GenComes, set_cause}
use Rattle.ldso_cli.specs.Outside.{LibraryAt, SinkAt}
use Rattle.ldso_cli.specs.Played.{run_cause}
use Rattle.ldso_cli.specs.Threads.{RunComes}
use Rattle.ldso_cli.specs.Turns.{TurnsComes}
use Rattle.ldso_cli.specs.declared.answer.Answer.{Answer}
use Rattle.ldso_cli.specs.declared.outcome.Cause.{Cause}
use Rattle.ldso_cli.specs.declared.outcome.Cause.TheVariants as causes
use Rattle.ldso_cli.specs.declared.outcome.End.{End}

-- what a command's own cause tells
pub record IsOwn (command : Command) (before after : LibraryAt) (cause : Cause) : Type 0 where
  pub no_usage : cause ≡ causes.Usage → ⊥
  pub no_write : cause ≡ causes.WriteFault → ⊥
  pub read_fault : (path : List ℕ) → cause ≡ causes.Refused (dl.ReadFault path) → Rises before.faults after.faults
  pub missing : (name : List ℕ) → cause ≡ causes.Refused (dl.MissingLibrary name) → Misses command before after name

-- a cause that tells of nothing outside
abbrev IsQuiet : Cause → Type 0
IsQuiet causes.Done = Unit {0}
IsQuiet (causes.AsmRefused line cause) = Unit {0}
IsQuiet (causes.TraceRefused line cause) = Unit {0}
IsQuiet (causes.Refused (dl.NotAccepted path broken)) = Unit {0}
IsQuiet _ = ⊥

quiet_own : (command : Command) (before after : LibraryAt) (cause : Cause) → IsQuiet cause → IsOwn command before after cause
quiet_own command before after causes.Done quiet =
    record { no_usage = λ e. cc e; no_write = λ e. cc e; read_fault = λ path e. absurd (cc e); missing = λ name e. absurd (cc e) }
quiet_own command before after (causes.AsmRefused line cause) quiet =
    record { no_usage = λ e. cc e; no_write = λ e. cc e; read_fault = λ path e. absurd (cc e); missing = λ name e. absurd (cc e) }
quiet_own command before after (causes.TraceRefused line cause) quiet =
    record { no_usage = λ e. cc e; no_write = λ e. cc e; read_fault = λ path e. absurd (cc e); missing = λ name e. absurd (cc e) }
quiet_own command before after (causes.Refused (dl.NotAccepted path broken)) quiet =
    record { no_usage = λ e. cc e; no_write = λ e. cc e; read_fault = λ at e. absurd (cc e); missing = λ name e. absurd (cc e) }
quiet_own command before after _ quiet = absurd quiet

-- ---- bind

not_usage : (found : Option DlFault) → cause_of found ≡ causes.Usage → ⊥
not_usage None e = cc e
not_usage (Some fault) e = cc e

not_write : (found : Option DlFault) → cause_of found ≡ causes.WriteFault → ⊥
not_write None e = cc e
not_write (Some fault) e = cc e

bind_own : (bind : Bind) (before after : LibraryAt) (files : List File) (cause : Cause) → AreFiles before.files files → BindComes bind before after files cause → IsOwn (commands.Bind bind) before after cause
bind_own bind before after files cause are comes = record {
  no_usage = λ e. elim comes.is [
    | inl loaded ↦ not_usage (first_refusal (namespace_of loaded.objects) bind.now loaded.objects) (sym loaded.cause_is ∙ e)
    | inr unloaded ↦ (let no : causes.Refused unloaded.fault ≡ causes.Usage = sym unloaded.cause_is ∙ e in cc no)
  ];
  no_write = λ e. elim comes.is [
    | inl loaded ↦ not_write (first_refusal (namespace_of loaded.objects) bind.now loaded.objects) (sym loaded.cause_is ∙ e)
    | inr unloaded ↦ (let no : causes.Refused unloaded.fault ≡ causes.WriteFault = sym unloaded.cause_is ∙ e in cc no)
  ];
  read_fault = comes.read_fault;
  missing = λ name e. record { files = files; are = are; holds = comes.missing name e };
}

-- ---- dump and asm, which read one path

same_name : (path name : List ℕ) → causes.Refused (dl.MissingLibrary path) ≡ causes.Refused (dl.MissingLibrary name) → name ≡ path
same_name path name e = (let same : path ≡ name = cc e in sym same)

dump_own : (path : List ℕ) (before after : LibraryAt) (file : Option (List ℕ)) (reading : Reading) → ReadsAs before after file reading → IsOwn (commands.Dump path) before after (dump_cause path reading)
dump_own path before after file (here o table) gives = quiet_own (commands.Dump path) before after causes.Done tt
dump_own path before after file (unaccepted broken) gives = quiet_own (commands.Dump path) before after (causes.Refused (dl.NotAccepted path broken)) tt
dump_own path before after file absent gives =
    record { no_usage = λ e. cc e; no_write = λ e. cc e; read_fault = λ at e. absurd (cc e); missing = λ name e. (same_name path name e, gives.1) }
dump_own path before after file failed gives =
    record { no_usage = λ e. cc e; no_write = λ e. cc e; read_fault = λ at e. gives; missing = λ name e. absurd (cc e) }

source_own : (path bytes text : List ℕ) (before after : LibraryAt) (cause : Cause) → SourceComes bytes cause text → IsOwn (commands.Assemble path) before after cause
source_own path bytes text before after causes.Done comes = quiet_own (commands.Assemble path) before after causes.Done tt
source_own path bytes text before after (causes.AsmRefused line why) comes = quiet_own (commands.Assemble path) before after (causes.AsmRefused line why) tt
source_own path bytes text before after (causes.Refused fault) comes = absurd comes
source_own path bytes text before after (causes.Ran run_end) comes = absurd comes
source_own path bytes text before after (causes.TraceRefused line why) comes = absurd comes
source_own path bytes text before after causes.Usage comes = absurd comes
source_own path bytes text before after causes.WriteFault comes = absurd comes
source_own path bytes text before after causes.Memory comes = absurd comes

asm_own : (path : List ℕ) (before after : LibraryAt) (file : Option (List ℕ)) (read : SourceRead) (cause : Cause) → ReadsSource before after file read → GivesCause path read cause → IsOwn (commands.Assemble path) before after cause
asm_own path before after file (SourceRead.source bytes) cause reads gives = source_own path bytes gives.0 before after cause gives.1
asm_own path before after file SourceRead.missing cause reads gives =
    let P : Cause → Type 0 = λ c. IsOwn (commands.Assemble path) before after c in
    subst P (sym gives) (record { no_usage = λ e. cc e; no_write = λ e. cc e; read_fault = λ at e. absurd (cc e); missing = λ name e. (same_name path name e, reads.1) })
asm_own path before after file SourceRead.failed cause reads gives =
    let P : Cause → Type 0 = λ c. IsOwn (commands.Assemble path) before after c in
    subst P (sym gives) (record { no_usage = λ e. cc e; no_write = λ e. cc e; read_fault = λ at e. reads; missing = λ name e. absurd (cc e) })

-- ---- a command's own end

at_end : (command : Command) (before after : LibraryAt) (cause : Cause) (end : End) → end ≡ bare cause → IsOwn command before after cause → IsOwn command before after end.cause
at_end command before after cause end is own =
    let P : Cause → Type 0 = λ c. IsOwn command before after c in
    subst P (sym (ap (λ (e : End). e.cause) is)) own

dump_comes : (path : List ℕ) (before after : LibraryAt) (files : List File) (cause : Cause) → DumpComes path before after files cause → IsOwn (commands.Dump path) before after cause
dump_comes path before after files cause comes =
    let P : Cause → Type 0 = λ c. IsOwn (commands.Dump path) before after c in
    subst P (sym comes.cause_is) (dump_own path before after (file_at files path) comes.reading comes.gives)

-- ---- check

of_unread : (check : Check) (before after : LibraryAt) (fault : DlFault) (cause : Cause) (text : List ℕ) → IsUnread fault cause text → ((path : List ℕ) → fault ≡ dl.ReadFault path → Rises before.faults after.faults)
    → ((name : List ℕ) → fault ≡ dl.MissingLibrary name → (name ≡ check.trace) × Rises before.misses after.misses) → IsOwn (commands.Check check) before after cause
of_unread check before after fault cause text unread counted missed =
    let P : Cause → Type 0 = λ c. IsOwn (commands.Check check) before after c in
    subst P (sym unread.cause_is) (record {
      no_usage = λ e. cc e;
      no_write = λ e. cc e;
      read_fault = λ path e. counted path (same_refusal fault (dl.ReadFault path) e);
      missing = λ name e. missed name (same_refusal fault (dl.MissingLibrary name) e);
    })
  where
    same_refusal : (f g : DlFault) → causes.Refused f ≡ causes.Refused g → f ≡ g
    same_refusal f g e = cc

trace_own : (check : Check) (before after : LibraryAt) (trace : List ℕ) (cause : Cause) (text : List ℕ) → TraceComes check.folders before after trace cause text → IsOwn (commands.Check check) before after cause
trace_own check before after trace causes.Done text comes = quiet_own (commands.Check check) before after causes.Done tt
trace_own check before after trace (causes.TraceRefused line why) text comes = quiet_own (commands.Check check) before after (causes.TraceRefused line why) tt
trace_own check before after trace (causes.Refused fault) text comes =
    of_unread check before after fault (causes.Refused fault) text (record { cause_is = refl; text_is = comes.text_is }) (λ path e. comes.counted)
    (λ name e. (let d : dl.ReadFault comes.path ≡ dl.MissingLibrary name = sym comes.fault_is ∙ e in absurd cc))
trace_own check before after trace (causes.Ran run_end) text comes = absurd comes
trace_own check before after trace (causes.AsmRefused line why) text comes = absurd comes
trace_own check before after trace causes.Usage text comes = absurd comes
trace_own check before after trace causes.WriteFault text comes = absurd comes
trace_own check before after trace causes.Memory text comes = absurd comes

check_own : (check : Check) (before after : LibraryAt) (cause : Cause) (text : List ℕ) (read : SourceRead) → ReadsTrace before after check.trace read → CheckGives check before after read cause text
    → IsOwn (commands.Check check) before after cause
check_own check before after cause text (SourceRead.source trace) reads gives = trace_own check before after trace cause text gives
check_own check before after cause text SourceRead.missing reads gives = of_unread check before after (dl.MissingLibrary check.trace) cause text gives
    (λ path e. (let d : dl.MissingLibrary check.trace ≡ dl.ReadFault path = e in absurd cc))
    (λ name e. ((let d : dl.MissingLibrary check.trace ≡ dl.MissingLibrary name = e in cc), reads.holds.1))
check_own check before after cause text SourceRead.failed reads gives = of_unread check before after (dl.ReadFault check.trace) cause text gives (λ path e. reads.holds)
    (λ name e. (let d : dl.ReadFault check.trace ≡ dl.MissingLibrary name = e in absurd cc))

-- ---- turns, run and gen, by how their runs ended

abbrev not_started : DlFault → Result RunEnd DlFault
not_started fault = Err fault

same_fault : (f g : DlFault) → causes.Refused f ≡ causes.Refused g → f ≡ g
same_fault f g e = cc

run_ended : (command : Command) (before after : LibraryAt) (ended : Result RunEnd DlFault) → ((path : List ℕ) → ended ≡ Err (dl.ReadFault path) → Rises before.faults after.faults)
    → ((name : List ℕ) → ended ≡ Err (dl.MissingLibrary name) → Misses command before after name) → IsOwn command before after (run_cause ended)
run_ended command before after (Ok run_end) unread missed =
    record { no_usage = λ e. cc e; no_write = λ e. cc e; read_fault = λ path e. absurd (cc e); missing = λ name e. absurd (cc e) }
run_ended command before after (Err fault) unread missed = record {
  no_usage = λ e. cc e;
  no_write = λ e. cc e;
  read_fault = λ path e. unread path (ap not_started (same_fault fault (dl.ReadFault path) e));
  missing = λ name e. missed name (ap not_started (same_fault fault (dl.MissingLibrary name) e));
}

turns_own : (turns : Turns) (before after : LibraryAt) (end : End) (text : List ℕ) → TurnsComes turns before after end text → IsOwn (commands.Turns turns) before after end.cause
turns_own turns before after end text comes =
    let P : Cause → Type 0 = λ c. IsOwn (commands.Turns turns) before after c in
    subst P (sym (ap (λ (e : End). e.cause) comes.end_is)) (run_ended (commands.Turns turns) before after comes.ended comes.plays.read_fault comes.plays.missing)

threads_own : (run : Run) (before after : LibraryAt) (end : End) (text : List ℕ) → RunComes run before after end text → IsOwn (commands.Run run) before after end.cause
threads_own run before after end text comes =
    let P : Cause → Type 0 = λ c. IsOwn (commands.Run run) before after c in
    subst P (sym (ap (λ (e : End). e.cause) comes.end_is)) (run_ended (commands.Run run) before after comes.ended comes.run.comes.read_fault comes.run.comes.missing)

gen_ended : (number : ℕ) (before after : LibraryAt) (ended : Result RunEnd DlFault) → ((path : List ℕ) → ended ≡ Err (dl.ReadFault path) → ⊥)
    → IsOwn (commands.Generate number) before after (set_cause ended)
gen_ended number before after (Ok (Exited code)) unread =
    record { no_usage = λ e. cc e; no_write = λ e. cc e; read_fault = λ path e. absurd (cc e); missing = λ name e. absurd (cc e) }
gen_ended number before after (Ok (Ended hart reason)) unread =
    record { no_usage = λ e. cc e; no_write = λ e. cc e; read_fault = λ path e. absurd (cc e); missing = λ name e. absurd (cc e) }
gen_ended number before after (Err fault) unread = record {
  no_usage = λ e. cc e;
  no_write = λ e. cc e;
  read_fault = λ path e. absurd (unread path (ap not_started (same_fault fault (dl.ReadFault path) e)));
  missing = λ name e. tt;
}

gen_own : (number : ℕ) (before after : LibraryAt) (end : End) (text : List ℕ) → GenComes number end text → IsOwn (commands.Generate number) before after end.cause
gen_own number before after end text comes =
    let P : Cause → Type 0 = λ c. IsOwn (commands.Generate number) before after c in
    subst P (sym (ap (λ (e : End). e.cause) comes.end_is))
    (gen_ended number before after comes.ended (λ path e. never_rises (comes.plays.read_fault path e)))

own_end : (command : Command) (before after : LibraryAt) (end : End) (text : List ℕ) → CommandAnswers command before after end text → IsOwn command before after end.cause
own_end (commands.Bind bind) before after end text over =
    let comes = over.holds.comes in
    at_end (commands.Bind bind) before after comes.cause end comes.end_is (bind_own bind before after over.files comes.cause over.are comes.by)
own_end (commands.Dump path) before after end text over =
    let comes = over.holds.comes in
    at_end (commands.Dump path) before after comes.cause end comes.end_is (dump_comes path before after over.files comes.cause comes.by)
own_end (commands.Assemble path) before after end text over =
    let comes = over.holds.comes in
    at_end (commands.Assemble path) before after comes.cause end comes.end_is (asm_own path before after (file_at over.files path) comes.by.read comes.cause comes.by.reads comes.by.gives)
own_end (commands.Turns turns) before after end text comes = turns_own turns before after end text comes
own_end (commands.Run run) before after end text comes = threads_own run before after end text comes
own_end (commands.Check check) before after end text comes = at_end (commands.Check check) before after comes.cause end comes.end_is (check_own check before after comes.cause text comes.read comes.reads comes.gives)
own_end (commands.Generate number) before after end text comes = gen_own number before after end text comes

-- ---- what is written

pub own_caused : (command : Option Command) (before after : LibraryAt) (old new : SinkAt) (end : End) (text : List ℕ) → WordsAnswer command before after end text → IsCaused command before after old new end.cause
own_caused None before after old new end text usage =
    let P : Cause → Type 0 = λ c. IsCaused None before after old new c in
    subst P (sym (ap (λ (e : End). e.cause) usage.end_is))
    (record { usage = λ e. refl; no_command = λ e. inl refl; read_fault = λ path e. absurd (cc e); missing = λ name e. absurd (cc e); write_fault = λ e. absurd (cc e) })
own_caused (Some command) before after old new end text over =
    let own = own_end command before after end text over in
    record {
      usage = λ e. absurd (own.no_usage e);
      no_command = λ e. absurd (cc e);
      read_fault = own.read_fault;
      missing = own.missing;
      write_fault = λ e. absurd (own.no_write e);
    }

fault_caused : (command : Option Command) (before after : LibraryAt) (old new : SinkAt) → Rises old.faults new.faults → IsCaused command before after old new causes.WriteFault
fault_caused command before after old new counted =
    record { usage = λ e. absurd (cc e); no_command = λ e. inr (inl refl); read_fault = λ path e. absurd (cc e); missing = λ name e. absurd (cc e); write_fault = λ e. counted }

memory_caused : (command : Option Command) (before after : LibraryAt) (old new : SinkAt) → IsCaused command before after old new causes.Memory
memory_caused command before after old new =
    record { usage = λ e. absurd (cc e); no_command = λ e. inr (inr refl); read_fault = λ path e. absurd (cc e); missing = λ name e. absurd (cc e); write_fault = λ e. absurd (cc e) }

written_caused : (handed : Handing) (command : Option Command) (before after : LibraryAt) (old new : SinkAt) (own end : End) (text : List ℕ) → WordsAnswer command before after own text → Written handed own text old new end
    → IsCaused command before after old new end.cause
written_caused handed command before after old new own end text answers written =
    let P : Cause → Type 0 = λ c. IsCaused command before after old new c in
    elim written [
      | inl whole ↦ subst P (sym (ap (λ (e : End). e.cause) whole.end_is)) (own_caused command before after old new own text answers)
      | inr (inl short) ↦ subst P (sym (ap (λ (e : End). e.cause) short.end_is)) (fault_caused command before after old new short.counted)
      | inr (inr stopped) ↦ subst P (sym (ap (λ (e : End). e.cause) stopped.end_is)) (memory_caused command before after old new)
    ]

pub end_caused : (handed : Handing) (command : Option Command) (before after : LibraryAt) (old new : SinkAt) (r : Result Answer AllocError) (end : End) → IfOk r (λ a. WordsAnswer command before after a.end a.text)
    → MatchResult r (λ a. Written handed a.end a.text old new end) (λ _. IsUnanswered handed old new end) → IsCaused command before after old new end.cause
end_caused handed command before after old new (Ok a) end answers written = written_caused handed command before after old new a.end end a.text answers written
end_caused handed command before after old new (Err e) end answers unanswered =
    let P : Cause → Type 0 = λ c. IsCaused command before after old new c in
    subst P (sym (ap (λ (x : End). x.cause) unanswered.end_is)) (memory_caused command before after old new)
