-- What check comes to.
use Rattle.std.specs.Prelude.{◌≡◌, ℕ, ◌^◌, ◌<◌, ◌≤◌, List, length, Some, None}
use Rattle.ld_base.specs.declared.fault.DlFault.{DlFault}
use Rattle.ld_base.specs.declared.fault.DlFault.TheVariants as dl
use Rattle.ld_base.specs.declared.linking.File.{File}
use Rattle.library_source.specs.Count.{Rises}
use Rattle.library_source.specs.Files.{Over, file_at}
use Rattle.cli_words.specs.declared.command.Check.{Check}
use Rattle.trace_check.specs.Judged.{IsJudged, MayBeRead, at, legal}
use Rattle.trace_check.specs.declared.verdict.TraceCause.{TraceCause}
use Rattle.ldso_cli.specs.Asm.{ReadsSource, SourceRead, source, missing, failed}
use Rattle.ldso_cli.specs.End.{bare}
use Rattle.ldso_cli.specs.Outside.{LibraryAt}
use Rattle.ldso_cli.specs.Status.{legal_text, refused_text, trace_refused_text}
use Rattle.ldso_cli.specs.declared.outcome.Cause.{Cause}
use Rattle.ldso_cli.specs.declared.outcome.Cause.TheVariants as causes
use Rattle.ldso_cli.specs.declared.outcome.End.{End}

-- a trace has 8 MiB at most
abbrev pub HasTraceLength : List ℕ → Type 0
HasTraceLength trace = length trace ≤ 2 ^ 23

-- it is legal with so many events, by the files as the library tells them: where it doesn't, over some files, each opening by its own
pub record IsLegal (folders : List (List ℕ)) (before : LibraryAt) (trace text : List ℕ) : Type 0 where
  pub fits : HasTraceLength trace
  pub count : ℕ
  pub judged : IsJudged folders before.files trace (legal count)
  pub text_is : text ≡ legal_text count

-- it is refused at this line, by the files as the library tells them: where it doesn't, the line is wrong by any files, or an opening's that loads a name
pub record IsRefused (folders : List (List ℕ)) (before : LibraryAt) (trace : List ℕ) (line : ℕ) (cause : TraceCause) (text : List ℕ) : Type 0 where
  pub fits : HasTraceLength trace
  pub judged : IsJudged folders before.files trace (at line cause)
  pub text_is : text ≡ trace_refused_text line (Some cause)

pub record IsTooLong (trace : List ℕ) (line : ℕ) (text : List ℕ) : Type 0 where
  pub long : 2 ^ 23 < length trace
  pub line_is : line ≡ 0
  pub text_is : text ≡ trace_refused_text line None

-- the library failed in this call, which it counts; the path that is told is one that an opening of the trace may come to read
pub record HasFailed (folders : List (List ℕ)) (before after : LibraryAt) (trace : List ℕ) (fault : DlFault) (text : List ℕ) : Type 0 where
  pub fits : HasTraceLength trace
  pub path : List ℕ
  pub fault_is : fault ≡ dl.ReadFault path
  pub read : MayBeRead folders before.files trace path
  pub counted : Rises before.faults after.faults
  pub text_is : text ≡ refused_text fault

-- what a trace comes to
abbrev pub TraceComes : List (List ℕ) → LibraryAt → LibraryAt → List ℕ → Cause → List ℕ → Type 0
TraceComes folders before after trace causes.Done text = IsLegal folders before trace text
TraceComes folders before after trace (causes.TraceRefused line (Some cause)) text = IsRefused folders before trace line cause text
TraceComes folders before after trace (causes.TraceRefused line None) text = IsTooLong trace line text
TraceComes folders before after trace (causes.Refused fault) text = HasFailed folders before after trace fault text
TraceComes folders before after trace (causes.Ran run_end) text = ⊥
TraceComes folders before after trace (causes.AsmRefused line cause) text = ⊥
TraceComes folders before after trace causes.Usage text = ⊥
TraceComes folders before after trace causes.WriteFault text = ⊥
TraceComes folders before after trace causes.Memory text = ⊥

-- what is read of the trace's path, over the files that the library tells, and over some where it tells none
abbrev pub ReadsTrace : LibraryAt → LibraryAt → List ℕ → SourceRead → Type 0
ReadsTrace before after path read = Over before.files (λ files. ReadsSource before after (file_at files path) read)

-- the cause and the text that follow from it
pub record IsUnread (fault : DlFault) (cause : Cause) (text : List ℕ) : Type 0 where
  pub cause_is : cause ≡ causes.Refused fault
  pub text_is : text ≡ refused_text fault

abbrev pub CheckGives : Check → LibraryAt → LibraryAt → SourceRead → Cause → List ℕ → Type 0
CheckGives check before after (source trace) cause text = TraceComes check.folders before after trace cause text
CheckGives check before after missing cause text = IsUnread (dl.MissingLibrary check.trace) cause text
CheckGives check before after failed cause text = IsUnread (dl.ReadFault check.trace) cause text

-- how check comes to its end and its text, while its library goes on from one state to another: by what reading its trace's path gave
pub record CheckComes (check : Check) (before after : LibraryAt) (end : End) (text : List ℕ) : Type 0 where
  pub cause : Cause
  pub end_is : end ≡ bare cause
  pub read : SourceRead
  pub reads : ReadsTrace before after check.trace read
  pub gives : CheckGives check before after read cause text

-- the file at the trace's path is a legal trace
pub record IsLegalTrace (check : Check) (files : List File) : Type 0 where
  pub trace : List ℕ
  pub is : file_at files check.trace ≡ Some trace
  pub fits : HasTraceLength trace
  pub count : ℕ
  pub judged : IsJudged check.folders (Some files) trace (legal count)
