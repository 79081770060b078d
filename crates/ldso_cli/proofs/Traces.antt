-- What a trace comes to.
use Rattle.std.proofs.Common.{◌≡◌, ◌⊎◌, inl, inr, ℕ, ◌^◌, ◌<◌, ◌≤◌, List, length, Option, Some, None, Result, Ok, Err, refl, sym, ap, subst, ◌∙◌, arith}
use Rattle.std.specs.Prelude.{IfErr, IfOk, IfSome}
use Rattle.std.specs.declared.alloc.AllocError.{AllocError}
use Rattle.ld_base.specs.declared.fault.DlFault.{DlFault}
use Rattle.ld_base.specs.declared.fault.DlFault.TheVariants as dl
use Rattle.ld_base.specs.declared.linking.File.{File}
use Rattle.library_source.specs.Count.{Rises}
use Rattle.library_source.specs.Files.{AreFiles, Over, file_at}
use Rattle.cli_words.specs.declared.command.Check.{Check}
use Rattle.trace_check.specs.Judged.{IsJudged, MayBeRead, Verdict, at, legal}
use Rattle.trace_check.specs.Laws.{OneVerdict}
use Rattle.trace_check.specs.declared.verdict.CheckFault.{CheckFault}
use Rattle.trace_check.specs.declared.verdict.CheckFault.TheVariants as faults
use Rattle.trace_check.specs.declared.verdict.TraceCause.{TraceCause}
use Rattle.ldso_cli.proofs.Dumping.{files_at, some_file}
use Rattle.ldso_cli.specs.Asm.{ReadsSource, SourceRead, failed, missing, source}
use Rattle.ldso_cli.specs.Check.{CheckComes, CheckGives, HasFailed, HasTraceLength, IsLegalTrace, ReadsTrace, TraceComes}
use Rattle.ldso_cli.specs.Checking.{IsJudgement}
use Rattle.ldso_cli.specs.Command.{EndsBare, NoReadFails}
use Rattle.ldso_cli.specs.End.{bare}
use Rattle.ldso_cli.specs.Outside.{LibraryAt}
use Rattle.ldso_cli.specs.Status.{legal_text, refused_text, trace_refused_text}
use Rattle.ldso_cli.specs.declared.answer.Answer.{Answer}
use Rattle.ldso_cli.specs.declared.outcome.Cause.{Cause}
use Rattle.ldso_cli.specs.declared.outcome.Cause.TheVariants as causes
use Rattle.ldso_cli.specs.declared.outcome.End.{End}

-- ---- what is answered

-- what the judgement of a trace that fits says
pub record IsSaidOf (folders : List (List ℕ)) (before after : LibraryAt) (trace : List ℕ) (r : Result ℕ CheckFault) : Type 0 where
  pub fits : HasTraceLength trace
  pub passed : IfOk r (λ count. IsJudged folders before.files trace (legal count))
  pub refused : IfErr r (λ fault. (line : ℕ) (cause : TraceCause) → fault ≡ faults.At line cause → IsJudged folders before.files trace (at line cause))
  pub path : IfErr r (λ fault. (path : List ℕ) → fault ≡ faults.ReadFault path → MayBeRead folders before.files trace path)
  pub failed : IfErr r (λ fault. (path : List ℕ) → fault ≡ faults.ReadFault path → Rises before.faults after.faults)

judged : (folders : List (List ℕ)) (before after : LibraryAt) (trace : List ℕ) (r : Result ℕ CheckFault) (end : End) (text : List ℕ) → IsSaidOf folders before after trace r → IsJudgement r end text
    → EndsBare (λ cause. TraceComes folders before after trace cause text) end
judged folders before after trace (Ok count) end text said is =
    record { cause = causes.Done; end_is = is.end_is; by = record { fits = said.fits; count = count; judged = said.passed; text_is = is.text_is } }
judged folders before after trace (Err (faults.At line cause)) end text said is = record {
  cause = causes.TraceRefused line (Some cause);
  end_is = is.end_is;
  by = record { fits = said.fits; judged = said.refused line cause refl; text_is = is.text_is };
}
judged folders before after trace (Err (faults.ReadFault path)) end text said is = record {
  cause = causes.Refused (dl.ReadFault path);
  end_is = is.end_is;
  by = record { fits = said.fits; path = path; fault_is = refl; read = said.path path refl; counted = said.failed path refl; text_is = is.text_is };
}
judged folders before after trace (Err faults.Memory) end text said is = absurd is

pub judged_comes : (folders : List (List ℕ)) (before after : LibraryAt) (trace : List ℕ) (r : Result ℕ CheckFault) (answer : Result Answer AllocError) → IsSaidOf folders before after trace r
    → IfOk answer (λ a. IsJudgement r a.end a.text) → IfOk answer (λ a. EndsBare (λ cause. TraceComes folders before after trace cause a.text) a.end)
judged_comes folders before after trace r (Ok a) said is = judged folders before after trace r a.end a.text said is
judged_comes folders before after trace r (Err e) said is = tt

pub long_comes : (folders : List (List ℕ)) (before after : LibraryAt) (trace : List ℕ) (answer : Result Answer AllocError) → 2 ^ 23 < length trace → IfOk answer (λ a. a.end ≡ bare (causes.TraceRefused 0 None))
    → IfOk answer (λ a. a.text ≡ trace_refused_text 0 None) → IfOk answer (λ a. EndsBare (λ cause. TraceComes folders before after trace cause a.text) a.end)
long_comes folders before after trace (Ok a) long end text = record { cause = causes.TraceRefused 0 None; end_is = end; by = record { long = long; line_is = refl; text_is = text } }
long_comes folders before after trace (Err e) long end text = tt

-- what is read where the path has this file
read_at : (told : Option (List File)) (path : List ℕ) (file : Option (List ℕ)) (P : Option (List ℕ) → Type 0) → IfSome told (λ all. file_at all path ≡ file) → P file → Over told (λ files. P (file_at files path))
read_at told path file P there holds =
    let over = files_at told path file there in
    record { files = over.files; are = over.are; holds = subst P (sym over.holds) holds }

pub read_comes : (check : Check) (before middle after : LibraryAt) (trace : List ℕ) (answer : Result Answer AllocError) → middle.files ≡ before.files → before.faults ≤ middle.faults
    → IfSome before.files (λ files. file_at files check.trace ≡ Some trace)
    → IfOk answer (λ a. EndsBare (λ cause. TraceComes check.folders middle after trace cause a.text) a.end) → IfOk answer (λ a. CheckComes check before after a.end a.text)
read_comes check before middle after trace (Err e) same less found comes = tt
read_comes check before middle after trace (Ok a) same less found comes = record {
  cause = comes.cause;
  end_is = comes.end_is;
  read = source trace;
  reads = read_at before.files check.trace (Some trace) (λ file. ReadsSource before after file (source trace)) found refl;
  gives = moved comes.cause comes.by;
}
  where
    moved : (cause : Cause) → TraceComes check.folders middle after trace cause a.text → TraceComes check.folders before after trace cause a.text
    moved causes.Done x = record { fits = x.fits; count = x.count; judged = subst (λ files. IsJudged check.folders files trace (legal x.count)) same x.judged; text_is = x.text_is }
    moved (causes.TraceRefused line (Some cause)) x =
        record { fits = x.fits; judged = subst (λ files. IsJudged check.folders files trace (at line cause)) same x.judged; text_is = x.text_is }
    moved (causes.TraceRefused line None) x = x
    moved (causes.Refused fault) x = record { fits = x.fits; path = x.path; fault_is = x.fault_is; read = subst (λ files. MayBeRead check.folders files trace x.path) same x.read; counted = risen x.counted; text_is = x.text_is }
      where
        risen : Rises middle.faults after.faults → Rises before.faults after.faults
        risen (inl more) = inl (omega (arith, more, less))
        risen (inr most) = inr most
    moved (causes.Ran run_end) x = absurd x
    moved (causes.AsmRefused line why) x = absurd x
    moved causes.Usage x = absurd x
    moved causes.WriteFault x = absurd x
    moved causes.Memory x = absurd x

unread : (check : Check) (before after : LibraryAt) (read : SourceRead) (fault : DlFault) (answer : Result Answer AllocError) → ReadsTrace before after check.trace read
    → ((text : List ℕ) → text ≡ refused_text fault → CheckGives check before after read (causes.Refused fault) text) → IfOk answer (λ a. a.end ≡ bare (causes.Refused fault))
    → IfOk answer (λ a. a.text ≡ refused_text fault) → IfOk answer (λ a. CheckComes check before after a.end a.text)
unread check before after read fault (Ok a) reads gives end text = record { cause = causes.Refused fault; end_is = end; read = read; reads = reads; gives = gives a.text text }
unread check before after read fault (Err e) reads gives end text = tt

pub missing_comes : (check : Check) (before after : LibraryAt) (answer : Result Answer AllocError) → IfSome before.files (λ files. file_at files check.trace ≡ None) → Rises before.misses after.misses
    → IfOk answer (λ a. a.end ≡ bare (causes.Refused (dl.MissingLibrary check.trace))) → IfOk answer (λ a. a.text ≡ refused_text (dl.MissingLibrary check.trace))
    → IfOk answer (λ a. CheckComes check before after a.end a.text)
missing_comes check before after answer none missed =
    unread check before after missing (dl.MissingLibrary check.trace) answer (read_at before.files check.trace None (λ file. ReadsSource before after file missing) none (refl, missed))
    (λ text is. record { cause_is = refl; text_is = is })

pub failed_comes : (check : Check) (before after : LibraryAt) (answer : Result Answer AllocError) → Rises before.faults after.faults
    → IfOk answer (λ a. a.end ≡ bare (causes.Refused (dl.ReadFault check.trace))) → IfOk answer (λ a. a.text ≡ refused_text (dl.ReadFault check.trace))
    → IfOk answer (λ a. CheckComes check before after a.end a.text)
failed_comes check before after answer counted =
    let some = some_file check.trace before.files in
    unread check before after failed (dl.ReadFault check.trace) answer (read_at before.files check.trace some.0 (λ file. ReadsSource before after file failed) some.1 counted)
    (λ text is. record { cause_is = refl; text_is = is })

-- ---- one outcome

abbrev cause_for : Verdict → Cause
cause_for (legal count) = causes.Done
cause_for (at line cause) = causes.TraceRefused line (Some cause)

abbrev text_for : Verdict → List ℕ
text_for (legal count) = legal_text count
text_for (at line cause) = trace_refused_text line (Some cause)

record HasVerdict (folders : List (List ℕ)) (files : List File) (trace : List ℕ) (cause : Cause) (text : List ℕ) : Type 0 where
  pub fits : HasTraceLength trace
  pub verdict : Verdict
  pub judged : IsJudged folders (Some files) trace verdict
  pub cause_is : cause ≡ cause_for verdict
  pub text_is : text ≡ text_for verdict

record IsLong (trace : List ℕ) (cause : Cause) (text : List ℕ) : Type 0 where
  pub long : 2 ^ 23 < length trace
  pub cause_is : cause ≡ causes.TraceRefused 0 None
  pub text_is : text ≡ trace_refused_text 0 None

abbrev IsQuiet : Cause → Type 0
IsQuiet cause = (path : List ℕ) → cause ≡ causes.Refused (dl.ReadFault path) → ⊥

-- where files are told and no failed read is
settled : (folders : List (List ℕ)) (files : List File) (before after : LibraryAt) (trace : List ℕ) (cause : Cause) (text : List ℕ) → before.files ≡ Some files → IsQuiet cause
    → TraceComes folders before after trace cause text → HasVerdict folders files trace cause text ⊎ IsLong trace cause text
settled folders files before after trace causes.Done text told quiet x =
    inl (record { fits = x.fits; verdict = legal x.count; judged = subst (λ fs. IsJudged folders fs trace (legal x.count)) told x.judged; cause_is = refl; text_is = x.text_is })
settled folders files before after trace (causes.TraceRefused line (Some cause)) text told quiet x =
    inl (record { fits = x.fits; verdict = at line cause; judged = subst (λ fs. IsJudged folders fs trace (at line cause)) told x.judged; cause_is = refl; text_is = x.text_is })
settled folders files before after trace (causes.TraceRefused line None) text told quiet x =
    inr (record { long = x.long; cause_is = ap (λ n. causes.TraceRefused n None) x.line_is; text_is = x.text_is ∙ ap (λ n. trace_refused_text n None) x.line_is })
settled folders files before after trace (causes.Refused fault) text told quiet x = absurd (quiet x.path (ap causes.Refused x.fault_is))
settled folders files before after trace (causes.Ran run_end) text told quiet x = absurd x
settled folders files before after trace (causes.AsmRefused line why) text told quiet x = absurd x
settled folders files before after trace causes.Usage text told quiet x = absurd x
settled folders files before after trace causes.WriteFault text told quiet x = absurd x
settled folders files before after trace causes.Memory text told quiet x = absurd x

not_both : (trace : List ℕ) → HasTraceLength trace → 2 ^ 23 < length trace → ⊥
not_both trace fits long = omega (arith, fits, long)

pub record IsOneEnd (a b : Cause) (s t : List ℕ) : Type 0 where
  pub cause : a ≡ b
  pub text : s ≡ t

one_settled : OneVerdict → (folders : List (List ℕ)) (files : List File) (trace : List ℕ) (a b : Cause) (s t : List ℕ) → HasVerdict folders files trace a s ⊎ IsLong trace a s → HasVerdict folders files trace b t ⊎ IsLong trace b t
    → IsOneEnd a b s t
one_settled law folders files trace a b s t (inl x) (inl y) =
    let same = law folders files trace x.verdict y.verdict x.judged y.judged in
    record { cause = x.cause_is ∙ ap cause_for same ∙ sym y.cause_is; text = x.text_is ∙ ap text_for same ∙ sym y.text_is }
one_settled law folders files trace a b s t (inl x) (inr y) = absurd (not_both trace x.fits y.long)
one_settled law folders files trace a b s t (inr x) (inl y) = absurd (not_both trace y.fits x.long)
one_settled law folders files trace a b s t (inr x) (inr y) = record { cause = x.cause_is ∙ sym y.cause_is; text = x.text_is ∙ sym y.text_is }

same_trace : (o : Option (List ℕ)) (x y : List ℕ) → o ≡ Some x → o ≡ Some y → x ≡ y
same_trace o x y a b = let e : Some x ≡ Some y = sym a ∙ b in cc

not_missing : (o : Option (List ℕ)) (x : List ℕ) → o ≡ Some x → o ≡ None → ⊥
not_missing o x a b = let e : Some x ≡ None = sym a ∙ b in absurd cc

-- where no read fails, none is told to have
quiet_of : (check : Check) (before after : LibraryAt) (cause : Cause) (text : List ℕ) (read : SourceRead) → (Rises before.faults after.faults → ⊥) → ReadsTrace before after check.trace read
    → CheckGives check before after read cause text → IsQuiet cause
quiet_of check before after cause text (source trace) still reads gives path e =
    let x : HasFailed check.folders before after trace (dl.ReadFault path) text = subst (λ c. TraceComes check.folders before after trace c text) e gives in still x.counted
quiet_of check before after cause text missing still reads gives path e = let d : causes.Refused (dl.MissingLibrary check.trace) ≡ causes.Refused (dl.ReadFault path) = sym gives.cause_is ∙ e in absurd cc
quiet_of check before after cause text failed still reads gives path e = still reads.holds

module _ (law : OneVerdict) (check : Check) (files : List File) where
  at_files : (before after : LibraryAt) (read : SourceRead) → before.files ≡ Some files → ReadsTrace before after check.trace read → ReadsSource before after (file_at files check.trace) read
  at_files before after read told over =
      let are : over.files ≡ files = subst (λ t. AreFiles t over.files) told over.are in
      subst (λ fs. ReadsSource before after (file_at fs check.trace) read) are over.holds

  one_given : (before after before' after' : LibraryAt) (read read' : SourceRead) (a b : Cause) (s t : List ℕ) → before.files ≡ Some files → before'.files ≡ Some files → IsQuiet a → IsQuiet b
      → ReadsSource before after (file_at files check.trace) read → ReadsSource before' after' (file_at files check.trace) read'
      → CheckGives check before after read a s → CheckGives check before' after' read' b t → IsOneEnd a b s t
  one_given before after before' after' failed read' a b s t told told' quiet quiet' x y p q = absurd (quiet check.trace p.cause_is)
  one_given before after before' after' (source trace) failed a b s t told told' quiet quiet' x y p q = absurd (quiet' check.trace q.cause_is)
  one_given before after before' after' missing failed a b s t told told' quiet quiet' x y p q = absurd (quiet' check.trace q.cause_is)
  one_given before after before' after' missing missing a b s t told told' quiet quiet' x y p q = record { cause = p.cause_is ∙ sym q.cause_is; text = p.text_is ∙ sym q.text_is }
  one_given before after before' after' missing (source trace) a b s t told told' quiet quiet' x y p q = absurd (not_missing (file_at files check.trace) trace y x.0)
  one_given before after before' after' (source trace) missing a b s t told told' quiet quiet' x y p q = absurd (not_missing (file_at files check.trace) trace x y.0)
  one_given before after before' after' (source trace) (source other) a b s t told told' quiet quiet' x y p q =
      let same : other ≡ trace = same_trace (file_at files check.trace) other trace y x in
      one_settled law check.folders files trace a b s t (settled check.folders files before after trace a s told quiet p)
      (settled check.folders files before' after' trace b t told' quiet' (subst (λ bytes. TraceComes check.folders before' after' bytes b t) same q))

  pub one_checked : (before after before' after' : LibraryAt) (first second : End) (s t : List ℕ) → before.files ≡ Some files → before'.files ≡ Some files
      → CheckComes check before after first s → NoReadFails first → CheckComes check before' after' second t → NoReadFails second → (first ≡ second) × (s ≡ t)
  one_checked before after before' after' first second s t told told' x quiet y quiet' =
      let one = one_given before after before' after' x.read y.read x.cause y.cause s t told told' (λ path e. quiet path (ap (λ (end : End). end.cause) x.end_is ∙ e))
      (λ path e. quiet' path (ap (λ (end : End). end.cause) y.end_is ∙ e)) (at_files before after x.read told x.reads) (at_files before' after' y.read told' y.reads) x.gives y.gives in
      (x.end_is ∙ ap bare one.cause ∙ sym y.end_is, one.text)

  pub check_done : IsLegalTrace check files → (before after : LibraryAt) (end : End) (text : List ℕ) → before.files ≡ Some files → (Rises before.faults after.faults → ⊥) → (x : CheckComes check before after end text) → x.cause ≡ causes.Done
  check_done can before after end text told still x = by x.read (at_files before after x.read told x.reads) x.gives (quiet_of check before after x.cause text x.read still x.reads x.gives)
    where
      of : HasVerdict check.folders files can.trace x.cause text ⊎ IsLong can.trace x.cause text → x.cause ≡ causes.Done
      of (inl y) = y.cause_is ∙ ap cause_for (law check.folders files can.trace y.verdict (legal can.count) y.judged can.judged)
      of (inr y) = absurd (not_both can.trace can.fits y.long)

      by : (read : SourceRead) → ReadsSource before after (file_at files check.trace) read → CheckGives check before after read x.cause text → IsQuiet x.cause → x.cause ≡ causes.Done
      by failed reads gives quiet = absurd (quiet check.trace gives.cause_is)
      by missing reads gives quiet = absurd (not_missing (file_at files check.trace) can.trace can.is reads.0)
      by (source trace) reads gives quiet =
          let same : trace ≡ can.trace = same_trace (file_at files check.trace) trace can.trace reads can.is in
          of (settled check.folders files before after can.trace x.cause text told quiet (subst (λ bytes. TraceComes check.folders before after bytes x.cause text) same gives))
