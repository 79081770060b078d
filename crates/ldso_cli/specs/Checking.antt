-- What a trace that is judged comes to. For the code of this crate alone.
use Rattle.std.specs.Prelude.{◌≡◌, ℕ, List, Result, Ok, Err, Some}
use Rattle.ld_base.specs.declared.fault.DlFault.TheVariants as dl
use Rattle.trace_check.specs.declared.verdict.CheckFault.{CheckFault}
use Rattle.trace_check.specs.declared.verdict.CheckFault.TheVariants as faults
use Rattle.ldso_cli.specs.End.{bare}
use Rattle.ldso_cli.specs.Status.{legal_text, refused_text, trace_refused_text}
use Rattle.ldso_cli.specs.declared.outcome.Cause.{Cause}
use Rattle.ldso_cli.specs.declared.outcome.Cause.TheVariants as causes
use Rattle.ldso_cli.specs.declared.outcome.End.{End}

pub record IsAnswerOf (cause : Cause) (line : List ℕ) (end : End) (text : List ℕ) : Type 0 where
  pub end_is : end ≡ bare cause
  pub text_is : text ≡ line

abbrev pub IsJudgement : Result ℕ CheckFault → End → List ℕ → Type 0
IsJudgement (Ok count) end text = IsAnswerOf causes.Done (legal_text count) end text
IsJudgement (Err (faults.At line cause)) end text = IsAnswerOf (causes.TraceRefused line (Some cause)) (trace_refused_text line (Some cause)) end text
IsJudgement (Err (faults.ReadFault path)) end text = IsAnswerOf (causes.Refused (dl.ReadFault path)) (refused_text (dl.ReadFault path)) end text
IsJudgement (Err faults.Memory) end text = ⊥
