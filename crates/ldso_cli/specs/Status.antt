-- The status with which the command ends, and its last line.
use Rattle.std.specs.Prelude.{ℕ, List, [], ◌∷◌, ◌++◌, Option, Some, None, codes}
use Rattle.std.specs.Fmt.{decimal}
use Rattle.ld_base.specs.FaultText.{fault_text}
use Rattle.ld_base.specs.declared.fault.AsmCause.{AsmCause}
use Rattle.ld_base.specs.declared.fault.AsmCause.TheVariants as asm
use Rattle.ld_base.specs.declared.fault.DlFault.{DlFault}
use Rattle.ld_base.specs.declared.fault.DlFault.TheVariants as dl
use Rattle.trace_check.specs.declared.verdict.TraceCause.{TraceCause}
use Rattle.trace_check.specs.declared.verdict.TraceCause.TheVariants as trace
use Rattle.trace_text.specs.RunTexts.Ends.{run_status}
use Rattle.ldso_cli.specs.declared.outcome.Cause.{Cause}
use Rattle.ldso_cli.specs.declared.outcome.Cause.TheVariants as causes
use Rattle.ldso_cli.specs.declared.outcome.End.{End}

-- 121: a file can't be read; 126: it isn't accepted; 127: something that is needed isn't there; 118: what is there doesn't fit
abbrev pub status_of_fault : DlFault → ℕ
status_of_fault (dl.MissingLibrary name) = 127
status_of_fault (dl.ReadFault path) = 121
status_of_fault (dl.NotAccepted path broken) = 126
status_of_fault (dl.MissingVersion o file version) = 127
status_of_fault (dl.MissingSymbol o name version) = 127
status_of_fault _ = 118

abbrev pub status_of_cause : Cause → ℕ
status_of_cause causes.Done = 0
status_of_cause (causes.Ran run_end) = run_status run_end
status_of_cause (causes.Refused fault) = status_of_fault fault
status_of_cause (causes.AsmRefused line cause) = 119
status_of_cause (causes.TraceRefused line cause) = 117
status_of_cause causes.Usage = 120
status_of_cause causes.WriteFault = 122
status_of_cause causes.Memory = 123

-- the status of an end is that of its cause
abbrev pub status_of : End → ℕ
status_of end = status_of_cause end.cause

-- the last line where a refusal ends the command
unfoldable pub refused_text : DlFault → List ℕ
refused_text fault = codes "end " ++ decimal (status_of_fault fault) ++ 32 ∷ fault_text fault ++ 10 ∷ []

-- the word of a cause for which a source is refused, and the last line where one is
abbrev pub asm_word : AsmCause → List ℕ
asm_word asm.BadStatement = codes "bad-statement"
asm_word asm.UnknownWord = codes "unknown-word"
asm_word asm.BadOperand = codes "bad-operand"
asm_word asm.OutOfRange = codes "out-of-range"
asm_word asm.DoubleLabel = codes "double-label"
asm_word asm.UnknownLabel = codes "unknown-label"
asm_word asm.WrongSection = codes "wrong-section"
asm_word asm.TooBig = codes "too-big"

unfoldable pub asm_refused_text : ℕ → AsmCause → List ℕ
asm_refused_text line cause = codes "end 119 asm " ++ (decimal line ++ (32 ∷ (asm_word cause ++ 10 ∷ [])))

-- the word of a cause for which a trace is refused: without one it is too long. The last line where one is, and where a trace is legal
abbrev pub trace_word : Option TraceCause → List ℕ
trace_word (Some trace.NotALine) = codes "not-a-line"
trace_word (Some trace.Illegal) = codes "illegal"
trace_word (Some trace.NotWhole) = codes "not-whole"
trace_word (Some trace.NoEnd) = codes "no-end"
trace_word None = codes "too-long"

unfoldable pub trace_refused_text : ℕ → Option TraceCause → List ℕ
trace_refused_text line cause = codes "end 117 trace " ++ (decimal line ++ (32 ∷ (trace_word cause ++ 10 ∷ [])))

unfoldable pub legal_text : ℕ → List ℕ
legal_text count = codes "end 0 legal " ++ (decimal count ++ 10 ∷ [])

abbrev pub usage_text : List ℕ
usage_text = codes "end 120 usage" ++ 10 ∷ []
