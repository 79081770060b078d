-- What is read of a source is what it says, and a fault tells how it breaks the grammar.
use Rattle.std.proofs.Common.{◌≡◌, ℕ, List, Result, Ok, Err}
use Rattle.std.specs.Prelude.{◌↔◌, IfOk, IfErr}
use Rattle.asm_grammar.specs.Reading.{statements_of}
use Rattle.asm_grammar.specs.Grammar.{SaysSource, BreaksSource}
use Rattle.asm_text.specs.Faults.{TellsOf, TellsOfSource}
use Rattle.asm_statement.specs.declared.line.Line.{Line}
use Rattle.asm_statement.specs.declared.fault.AsmFault.{AsmFault}
use Rattle.asm_statement.specs.declared.fault.AsmFault.TheVariants.{At, Memory}
use Rattle.ld_base.specs.declared.fault.AsmCause.{AsmCause}

pub says : (source : List ℕ) (result : Result (List Line) AsmFault) → ((other : List ℕ) (lines : List Line) → (statements_of other ≡ Ok lines) ↔ SaysSource other lines)
    → IfOk result (λ lines. statements_of source ≡ Ok lines) → IfOk result (SaysSource source)
says source (Ok lines) law is = (law source lines).0 is
says source (Err fault) law is = tt

tells : (source : List ℕ) (fault : AsmFault) → ((other : List ℕ) (line : ℕ) (cause : AsmCause) → (statements_of other ≡ Err (line, cause)) ↔ BreaksSource other line cause)
    → TellsOfSource source fault → TellsOf source fault
tells source Memory law is = tt
tells source (At line cause) law is = (law source line cause).0 is

pub refused : (source : List ℕ) (result : Result (List Line) AsmFault)
    → ((other : List ℕ) (line : ℕ) (cause : AsmCause) → (statements_of other ≡ Err (line, cause)) ↔ BreaksSource other line cause)
    → IfErr result (TellsOfSource source) → IfErr result (TellsOf source)
refused source (Ok lines) law is = tt
refused source (Err fault) law is = tells source fault law is
