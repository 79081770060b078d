-- What came of calls of the linker, as lines have it, read back. For the code of this crate alone.
use Rattle.std.specs.Prelude.{ℕ, ◌^◌, if◌then◌else◌, codes, List, Option, Some, None, option_map}
use Rattle.std.specs.Str.{bytes_eq}
use Rattle.history_event.specs.declared.event.CloseAnswer.{CloseAnswer}
use Rattle.history_event.specs.declared.event.CloseAnswer.TheVariants as closes
use Rattle.history_event.specs.declared.event.SymAnswer.{SymAnswer}
use Rattle.history_event.specs.declared.event.SymAnswer.TheVariants as syms
use Rattle.history_event.specs.declared.event_line.NewLine.{NewLine}
use Rattle.history_event.specs.declared.event_line.OpenLine.{OpenLine}
use Rattle.history_event.specs.declared.event_line.OpenLine.TheVariants as opens
use Rattle.trace_read.specs.Pieces.{behind, labelled, pair}
use Rattle.trace_read.specs.Numbers.{numeral, decimal_in, definition}
use Rattle.trace_read.specs.Lists.{hexadecimal, list_of, new_line}
use Rattle.trace_read.specs.Faults.{fault_of}

-- a namespace that is asked for: its number, or a new one
unfoldable pub asked : List ℕ → Option (Option ℕ)
asked text = if bytes_eq text (codes "new") then Some None else option_map Some (numeral 10 text)

abbrev pub done_parts : List ℕ → Option (ℕ × (ℕ × List NewLine))
done_parts text =
    pair 32 (labelled (decimal_in (2 ^ 32)) (codes "in=")) (pair 32 (labelled (numeral 10) (codes "root=")) (labelled (list_of new_line) (codes "new="))) text

abbrev pub opened : List ℕ → Option OpenLine
opened text = option_map (λ p. opens.Done p.0 p.1.0 p.1.1) (done_parts text)

-- what follows no, or else what follows ok
abbrev pub answer_by : {A : Type 0} → (List ℕ → Option A) → (List ℕ → Option A) → List ℕ → Option (List ℕ) → Option A
answer_by refused done text (Some rest) = refused rest
answer_by refused done text None = labelled done (codes "ok ") text

abbrev pub no_or_ok : {A : Type 0} → (List ℕ → Option A) → (List ℕ → Option A) → List ℕ → Option A
no_or_ok refused done text = answer_by refused done text (behind (codes "no ") text)

unfoldable pub open_answer : List ℕ → Option OpenLine
open_answer text =
    if bytes_eq text (codes "absent") then Some opens.Absent
    else no_or_ok (λ rest. option_map opens.Refused (fault_of rest)) opened text

unfoldable pub close_answer : List ℕ → Option CloseAnswer
close_answer text =
    no_or_ok (λ rest. option_map closes.Refused (fault_of rest))
    (λ rest. option_map closes.Done (labelled (list_of (numeral 10)) (codes "dying=") rest)) text

abbrev pub found_parts : List ℕ → Option ((ℕ × ℕ) × ℕ)
found_parts text = pair 32 definition hexadecimal text

abbrev pub found : List ℕ → Option SymAnswer
found text = option_map (λ p. syms.Found p.0.0 p.0.1 p.1) (found_parts text)

unfoldable pub sym_answer : List ℕ → Option SymAnswer
sym_answer text = no_or_ok (λ rest. option_map syms.Refused (fault_of rest)) found text
