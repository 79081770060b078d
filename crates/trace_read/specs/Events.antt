-- Lines of events, read back. For the code of this crate alone.
use Rattle.std.specs.Prelude.{ℕ, ◌^◌, ◌==◌, if◌then◌else◌, codes, length, List, [], ◌∷◌, Option, Some, None, option_map}
use Rattle.std.specs.Str.{bytes_eq}
use Rattle.ld_base.specs.declared.fault.DlFault.{DlFault}
use Rattle.history_event.specs.declared.event_line.EventLine.{EventLine}
use Rattle.history_event.specs.declared.event_line.EventLine.TheVariants as lines
use Rattle.trace_read.specs.declared.events.EventWord.{EventWord}
use Rattle.trace_read.specs.declared.events.EventWord.TheVariants as words
use Rattle.trace_read.specs.declared.steps.StepWord.{StepWord}
use Rattle.trace_read.specs.Pieces.{◌>>=◌, cut, named, labelled, pair}
use Rattle.trace_read.specs.Numbers.{numeral, decimal_in}
use Rattle.trace_read.specs.Names.{bytes_of, name_of, some_name}
use Rattle.trace_read.specs.Lists.{hexadecimal, list_of}
use Rattle.trace_read.specs.Faults.{fault_of}
use Rattle.trace_read.specs.Answers.{asked, open_answer, close_answer, sym_answer}
use Rattle.trace_read.specs.Steps.{hart, step_word, step_behind}

abbrev pub event_words : List (List ℕ × EventWord)
event_words =
    (codes "open", words.Open)
    ∷ (codes "close", words.Close)
    ∷ (codes "unmapped", words.Unmapped)
    ∷ (codes "sym", words.Sym)
    ∷ (codes "wrote", words.Wrote)
    ∷ (codes "told", words.Told)
    ∷ []

unfoldable pub event_word : List ℕ → Option EventWord
event_word text = named text event_words

abbrev pub open_event : List ℕ → Option EventLine
open_event text = option_map (λ p. lines.Open p.0 (record { ns = p.1.0; name = p.1.1.0; flags = p.1.1.1.0 }) p.1.1.1.1)
    (pair 32 hart (pair 32 (labelled asked (codes "ns="))
    (pair 32 (labelled some_name (codes "name=")) (pair 32 (labelled hexadecimal (codes "flags=")) open_answer))) text)

abbrev pub close_event : List ℕ → Option EventLine
close_event text = option_map (λ p. lines.Close p.0 p.1.0 p.1.1) (pair 32 hart (pair 32 (labelled hexadecimal (codes "handle=")) close_answer) text)

abbrev pub unmapped_event : List ℕ → Option EventLine
unmapped_event text = option_map (λ p. lines.Unmapped p.0 p.1) (pair 32 hart (labelled (list_of (numeral 10)) (codes "set=")) text)

abbrev pub sym_event : List ℕ → Option EventLine
sym_event text = option_map (λ p. lines.Sym p.0 (record { ns = p.1.0; handle = p.1.1.0; name = p.1.1.1.0; version = p.1.1.1.1.0 }) p.1.1.1.1.1)
    (pair 32 hart (pair 32 (labelled (decimal_in (2 ^ 32)) (codes "ns=")) (pair 32 (labelled hexadecimal (codes "handle="))
    (pair 32 (labelled name_of (codes "name=")) (pair 32 (labelled some_name (codes "ver=")) sym_answer)))) text)

-- so many bytes
unfoldable pub counted : List ℕ → Option (List ℕ)
counted text = pair 32 (labelled (numeral 10) (codes "n=")) (bytes_of None) text >>= λ p. if length p.1 == p.0 then Some p.1 else None

abbrev pub wrote_event : List ℕ → Option EventLine
wrote_event text = option_map (λ p. lines.Wrote p.0 p.1) (pair 32 hart counted text)

-- a refusal, or - for none
unfoldable pub some_fault : List ℕ → Option (Option DlFault)
some_fault text = if bytes_eq text (45 ∷ []) then Some None else option_map Some (fault_of text)

abbrev pub told_event : List ℕ → Option EventLine
told_event text = option_map (λ p. lines.Told p.0 p.1) (pair 32 hart some_fault text)

abbrev pub event_behind : EventWord → List ℕ → Option EventLine
event_behind words.Open text = open_event text
event_behind words.Close text = close_event text
event_behind words.Unmapped text = unmapped_event text
event_behind words.Sym text = sym_event text
event_behind words.Wrote text = wrote_event text
event_behind words.Told text = told_event text

abbrev pub event_by : List ℕ → Option EventWord → Option StepWord → Option EventLine
event_by text (Some word) step = event_behind word text
event_by text None step = step >>= λ word. step_behind word text

-- an event, without the line feed
unfoldable pub event_of : List ℕ → Option EventLine
event_of text = cut 32 text >>= λ p. event_by p.1 (event_word p.0) (step_word p.0)
