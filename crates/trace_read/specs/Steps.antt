-- Events whose lines have numbers alone, read back. For the code of this crate alone.
use Rattle.std.specs.Prelude.{ℕ, ◌^◌, if◌then◌else◌, codes, List, [], ◌∷◌, Option, Some, option_map}
use Rattle.std.specs.Str.{bytes_eq}
use Rattle.ld_base.specs.declared.linking.Choice.{Choice}
use Rattle.ld_base.specs.declared.linking.Choice.TheVariants as choices
use Rattle.history_event.specs.declared.event_line.EventLine.{EventLine}
use Rattle.history_event.specs.declared.event_line.EventLine.TheVariants as lines
use Rattle.trace_read.specs.declared.steps.StepWord.{StepWord}
use Rattle.trace_read.specs.declared.steps.StepWord.TheVariants as words
use Rattle.trace_read.specs.Pieces.{named, labelled, pair}
use Rattle.trace_read.specs.Numbers.{numeral, decimal_in, definition}
use Rattle.trace_read.specs.Lists.{hexadecimal}
use Rattle.trace_read.specs.Answers.{found_parts}
use Rattle.trace_read.specs.Ends.{end_of}

abbrev pub step_words : List (List ℕ × StepWord)
step_words =
    (codes "grant", words.Grant)
    ∷ (codes "bound", words.Bound)
    ∷ (codes "lost", words.Lost)
    ∷ (codes "unresolved", words.Unresolved)
    ∷ (codes "tls", words.Tls)
    ∷ (codes "init", words.Init)
    ∷ (codes "fini", words.Fini)
    ∷ (codes "ended", words.Ended)
    ∷ []

unfoldable pub step_word : List ℕ → Option StepWord
step_word text = named text step_words

-- words with labels
abbrev pub hart : List ℕ → Option ℕ
hart text = labelled (decimal_in (2 ^ 32)) (codes "h=") text

abbrev pub «grant» : List ℕ → Option ℕ
«grant» text = labelled (numeral 10) (codes "g=") text

abbrev pub object : List ℕ → Option ℕ
object text = labelled (numeral 10) (codes "o=") text

abbrev pub slot : List ℕ → Option ℕ
slot text = labelled (decimal_in (2 ^ 32)) (codes "slot=") text

-- what a slot is to get
unfoldable pub granted : List ℕ → Option (Choice × ℕ)
granted text =
    if bytes_eq text (codes "weak 0x0") then Some (choices.WeakZero, 0)
    else option_map (λ p. (choices.Def p.0.0 p.0.1, p.1)) (found_parts text)

-- why a slot gets nothing
unfoldable pub refused : List ℕ → Option Choice
refused text =
    if bytes_eq text (codes "missing") then Some choices.Missing
    else option_map (λ p. choices.Def p.0 p.1) (labelled definition (codes "not-code ") text)

abbrev pub grant_step : List ℕ → Option EventLine
grant_step text =
    option_map (λ p. lines.Grant p.0 p.1.0 p.1.1.0 p.1.1.1.0 p.1.1.1.1.0 p.1.1.1.1.1)
    (pair 32 «grant» (pair 32 hart (pair 32 object (pair 32 slot (labelled granted (codes "-> "))))) text)

abbrev pub lost_step : List ℕ → Option EventLine
lost_step text = option_map (λ p. lines.Lost p.0 p.1) (pair 32 «grant» (labelled hexadecimal (codes "saw=")) text)

abbrev pub unresolved_step : List ℕ → Option EventLine
unresolved_step text = option_map (λ p. lines.Unresolved p.0 p.1.0 p.1.1.0 p.1.1.1) (pair 32 hart (pair 32 object (pair 32 slot refused)) text)

abbrev pub tls_step : List ℕ → Option EventLine
tls_step text = option_map (λ p. lines.Tls p.0 p.1.0 p.1.1) (pair 32 hart (pair 32 object hexadecimal) text)

abbrev pub hart_and_object : List ℕ → Option (ℕ × ℕ)
hart_and_object text = pair 32 hart object text

abbrev pub ended_step : List ℕ → Option EventLine
ended_step text = option_map (λ p. lines.Ended p.0 p.1) (pair 32 hart end_of text)

-- an event behind its first word
abbrev pub step_behind : StepWord → List ℕ → Option EventLine
step_behind words.Grant text = grant_step text
step_behind words.Bound text = option_map lines.Bound («grant» text)
step_behind words.Lost text = lost_step text
step_behind words.Unresolved text = unresolved_step text
step_behind words.Tls text = tls_step text
step_behind words.Init text = option_map (λ p. lines.Init p.0 p.1) (hart_and_object text)
step_behind words.Fini text = option_map (λ p. lines.Fini p.0 p.1) (hart_and_object text)
step_behind words.Ended text = ended_step text
