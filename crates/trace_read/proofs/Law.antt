-- What is read of a line, in the words of events.
use Rattle.std.proofs.Common.{◌≡◌, ℕ, List, [], ◌∷◌, ◌++◌, map, flat_map, Some, None, Result, Ok, Err, IfOk, IfErr, refl}
use Rattle.std.proofs.Common.{sym, ap, ◌∙◌, subst}
use Rattle.std.proofs.lemmas.Option.{none-some, same_Some}
use Rattle.ld_base.specs.declared.linking.Loaded.{Loaded}
use Rattle.history_event.specs.declared.event.Event.{Event}
use Rattle.history_event.specs.declared.event.Event.TheVariants as events
use Rattle.history_event.specs.declared.event.OpenAnswer.{OpenAnswer}
use Rattle.history_event.specs.declared.event.OpenAnswer.TheVariants as answers
use Rattle.history_event.specs.declared.event_line.EventLine.{EventLine}
use Rattle.trace_text.specs.Lines.{words_text, line_text, open_text, open_answer_text}
use Rattle.trace_text.specs.Lists.{added_text, new_text}
use Rattle.trace_read.specs.declared.fault.TraceFault.{TraceFault}
use Rattle.trace_read.specs.declared.fault.TraceFault.TheVariants as faults
use Rattle.trace_read.specs.Fits.{IsWritable}
use Rattle.trace_read.specs.Gives.{Misses, Gives}
use Rattle.trace_read.specs.Laws.{EventsHaveLines, OneSaying}
use Rattle.trace_read.specs.Lines.{HasLine, words_of, new_line_text, new_lines_text, open_line_text}
use Rattle.trace_read.specs.Read.{read_line}
use Rattle.trace_read.specs.Said.{said_of, said_of_answer, said_of_new}
use Rattle.trace_read.proofs.Evented.{line-there, line-back}

read_so : (line : List ℕ) (event : EventLine) → HasLine line event → read_line line ≡ Some event
read_so line event h = ap read_line h.text ∙ line-there event h.fits

pub has_line : (line : List ℕ) (r : Result EventLine TraceFault) → Gives (read_line line) r → IfOk r (HasLine line)
has_line line (Ok event) g = let it = line-back line event g in record { fits = it.0; text = it.1 }
has_line line (Err fault) g = tt

pub only_one : (line : List ℕ) (r : Result EventLine TraceFault) → Gives (read_line line) r
    → IfOk r (λ event. (other : EventLine) → HasLine line other → other ≡ event)
only_one line (Ok event) g = λ other h. same_Some _ _ (sym (read_so line other h) ∙ g)
only_one line (Err fault) g = tt

pub one_saying : OneSaying
one_saying line one other a b = same_Some one other (sym (read_so line one a) ∙ read_so line other b)

pub no_line : (line : List ℕ) (r : Result EventLine TraceFault) → Gives (read_line line) r
    → IfErr r (λ fault. fault ≡ faults.NotALine → (event : EventLine) → HasLine line event → ⊥)
no_line line (Ok event) g = tt
no_line line (Err fault) g = λ same event h.
    let none : read_line line ≡ None = subst (Misses (read_line line)) same g in
    none-some event (sym none ∙ read_so line event h)

-- an event's line is the line of what it says

same_more : (added : List Loaded) → flat_map (λ n. 44 ∷ new_line_text n) (map said_of_new added) ≡ flat_map (λ o. 44 ∷ new_text o) added
same_more [] = refl
same_more (o ∷ os) = ap (λ t. 44 ∷ new_text o ++ t) (same_more os)

same_added : (added : List Loaded) → new_lines_text (map said_of_new added) ≡ added_text added
same_added [] = refl
same_added (o ∷ os) = ap (λ t. new_text o ++ t) (same_more os)

same_answer : (answer : OpenAnswer) → open_line_text (said_of_answer answer) ≡ open_answer_text answer
same_answer (answers.Done ns root added ranges) = rw (same_added added) refl
same_answer answers.Absent = refl
same_answer (answers.Refused fault) = refl

same_words : (event : Event) → words_of (said_of event) ≡ words_text event
unfolding words_of words_text open_text
same_words (events.Open hart ask answer) = rw (same_answer answer) refl
same_words (events.Close hart handle answer) = refl
same_words (events.Unmapped hart set) = refl
same_words (events.Grant grant hart owner slot choice value) = refl
same_words (events.Bound grant) = refl
same_words (events.Lost grant saw) = refl
same_words (events.Unresolved hart owner slot choice) = refl
same_words (events.Sym hart ask answer) = refl
same_words (events.Tls hart owner address) = refl
same_words (events.Init hart object) = refl
same_words (events.Fini hart object) = refl
same_words (events.Wrote hart bytes) = refl
same_words (events.Told hart None) = refl
same_words (events.Told hart (Some fault)) = refl
same_words (events.Ended hart end) = refl

pub events_have_lines : EventsHaveLines
events_have_lines event fits = record { fits = fits; text = ap (λ w. w ++ 10 ∷ []) (sym (same_words event)) }

pub inverts : (line : List ℕ) (r : Result EventLine TraceFault) → Gives (read_line line) r
    → (event : Event) → IsWritable (said_of event) → line ≡ line_text event
    → IfOk r (λ read. read ≡ said_of event) × IfErr r (λ fault. fault ≡ faults.Memory)
inverts line r g event fits text = by r g
  where
    known : read_line line ≡ Some (said_of event)
    known = read_so line (said_of event) (record { fits = fits; text = text ∙ (events_have_lines event fits).text })

    by : (r : Result EventLine TraceFault) → Gives (read_line line) r
        → IfOk r (λ read. read ≡ said_of event) × IfErr r (λ fault. fault ≡ faults.Memory)
    by (Ok read) g = (same_Some _ _ (sym g ∙ known), tt)
    by (Err faults.NotALine) g = absurd (none-some (said_of event) (sym g ∙ known))
    by (Err faults.Memory) g = (tt, refl)
