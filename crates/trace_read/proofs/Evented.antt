-- Lines of events are read back.
use Rattle.std.proofs.Common.{◌≡◌, ℕ, ◌^◌, ◌==◌, ◌-◌, ◌+◌, true, false, List, [], ◌∷◌, ◌++◌}
use Rattle.std.proofs.Common.{length, take, drop, Option, Some, None, flat_map, refl, sym, ap, ◌∙◌, subst, inl, inr, codes}
use Rattle.std.proofs.Common.{bytes_eq, arith, All}
use Rattle.std.proofs.Common.{take_at, drop_at, take-append-drop, length-append}
use Rattle.std.proofs.lemmas.Bool.{cases_Bool, eq-eqb, eqb-true, false_from_ne_true}
use Rattle.std.proofs.lemmas.Option.{none-some, same_Some, cond_some}
use Rattle.std.proofs.lemmas.Slice.Eq.{bytes_eq-Decides}
use Rattle.std.specs.Fmt.{decimal}
use Rattle.ld_base.specs.declared.fault.DlFault.{DlFault}
use Rattle.ld_base.specs.FaultText.{fault_text, hex_text}
use Rattle.ld_base.specs.Text.{name_text, name_or_none}
use Rattle.history_event.specs.declared.event_line.EventLine.{EventLine}
use Rattle.history_event.specs.declared.event_line.EventLine.TheVariants as lines
use Rattle.trace_text.specs.Lines.{asked_text, close_answer_text, sym_answer_text, sym_text}
use Rattle.trace_text.specs.Lists.{byte_digits, serials_text}
use Rattle.trace_text.specs.Said.{hart_word}
use Rattle.trace_read.specs.declared.events.EventWord.{EventWord}
use Rattle.trace_read.specs.declared.events.EventWord.TheVariants as words
use Rattle.trace_read.specs.declared.steps.StepWord.{StepWord}
use Rattle.trace_read.specs.declared.steps.StepWord.TheVariants as steps
use Rattle.trace_read.specs.Answers.{asked, open_answer, close_answer, sym_answer}
use Rattle.trace_read.specs.Events.{event_words, event_word, counted, some_fault, event_behind, event_by, event_of}
use Rattle.trace_read.specs.Faults.{fault_of}
use Rattle.trace_read.specs.Fits.{Fits32, Fits64, Fits64IfSome, AreBytes, AreBytesIfSome, FaultFits, FaultFitsIfSome, OpenFits, CloseFits, SymFits}
use Rattle.trace_read.specs.Fits.{IsWritable}
use Rattle.trace_read.specs.Lines.{open_line_text, words_of, line_of}
use Rattle.trace_read.specs.Lists.{hexadecimal, list_of}
use Rattle.trace_read.specs.Names.{bytes_of, name_of, some_name}
use Rattle.trace_read.specs.Numbers.{numeral, decimal_in}
use Rattle.trace_read.specs.Pieces.{cut, labelled, pair, is_mark}
use Rattle.trace_read.specs.Read.{read_line}
use Rattle.trace_read.specs.Steps.{hart, step_word, step_behind}
use Rattle.trace_read.proofs.Answered.{asked_reads, asked_free, open_reads, close_reads, sym_reads}
use Rattle.trace_read.proofs.Parts.{Reads, bound, free, cut-there, cut-back, labelled_reads, pair_reads, if_true, if_false}
use Rattle.trace_read.proofs.Refusals.{fault_reads}
use Rattle.trace_read.proofs.Spelled.{bytes_reads, name_reads, some_name_reads, name_free, some_name_free}
use Rattle.trace_read.proofs.Stepped.{hart_reads, hart_free, step-back, grant-there, bound-there, lost-there, unresolved-there, tls-there}
use Rattle.trace_read.proofs.Stepped.{init-there, fini-there, ended-there}
use Rattle.trace_read.proofs.Stepped.{spelled as step_spelled, word_there as step_word_there, word_back as step_word_back}
use Rattle.trace_read.proofs.Worded.{decimal_reads, decimal32_reads, decimal_free, decimal32_free, hexadecimal_reads, hex_free, serials_reads}
use Rattle.trace_read.proofs.Worded.{named-back, variant-back}

-- bytes with their count

abbrev WroteFits : List ℕ → Type 0
WroteFits bytes = AreBytes bytes × Fits64 (length bytes)

abbrev counted_text : List ℕ → List ℕ
counted_text bytes = (codes "n=" ++ decimal (length bytes)) ++ 32 ∷ flat_map byte_digits bytes

parts_reads : Reads (pair 32 (labelled (numeral 10) (codes "n=")) (bytes_of None)) (λ p. (codes "n=" ++ decimal p.0) ++ 32 ∷ (flat_map byte_digits p.1))
    (λ p. Fits64 p.0 × AreBytes p.1)
parts_reads = pair_reads (labelled_reads decimal_reads (codes "n=")) bytes_reads 32 (λ n h. decimal_free 32 refl n h)

counted-there : (bytes : List ℕ) → WroteFits bytes → counted (counted_text bytes) ≡ Some bytes
unfolding counted
counted-there bytes h = rw (parts_reads.there (length bytes, bytes) (h.1, h.0), eq-eqb (length bytes) (length bytes) refl) refl

counted-back : (w bytes : List ℕ) → counted w ≡ Some bytes → WroteFits bytes × (counted_text bytes ≡ w)
unfolding counted
counted-back w bytes e =
    bound (pair 32 (labelled (numeral 10) (codes "n=")) (bytes_of None) w) _ bytes e (λ p ep ec.
    let at = cond_some (length p.1 == p.0) p.1 bytes ec in
    let it = parts_reads.back w p ep in
    let count : length p.1 ≡ p.0 = eqb-true (length p.1) p.0 at.0 in
    subst (λ x. WroteFits x × (counted_text x ≡ w)) at.1
    ((it.0.1, subst Fits64 (sym count) it.0.0), ap (λ n. (codes "n=" ++ decimal n) ++ 32 ∷ flat_map byte_digits p.1) count ∙ it.1))

counted_reads : Reads counted counted_text WroteFits
counted_reads = record { there = counted-there; back = counted-back }

-- a refusal, if there is one

abbrev fault_or_none : Option DlFault → List ℕ
fault_or_none None = 45 ∷ []
fault_or_none (Some fault) = fault_text fault

no_fault : fault_of (45 ∷ []) ≡ None
unfolding fault_of cut is_mark
no_fault = refl

some_fault_reads : Reads some_fault fault_or_none FaultFitsIfSome
unfolding some_fault
some_fault_reads = record { there = forward; back = backward }
  where
    not_minus : (fault : DlFault) → FaultFits fault → bytes_eq (fault_text fault) (45 ∷ []) ≡ false
    not_minus fault h = false_from_ne_true _ (λ same.
        none-some fault (sym no_fault ∙ sym (ap fault_of ((bytes_eq-Decides (fault_text fault) (45 ∷ [])).0 same)) ∙ fault_reads.there fault h))

    forward : (fault : Option DlFault) → FaultFitsIfSome fault → some_fault (fault_or_none fault) ≡ Some fault
    forward None h = refl
    forward (Some fault) h = rw (not_minus fault h, fault_reads.there fault h) refl

    backward : (w : List ℕ) (fault : Option DlFault) → some_fault w ≡ Some fault → FaultFitsIfSome fault × (fault_or_none fault ≡ w)
    backward w fault e = elim (cases_Bool (bytes_eq w (45 ∷ []))) [
      | inl t ↦ subst (λ x. FaultFitsIfSome x × (fault_or_none x ≡ w)) (same_Some _ _ (if_true _ _ _ t e))
          (tt, sym ((bytes_eq-Decides w (45 ∷ [])).0 t))
      | inr f ↦ variant-back fault_reads Some fault_or_none FaultFitsIfSome [] (λ a h. h) (λ a. refl) w fault (if_false _ _ _ f e)
    ]

-- what follows the first word

open_parts : Reads (pair 32 hart
    (pair 32 (labelled asked (codes "ns=")) (pair 32 (labelled some_name (codes "name=")) (pair 32 (labelled hexadecimal (codes "flags=")) open_answer))))
    (λ p. hart_word p.0 ++ 32 ∷ ((codes "ns=" ++ asked_text p.1.0) ++ 32 ∷
    ((codes "name=" ++ name_or_none p.1.1.0) ++ 32 ∷ ((codes "flags=" ++ hex_text p.1.1.1.0) ++ 32 ∷ open_line_text p.1.1.1.1))))
    (λ p. Fits32 p.0 × (Fits64IfSome p.1.0 × (AreBytesIfSome p.1.1.0 × (Fits64 p.1.1.1.0 × OpenFits p.1.1.1.1))))
open_parts =
    pair_reads hart_reads (pair_reads (labelled_reads asked_reads (codes "ns=")) (pair_reads (labelled_reads some_name_reads (codes "name="))
    (pair_reads (labelled_reads hexadecimal_reads (codes "flags=")) open_reads 32 (λ n h. hex_free 32 refl refl n h))
    32 (λ n h. some_name_free 32 refl refl refl refl n h)) 32 (λ n h. asked_free n h)) 32 hart_free

close_parts : Reads (pair 32 hart (pair 32 (labelled hexadecimal (codes "handle=")) close_answer))
    (λ p. hart_word p.0 ++ 32 ∷ ((codes "handle=" ++ hex_text p.1.0) ++ 32 ∷ close_answer_text p.1.1))
    (λ p. Fits32 p.0 × (Fits64 p.1.0 × CloseFits p.1.1))
close_parts =
    pair_reads hart_reads (pair_reads (labelled_reads hexadecimal_reads (codes "handle=")) close_reads 32 (λ n h. hex_free 32 refl refl n h)) 32 hart_free

unmapped_parts : Reads (pair 32 hart (labelled (list_of (numeral 10)) (codes "set="))) (λ p. hart_word p.0 ++ 32 ∷ (codes "set=" ++ serials_text p.1))
    (λ p. Fits32 p.0 × All Fits64 p.1)
unmapped_parts = pair_reads hart_reads (labelled_reads serials_reads (codes "set=")) 32 hart_free

sym_parts : Reads (pair 32 hart
    (pair 32 (labelled (decimal_in (2 ^ 32)) (codes "ns="))
    (pair 32 (labelled hexadecimal (codes "handle="))
    (pair 32 (labelled name_of (codes "name=")) (pair 32 (labelled some_name (codes "ver=")) sym_answer)))))
    (λ p. hart_word p.0 ++ 32 ∷ ((codes "ns=" ++ decimal p.1.0) ++ 32 ∷
    ((codes "handle=" ++ hex_text p.1.1.0) ++ 32 ∷
    ((codes "name=" ++ name_text p.1.1.1.0) ++ 32 ∷ ((codes "ver=" ++ name_or_none p.1.1.1.1.0) ++ 32 ∷ sym_answer_text p.1.1.1.1.1)))))
    (λ p. Fits32 p.0 × (Fits32 p.1.0 × (Fits64 p.1.1.0 × (AreBytes p.1.1.1.0 × (AreBytesIfSome p.1.1.1.1.0 × SymFits p.1.1.1.1.1)))))
sym_parts =
    pair_reads hart_reads (pair_reads (labelled_reads decimal32_reads (codes "ns=")) (pair_reads (labelled_reads hexadecimal_reads (codes "handle="))
    (pair_reads (labelled_reads name_reads (codes "name=")) (pair_reads (labelled_reads some_name_reads (codes "ver=")) sym_reads
    32 (λ n h. some_name_free 32 refl refl refl refl n h)) 32 (λ n h. name_free 32 refl refl refl n h))
    32 (λ n h. hex_free 32 refl refl n h)) 32 (λ n h. decimal32_free 32 refl n h)) 32 hart_free

wrote_parts : Reads (pair 32 hart counted) (λ p. hart_word p.0 ++ 32 ∷ counted_text p.1) (λ p. Fits32 p.0 × WroteFits p.1)
wrote_parts = pair_reads hart_reads counted_reads 32 hart_free

told_parts : Reads (pair 32 hart some_fault) (λ p. hart_word p.0 ++ 32 ∷ fault_or_none p.1) (λ p. Fits32 p.0 × FaultFitsIfSome p.1)
told_parts = pair_reads hart_reads some_fault_reads 32 hart_free

-- the first words

abbrev spelled : EventWord → List ℕ
spelled words.Open = codes "open"
spelled words.Close = codes "close"
spelled words.Unmapped = codes "unmapped"
spelled words.Sym = codes "sym"
spelled words.Wrote = codes "wrote"
spelled words.Told = codes "told"

word_there : (k : EventWord) → event_word (spelled k) ≡ Some k
unfolding event_word
word_there words.Open = refl
word_there words.Close = refl
word_there words.Unmapped = refl
word_there words.Sym = refl
word_there words.Wrote = refl
word_there words.Told = refl

word_free : (k : EventWord) → free 32 (spelled k) ≡ true
word_free words.Open = refl
word_free words.Close = refl
word_free words.Unmapped = refl
word_free words.Sym = refl
word_free words.Wrote = refl
word_free words.Told = refl

word_back : (w : List ℕ) (k : EventWord) → event_word w ≡ Some k → spelled k ≡ w
unfolding event_word
word_back w k e = named-back spelled w event_words k e (refl, (refl, (refl, (refl, (refl, (refl, tt))))))

step_word_free : (k : StepWord) → free 32 (step_spelled k) ≡ true
step_word_free steps.Grant = refl
step_word_free steps.Bound = refl
step_word_free steps.Lost = refl
step_word_free steps.Unresolved = refl
step_word_free steps.Tls = refl
step_word_free steps.Init = refl
step_word_free steps.Fini = refl
step_word_free steps.Ended = refl

no_event_word : (k : StepWord) → event_word (step_spelled k) ≡ None
unfolding event_word
no_event_word steps.Grant = refl
no_event_word steps.Bound = refl
no_event_word steps.Lost = refl
no_event_word steps.Unresolved = refl
no_event_word steps.Tls = refl
no_event_word steps.Init = refl
no_event_word steps.Fini = refl
no_event_word steps.Ended = refl

behind_word : (k : EventWord) (rest : List ℕ) (event : EventLine) → event_behind k rest ≡ Some event
    → event_of (spelled k ++ 32 ∷ rest) ≡ Some event
unfolding event_of
behind_word k rest event e = rw (cut-there 32 (spelled k) rest (word_free k), word_there k) e

behind_step : (k : StepWord) (rest : List ℕ) (event : EventLine) → step_behind k rest ≡ Some event
    → event_of (step_spelled k ++ 32 ∷ rest) ≡ Some event
unfolding event_of
behind_step k rest event e = rw (cut-there 32 (step_spelled k) rest (step_word_free k), no_event_word k, step_word_there k) e

-- events

event-there : (event : EventLine) → IsWritable event → event_of (words_of event) ≡ Some event
unfolding words_of sym_text
event-there (lines.Open hart ask answer) h = behind_word words.Open _ _ (rw (open_parts.there (hart, (ask.ns, (ask.name, (ask.flags, answer)))) h) refl)
event-there (lines.Close hart handle answer) h = behind_word words.Close _ _ (rw (close_parts.there (hart, (handle, answer)) h) refl)
event-there (lines.Unmapped hart set) h = behind_word words.Unmapped _ _ (rw (unmapped_parts.there (hart, set) h) refl)
event-there (lines.Grant g hart o s choice value) h = behind_step steps.Grant _ _ (grant-there g hart o s choice value h)
event-there (lines.Bound g) h = behind_step steps.Bound _ _ (bound-there g h)
event-there (lines.Lost g saw) h = behind_step steps.Lost _ _ (lost-there g saw h)
event-there (lines.Unresolved hart o s choice) h = behind_step steps.Unresolved _ _ (unresolved-there hart o s choice h)
event-there (lines.Sym hart ask answer) h =
    behind_word words.Sym _ _ (rw (sym_parts.there (hart, (ask.ns, (ask.handle, (ask.name, (ask.version, answer))))) h) refl)
event-there (lines.Tls hart o address) h = behind_step steps.Tls _ _ (tls-there hart o address h)
event-there (lines.Init hart o) h = behind_step steps.Init _ _ (init-there hart o h)
event-there (lines.Fini hart o) h = behind_step steps.Fini _ _ (fini-there hart o h)
event-there (lines.Wrote hart bytes) h = behind_word words.Wrote _ _ (rw (wrote_parts.there (hart, bytes) h) refl)
event-there (lines.Told hart None) h = behind_word words.Told _ _ (rw (told_parts.there (hart, None) h) refl)
event-there (lines.Told hart (Some fault)) h = behind_word words.Told _ _ (rw (told_parts.there (hart, Some fault) h) refl)
event-there (lines.Ended hart end) h = behind_step steps.Ended _ _ (ended-there hart end h)

abbrev IsEvent : List ℕ → EventLine → Type 0
IsEvent w event = IsWritable event × (words_of event ≡ w)

told_words : (hart : ℕ) (fault : Option DlFault) → words_of (lines.Told hart fault) ≡ codes "told " ++ (hart_word hart ++ 32 ∷ fault_or_none fault)
unfolding words_of
told_words hart None = refl
told_words hart (Some fault) = refl

behind-back : (k : EventWord) (w : List ℕ) (event : EventLine) → event_behind k w ≡ Some event → IsEvent (spelled k ++ 32 ∷ w) event
unfolding words_of sym_text
behind-back words.Open w event e = variant-back open_parts _ words_of IsWritable (codes "open ") (λ a h. h) (λ a. refl) w event e
behind-back words.Close w event e = variant-back close_parts _ words_of IsWritable (codes "close ") (λ a h. h) (λ a. refl) w event e
behind-back words.Unmapped w event e = variant-back unmapped_parts _ words_of IsWritable (codes "unmapped ") (λ a h. h) (λ a. refl) w event e
behind-back words.Sym w event e = variant-back sym_parts _ words_of IsWritable (codes "sym ") (λ a h. h) (λ a. refl) w event e
behind-back words.Wrote w event e = variant-back wrote_parts _ words_of IsWritable (codes "wrote ") (λ a h. h) (λ a. refl) w event e
behind-back words.Told w event e = variant-back told_parts _ words_of IsWritable (codes "told ") (λ a h. h) (λ a. told_words a.0 a.1) w event e

event-back : (w : List ℕ) (event : EventLine) → event_of w ≡ Some event → IsEvent w event
unfolding event_of
event-back w event e = bound (cut 32 w) _ event e (λ p ep e1. by p ep (event_word p.0) refl e1)
  where
    by : (p : List ℕ × List ℕ) → cut 32 w ≡ Some p → (o : Option EventWord) → event_word p.0 ≡ o
        → event_by p.1 o (step_word p.0) ≡ Some event → IsEvent w event
    by p ep (Some k) eo e =
        let it = behind-back k p.1 event e in
        (it.0, it.1 ∙ ap (λ x. x ++ 32 ∷ p.1) (word_back p.0 k eo) ∙ cut-back 32 w p ep)
    by p ep None eo e = bound (step_word p.0) (λ word. step_behind word p.1) event e (λ k ek es.
        let it = step-back k p.1 event es in
        (it.0, it.1 ∙ ap (λ x. x ++ 32 ∷ p.1) (step_word_back p.0 k ek) ∙ cut-back 32 w p ep))

-- lines

pub line-there : (event : EventLine) → IsWritable event → read_line (line_of event) ≡ Some event
unfolding read_line
line-there event h =
    let words = words_of event in
    let front : length (words ++ 10 ∷ []) - 1 ≡ length words = omega (arith, length-append words (10 ∷ [])) in
    rw (front, drop_at words (10 ∷ []) _ refl, take_at words (10 ∷ []) _ refl) (event-there event h)

pub line-back : (line : List ℕ) (event : EventLine) → read_line line ≡ Some event → IsWritable event × (line ≡ line_of event)
unfolding read_line
line-back line event e = elim (cases_Bool (bytes_eq (drop (length line - 1) line) (10 ∷ []))) [
  | inl t ↦
      let it = event-back (take (length line - 1) line) event (if_true _ _ _ t e) in
      (it.0, sym (take-append-drop (length line - 1) line) ∙ (λ i. sym it.1 i ++ (bytes_eq-Decides (drop (length line - 1) line) (10 ∷ [])).0 t i))
  | inr f ↦ absurd (none-some event (if_false _ _ _ f e))
]
