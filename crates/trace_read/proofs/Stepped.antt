-- Events whose lines have numbers alone are read back.
use Rattle.std.proofs.Common.{◌≡◌, ℕ, true, List, [], ◌∷◌, ◌++◌, Some, None, option_map}
use Rattle.std.proofs.Common.{refl, sym, ap, ◌∙◌, subst, inl, inr, codes, bytes_eq, arith}
use Rattle.std.proofs.lemmas.Bool.{cases_Bool, false_from_ne_true}
use Rattle.std.proofs.lemmas.Option.{none-some, same_Some}
use Rattle.std.proofs.lemmas.Slice.Eq.{bytes_eq-Decides}
use Rattle.ld_base.specs.declared.linking.Choice.{Choice}
use Rattle.ld_base.specs.declared.linking.Choice.TheVariants as choices
use Rattle.ld_base.specs.FaultText.{hex_text}
use Rattle.history_event.specs.declared.event_line.EventLine.{EventLine}
use Rattle.history_event.specs.declared.event_line.EventLine.TheVariants as lines
use Rattle.history_event.specs.declared.hart_end.HartEnd.{HartEnd}
use Rattle.trace_text.specs.Ends.{end_text}
use Rattle.trace_text.specs.Lines.{definition_text, granted_text, unresolved_text, grant_word, slot_word}
use Rattle.trace_text.specs.Said.{hart_word, object_word}
use Rattle.trace_read.specs.declared.steps.StepWord.{StepWord}
use Rattle.trace_read.specs.declared.steps.StepWord.TheVariants as words
use Rattle.trace_read.specs.Answers.{found_parts}
use Rattle.trace_read.specs.Ends.{end_of}
use Rattle.trace_read.specs.Fits.{Fits32, Fits64, EndFits, GrantedFits, RefusedFits, IsWritable}
use Rattle.trace_read.specs.Lines.{words_of}
use Rattle.trace_read.specs.Lists.{hexadecimal}
use Rattle.trace_read.specs.Numbers.{definition}
use Rattle.trace_read.specs.Pieces.{labelled, pair, cut, is_mark}
use Rattle.trace_read.specs.Steps.{step_words, step_word, «grant», hart, object, slot, granted, refused, step_behind, hart_and_object}
use Rattle.trace_read.proofs.Answered.{found_reads}
use Rattle.trace_read.proofs.Digits.{digits_one, sixteen}
use Rattle.trace_read.proofs.Ended.{end_reads}
use Rattle.trace_read.proofs.Parts.{Reads, bound, free, labelled_reads, pair_reads, if_true, if_false}
use Rattle.trace_read.proofs.Worded.{decimal_reads, decimal32_reads, decimal_free, decimal32_free, hexadecimal_reads, definition_reads, named-back}
use Rattle.trace_read.proofs.Worded.{variant-back}

-- words with labels

pub hart_reads : Reads hart hart_word Fits32
hart_reads = labelled_reads decimal32_reads (codes "h=")

pub hart_free : (n : ℕ) → Fits32 n → free 32 (hart_word n) ≡ true
hart_free n h = decimal32_free 32 refl n h

grant_reads : Reads «grant» grant_word Fits64
grant_reads = labelled_reads decimal_reads (codes "g=")

grant_free : (n : ℕ) → Fits64 n → free 32 (grant_word n) ≡ true
grant_free n h = decimal_free 32 refl n h

object_reads : Reads object object_word Fits64
object_reads = labelled_reads decimal_reads (codes "o=")

object_free : (n : ℕ) → Fits64 n → free 32 (object_word n) ≡ true
object_free n h = decimal_free 32 refl n h

slot_reads : Reads slot slot_word Fits32
slot_reads = labelled_reads decimal32_reads (codes "slot=")

slot_free : (n : ℕ) → Fits32 n → free 32 (slot_word n) ≡ true
slot_free n h = decimal32_free 32 refl n h

-- what a slot is to get

weak_text : codes "weak " ++ hex_text 0 ≡ codes "weak 0x0"
weak_text = ap (λ t. codes "weak 0x" ++ t) (digits_one 16 sixteen 0 (omega arith))

no_definition : found_parts (codes "weak 0x0") ≡ None
unfolding cut is_mark
no_definition = refl

granted-there : (choice : Choice) (value : ℕ) → GrantedFits choice value → granted (granted_text choice value) ≡ Some (choice, value)
unfolding granted
granted-there (choices.Def serial index) value h = rw (false_from_ne_true _ off, found_reads.there ((serial, index), value) h) refl
  where
    text : List ℕ
    text = definition_text serial index ++ 32 ∷ hex_text value

    off : bytes_eq text (codes "weak 0x0") ≡ true → ⊥
    off same =
        none-some ((serial, index), value)
        (sym no_definition ∙ sym (ap found_parts ((bytes_eq-Decides text (codes "weak 0x0")).0 same)) ∙ found_reads.there
        ((serial, index), value) h)
granted-there choices.WeakZero value h =
    ap (λ v. granted (codes "weak " ++ hex_text v)) h ∙ ap granted weak_text ∙ ap (λ v. Some (choices.WeakZero, v)) (sym h)
granted-there choices.Missing value h = absurd h

abbrev GrantFits : Choice × ℕ → Type 0
GrantFits p = GrantedFits p.0 p.1

abbrev grant_text : Choice × ℕ → List ℕ
grant_text p = granted_text p.0 p.1

granted-back : (w : List ℕ) (p : Choice × ℕ) → granted w ≡ Some p → GrantFits p × (grant_text p ≡ w)
unfolding granted
granted-back w p e = elim (cases_Bool (bytes_eq w (codes "weak 0x0"))) [
  | inl t ↦ subst (λ x. GrantFits x × (grant_text x ≡ w)) (same_Some _ _ (if_true _ _ _ t e))
      (refl, weak_text ∙ sym ((bytes_eq-Decides w (codes "weak 0x0")).0 t))
  | inr f ↦ variant-back found_reads _ grant_text GrantFits [] (λ a h. h) (λ a. refl) w p (if_false _ _ _ f e)
]

granted_reads : Reads granted grant_text GrantFits
granted_reads = record { there = λ p h. granted-there p.0 p.1 h; back = granted-back }

-- why a slot gets nothing

not_code_reads : Reads (labelled definition (codes "not-code ")) (λ p. codes "not-code " ++ definition_text p.0 p.1) (λ p. Fits64 p.0 × Fits32 p.1)
not_code_reads = labelled_reads definition_reads (codes "not-code ")

refused-there : (choice : Choice) → RefusedFits choice → refused (unresolved_text choice) ≡ Some choice
unfolding refused
refused-there (choices.Def serial index) h = ap (option_map (λ p. choices.Def p.0 p.1)) (not_code_reads.there (serial, index) h)
refused-there choices.WeakZero h = absurd h
refused-there choices.Missing h = refl

refused-back : (w : List ℕ) (choice : Choice) → refused w ≡ Some choice → RefusedFits choice × (unresolved_text choice ≡ w)
unfolding refused
refused-back w choice e = elim (cases_Bool (bytes_eq w (codes "missing"))) [
  | inl t ↦ subst (λ x. RefusedFits x × (unresolved_text x ≡ w)) (same_Some _ _ (if_true _ _ _ t e))
      (tt, sym ((bytes_eq-Decides w (codes "missing")).0 t))
  | inr f ↦ variant-back not_code_reads _ unresolved_text RefusedFits [] (λ a h. h) (λ a. refl) w choice (if_false _ _ _ f e)
]

refused_reads : Reads refused unresolved_text RefusedFits
refused_reads = record { there = refused-there; back = refused-back }

-- what follows the first word

granted_step : Reads (pair 32 «grant» (pair 32 hart (pair 32 object (pair 32 slot (labelled granted (codes "-> "))))))
    (λ p. grant_word p.0 ++ 32 ∷ (hart_word p.1.0 ++ 32 ∷
    (object_word p.1.1.0 ++ 32 ∷ (slot_word p.1.1.1.0 ++ 32 ∷ (codes "-> " ++ grant_text p.1.1.1.1)))))
    (λ p. Fits64 p.0 × (Fits32 p.1.0 × (Fits64 p.1.1.0 × (Fits32 p.1.1.1.0 × GrantFits p.1.1.1.1))))
granted_step =
    pair_reads grant_reads (pair_reads hart_reads
    (pair_reads object_reads (pair_reads slot_reads
    (labelled_reads granted_reads (codes "-> ")) 32 slot_free) 32 object_free) 32 hart_free) 32 grant_free

lost_step : Reads (pair 32 «grant» (labelled hexadecimal (codes "saw="))) (λ p. grant_word p.0 ++ 32 ∷ (codes "saw=" ++ hex_text p.1))
    (λ p. Fits64 p.0 × Fits64 p.1)
lost_step = pair_reads grant_reads (labelled_reads hexadecimal_reads (codes "saw=")) 32 grant_free

unresolved_step : Reads (pair 32 hart (pair 32 object (pair 32 slot refused)))
    (λ p. hart_word p.0 ++ 32 ∷ (object_word p.1.0 ++ 32 ∷ (slot_word p.1.1.0 ++ 32 ∷ unresolved_text p.1.1.1)))
    (λ p. Fits32 p.0 × (Fits64 p.1.0 × (Fits32 p.1.1.0 × RefusedFits p.1.1.1)))
unresolved_step = pair_reads hart_reads (pair_reads object_reads (pair_reads slot_reads refused_reads 32 slot_free) 32 object_free) 32 hart_free

tls_step : Reads (pair 32 hart (pair 32 object hexadecimal)) (λ p. hart_word p.0 ++ 32 ∷ (object_word p.1.0 ++ 32 ∷ hex_text p.1.1))
    (λ p. Fits32 p.0 × (Fits64 p.1.0 × Fits64 p.1.1))
tls_step = pair_reads hart_reads (pair_reads object_reads hexadecimal_reads 32 object_free) 32 hart_free

object_step : Reads hart_and_object (λ p. hart_word p.0 ++ 32 ∷ object_word p.1) (λ p. Fits32 p.0 × Fits64 p.1)
object_step = pair_reads hart_reads object_reads 32 hart_free

ended_step : Reads (pair 32 hart end_of) (λ p. hart_word p.0 ++ 32 ∷ end_text p.1) (λ p. Fits32 p.0 × EndFits p.1)
ended_step = pair_reads hart_reads end_reads 32 hart_free

-- the first words

abbrev pub spelled : StepWord → List ℕ
spelled words.Grant = codes "grant"
spelled words.Bound = codes "bound"
spelled words.Lost = codes "lost"
spelled words.Unresolved = codes "unresolved"
spelled words.Tls = codes "tls"
spelled words.Init = codes "init"
spelled words.Fini = codes "fini"
spelled words.Ended = codes "ended"

pub word_there : (k : StepWord) → step_word (spelled k) ≡ Some k
unfolding step_word
word_there words.Grant = refl
word_there words.Bound = refl
word_there words.Lost = refl
word_there words.Unresolved = refl
word_there words.Tls = refl
word_there words.Init = refl
word_there words.Fini = refl
word_there words.Ended = refl

pub word_back : (w : List ℕ) (k : StepWord) → step_word w ≡ Some k → spelled k ≡ w
unfolding step_word
word_back w k e = named-back spelled w step_words k e (refl, (refl, (refl, (refl, (refl, (refl, (refl, (refl, tt))))))))

abbrev IsEvent : List ℕ → EventLine → Type 0
IsEvent w event = IsWritable event × (words_of event ≡ w)

pub step-back : (k : StepWord) (w : List ℕ) (event : EventLine) → step_behind k w ≡ Some event → IsEvent (spelled k ++ 32 ∷ w) event
unfolding words_of
step-back words.Grant w event e = variant-back granted_step _ words_of IsWritable (codes "grant ") (λ a h. h) (λ a. refl) w event e
step-back words.Bound w event e = variant-back grant_reads _ words_of IsWritable (codes "bound ") (λ a h. h) (λ a. refl) w event e
step-back words.Lost w event e = variant-back lost_step _ words_of IsWritable (codes "lost ") (λ a h. h) (λ a. refl) w event e
step-back words.Unresolved w event e = variant-back unresolved_step _ words_of IsWritable (codes "unresolved ") (λ a h. h) (λ a. refl) w event e
step-back words.Tls w event e = variant-back tls_step _ words_of IsWritable (codes "tls ") (λ a h. h) (λ a. refl) w event e
step-back words.Init w event e = variant-back object_step _ words_of IsWritable (codes "init ") (λ a h. h) (λ a. refl) w event e
step-back words.Fini w event e = variant-back object_step _ words_of IsWritable (codes "fini ") (λ a h. h) (λ a. refl) w event e
step-back words.Ended w event e = variant-back ended_step _ words_of IsWritable (codes "ended ") (λ a h. h) (λ a. refl) w event e

-- each kind

pub grant-there : (g h o s : ℕ) (choice : Choice) (value : ℕ) → IsWritable (lines.Grant g h o s choice value)
    → step_behind words.Grant (grant_word g ++ 32 ∷
    (hart_word h ++ 32 ∷ (object_word o ++ 32 ∷ (slot_word s ++ 32 ∷ (codes "-> " ++ granted_text choice value))))) ≡ Some
    (lines.Grant g h o s choice value)
grant-there g h o s choice value fits = rw (granted_step.there (g, (h, (o, (s, (choice, value))))) fits) refl

pub bound-there : (g : ℕ) → Fits64 g → step_behind words.Bound (grant_word g) ≡ Some (lines.Bound g)
bound-there g fits = rw (grant_reads.there g fits) refl

pub lost-there : (g saw : ℕ) → Fits64 g × Fits64 saw
    → step_behind words.Lost (grant_word g ++ 32 ∷ (codes "saw=" ++ hex_text saw)) ≡ Some (lines.Lost g saw)
lost-there g saw fits = rw (lost_step.there (g, saw) fits) refl

pub unresolved-there : (h o s : ℕ) (choice : Choice) → IsWritable (lines.Unresolved h o s choice)
    → step_behind words.Unresolved (hart_word h ++ 32 ∷ (object_word o ++ 32 ∷ (slot_word s ++ 32 ∷ unresolved_text choice))) ≡ Some
    (lines.Unresolved h o s choice)
unresolved-there h o s choice fits = rw (unresolved_step.there (h, (o, (s, choice))) fits) refl

pub tls-there : (h o a : ℕ) → IsWritable (lines.Tls h o a)
    → step_behind words.Tls (hart_word h ++ 32 ∷ (object_word o ++ 32 ∷ hex_text a)) ≡ Some (lines.Tls h o a)
tls-there h o a fits = rw (tls_step.there (h, (o, a)) fits) refl

pub init-there : (h o : ℕ) → IsWritable (lines.Init h o) → step_behind words.Init (hart_word h ++ 32 ∷ object_word o) ≡ Some (lines.Init h o)
init-there h o fits = rw (object_step.there (h, o) fits) refl

pub fini-there : (h o : ℕ) → IsWritable (lines.Fini h o) → step_behind words.Fini (hart_word h ++ 32 ∷ object_word o) ≡ Some (lines.Fini h o)
fini-there h o fits = rw (object_step.there (h, o) fits) refl

pub ended-there : (h : ℕ) (end : HartEnd) → IsWritable (lines.Ended h end)
    → step_behind words.Ended (hart_word h ++ 32 ∷ end_text end) ≡ Some (lines.Ended h end)
ended-there h end fits = rw (ended_step.there (h, end) fits) refl
