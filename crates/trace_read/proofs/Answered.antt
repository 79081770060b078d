-- Answers of the linker's calls are read back.
use Rattle.std.proofs.Common.{◌≡◌, ℕ, true, List, ◌∷◌, ◌++◌, Option, Some, None, option_map, refl, sym}
use Rattle.std.proofs.Common.{ap, ◌∙◌, subst, inl, inr, codes, bytes_eq, All}
use Rattle.std.proofs.lemmas.Bool.{cases_Bool, false_from_ne_true}
use Rattle.std.proofs.lemmas.Option.{none-some, same_Some}
use Rattle.std.proofs.lemmas.Slice.Eq.{bytes_eq-Decides}
use Rattle.std.specs.Fmt.{decimal}
use Rattle.ld_base.specs.FaultText.{fault_text, hex_text}
use Rattle.history_event.specs.declared.event.CloseAnswer.{CloseAnswer}
use Rattle.history_event.specs.declared.event.CloseAnswer.TheVariants as closes
use Rattle.history_event.specs.declared.event.SymAnswer.{SymAnswer}
use Rattle.history_event.specs.declared.event.SymAnswer.TheVariants as syms
use Rattle.history_event.specs.declared.event_line.OpenLine.{OpenLine}
use Rattle.history_event.specs.declared.event_line.OpenLine.TheVariants as opens
use Rattle.trace_text.specs.Lines.{asked_text, close_answer_text, sym_answer_text, definition_text}
use Rattle.trace_text.specs.Lists.{serials_text}
use Rattle.trace_read.specs.Answers.{asked, done_parts, opened, answer_by, no_or_ok, open_answer, close_answer, found_parts, found, sym_answer}
use Rattle.trace_read.specs.Faults.{fault_of}
use Rattle.trace_read.specs.Fits.{Fits32, Fits64, Fits64IfSome, NewLineFits, OpenFits, CloseFits, SymFits}
use Rattle.trace_read.specs.Lines.{new_lines_text, open_line_text}
use Rattle.trace_read.specs.Lists.{list_of}
use Rattle.trace_read.specs.Numbers.{numeral, digit}
use Rattle.trace_read.specs.Pieces.{behind, labelled}
use Rattle.trace_read.proofs.Parts.{Reads, bound, mapped, free, behind-there, behind-back, labelled_reads, pair_reads, if_true, if_false}
use Rattle.trace_read.proofs.Refusals.{fault_reads}
use Rattle.trace_read.proofs.Worded.{decimal_reads, decimal32_reads, decimal_free, decimal32_free, hexadecimal_reads, definition_reads}
use Rattle.trace_read.proofs.Worded.{definition_free, serials_reads, new_lines_reads, variant-back}

-- a namespace that is asked for

no_number : numeral 10 (codes "new") ≡ None
unfolding numeral digit
no_number = refl

asked-there : (ns : Option ℕ) → Fits64IfSome ns → asked (asked_text ns) ≡ Some ns
unfolding asked
asked-there None h = refl
asked-there (Some n) h = rw (false_from_ne_true _ off, decimal_reads.there n h) refl
  where
    off : bytes_eq (decimal n) (codes "new") ≡ true → ⊥
    off same = none-some n (sym no_number ∙ sym (ap (numeral 10) ((bytes_eq-Decides (decimal n) (codes "new")).0 same)) ∙ decimal_reads.there n h)

asked-back : (w : List ℕ) (ns : Option ℕ) → asked w ≡ Some ns → Fits64IfSome ns × (asked_text ns ≡ w)
unfolding asked
asked-back w ns e = elim (cases_Bool (bytes_eq w (codes "new"))) [
  | inl t ↦ subst (λ x. Fits64IfSome x × (asked_text x ≡ w)) (same_Some _ _ (if_true _ _ _ t e)) (tt, sym ((bytes_eq-Decides w (codes "new")).0 t))
  | inr f ↦ mapped _ (numeral 10 w) ns (if_false _ _ _ f e) (λ n en same.
      subst (λ x. Fits64IfSome x × (asked_text x ≡ w)) same (decimal_reads.back w n en))
]

pub asked_reads : Reads asked asked_text Fits64IfSome
asked_reads = record { there = asked-there; back = asked-back }

pub asked_free : (ns : Option ℕ) → Fits64IfSome ns → free 32 (asked_text ns) ≡ true
asked_free None h = refl
asked_free (Some n) h = decimal_free 32 refl n h

-- no, or ok

not_no : (rest : List ℕ) → behind (codes "no ") (codes "ok " ++ rest) ≡ None
unfolding behind
not_no rest = refl

module _ {A : Type 0} (refused done : List ℕ → Option A) where
  no_there : (rest : List ℕ) → no_or_ok refused done (codes "no" ++ 32 ∷ rest) ≡ refused rest
  no_there rest = rw (behind-there (codes "no ") rest) refl

  ok_there : (rest : List ℕ) → no_or_ok refused done (codes "ok" ++ 32 ∷ rest) ≡ done rest
  ok_there rest = rw (not_no rest, behind-there (codes "ok ") rest) refl

  no_or_ok-back : {P : Type 0} (w : List ℕ) (a : A) → no_or_ok refused done w ≡ Some a
      → ((rest : List ℕ) → refused rest ≡ Some a → codes "no " ++ rest ≡ w → P)
      → ((rest : List ℕ) → done rest ≡ Some a → codes "ok " ++ rest ≡ w → P) → P
  no_or_ok-back {P} w a e off ok = by (behind (codes "no ") w) refl e
    where
      by : (o : Option (List ℕ)) → behind (codes "no ") w ≡ o → answer_by refused done w o ≡ Some a → P
      by (Some rest) eo e = off rest e (behind-back (codes "no ") w rest eo)
      by None eo e = bound (behind (codes "ok ") w) done a e (λ rest er ed. ok rest ed (behind-back (codes "ok ") w rest er))

-- an opening

done_reads : Reads done_parts (λ p. (codes "in=" ++ decimal p.0) ++ 32 ∷
    ((codes "root=" ++ decimal p.1.0) ++ 32 ∷ (codes "new=" ++ new_lines_text p.1.1))) (λ p. Fits32 p.0 × (Fits64 p.1.0 × All NewLineFits p.1.1))
done_reads = pair_reads (labelled_reads decimal32_reads (codes "in="))
    (pair_reads (labelled_reads decimal_reads (codes "root=")) (labelled_reads new_lines_reads (codes "new=")) 32 (λ n h. decimal_free 32 refl n h))
    32 (λ n h. decimal32_free 32 refl n h)

abbrev refused_open : List ℕ → Option OpenLine
refused_open rest = option_map opens.Refused (fault_of rest)

abbrev IsOpen : List ℕ → OpenLine → Type 0
IsOpen w answer = OpenFits answer × (open_line_text answer ≡ w)

open-there : (answer : OpenLine) → OpenFits answer → open_answer (open_line_text answer) ≡ Some answer
unfolding open_answer
open-there (opens.Done ns root added) h =
    ok_there refused_open opened _ ∙ ap (option_map (λ p. opens.Done p.0 p.1.0 p.1.1)) (done_reads.there (ns, (root, added)) h)
open-there opens.Absent h = refl
open-there (opens.Refused fault) h = no_there refused_open opened (fault_text fault) ∙ ap (option_map opens.Refused) (fault_reads.there fault h)

open-back : (w : List ℕ) (answer : OpenLine) → open_answer w ≡ Some answer → IsOpen w answer
unfolding open_answer
open-back w answer e = elim (cases_Bool (bytes_eq w (codes "absent"))) [
  | inl t ↦ subst (IsOpen w) (same_Some _ _ (if_true _ _ _ t e)) (tt, sym ((bytes_eq-Decides w (codes "absent")).0 t))
  | inr f ↦ no_or_ok-back refused_open opened w answer (if_false _ _ _ f e)
      (λ rest er same. subst (λ x. IsOpen x answer) same
      (variant-back fault_reads opens.Refused open_line_text OpenFits (codes "no ") (λ a h. h) (λ a. refl) rest answer er))
      (λ rest er same. subst (λ x. IsOpen x answer) same
      (variant-back done_reads _ open_line_text OpenFits (codes "ok ") (λ a h. h) (λ a. refl) rest answer er))
]

pub open_reads : Reads open_answer open_line_text OpenFits
open_reads = record { there = open-there; back = open-back }

-- a closing

dying_reads : Reads (labelled (list_of (numeral 10)) (codes "dying=")) (λ xs. codes "dying=" ++ serials_text xs) (All Fits64)
dying_reads = labelled_reads serials_reads (codes "dying=")

abbrev refused_close : List ℕ → Option CloseAnswer
refused_close rest = option_map closes.Refused (fault_of rest)

abbrev done_close : List ℕ → Option CloseAnswer
done_close rest = option_map closes.Done (labelled (list_of (numeral 10)) (codes "dying=") rest)

abbrev IsClose : List ℕ → CloseAnswer → Type 0
IsClose w answer = CloseFits answer × (close_answer_text answer ≡ w)

close-there : (answer : CloseAnswer) → CloseFits answer → close_answer (close_answer_text answer) ≡ Some answer
unfolding close_answer
close-there (closes.Done dying) h = ok_there refused_close done_close _ ∙ ap (option_map closes.Done) (dying_reads.there dying h)
close-there (closes.Refused fault) h = no_there refused_close done_close (fault_text fault) ∙ ap (option_map closes.Refused) (fault_reads.there fault h)

close-back : (w : List ℕ) (answer : CloseAnswer) → close_answer w ≡ Some answer → IsClose w answer
unfolding close_answer
close-back w answer e = no_or_ok-back refused_close done_close w answer e
    (λ rest er same. subst (λ x. IsClose x answer) same
    (variant-back fault_reads closes.Refused close_answer_text CloseFits (codes "no ") (λ a h. h) (λ a. refl) rest answer er))
    (λ rest er same. subst (λ x. IsClose x answer) same
    (variant-back dying_reads closes.Done close_answer_text CloseFits (codes "ok ") (λ a h. h) (λ a. refl) rest answer er))

pub close_reads : Reads close_answer close_answer_text CloseFits
close_reads = record { there = close-there; back = close-back }

-- a look-up

pub found_reads : Reads found_parts (λ p. definition_text p.0.0 p.0.1 ++ 32 ∷ hex_text p.1) (λ p. (Fits64 p.0.0 × Fits32 p.0.1) × Fits64 p.1)
found_reads = pair_reads definition_reads hexadecimal_reads 32 definition_free

abbrev refused_sym : List ℕ → Option SymAnswer
refused_sym rest = option_map syms.Refused (fault_of rest)

abbrev IsSym : List ℕ → SymAnswer → Type 0
IsSym w answer = SymFits answer × (sym_answer_text answer ≡ w)

sym-there : (answer : SymAnswer) → SymFits answer → sym_answer (sym_answer_text answer) ≡ Some answer
unfolding sym_answer
sym-there (syms.Found serial index address) h =
    ok_there refused_sym found _ ∙ ap (option_map (λ p. syms.Found p.0.0 p.0.1 p.1)) (found_reads.there ((serial, index), address) h)
sym-there (syms.Refused fault) h = no_there refused_sym found (fault_text fault) ∙ ap (option_map syms.Refused) (fault_reads.there fault h)

sym-back : (w : List ℕ) (answer : SymAnswer) → sym_answer w ≡ Some answer → IsSym w answer
unfolding sym_answer
sym-back w answer e = no_or_ok-back refused_sym found w answer e
    (λ rest er same. subst (λ x. IsSym x answer) same
    (variant-back fault_reads syms.Refused sym_answer_text SymFits (codes "no ") (λ a h. h) (λ a. refl) rest answer er))
    (λ rest er same. subst (λ x. IsSym x answer) same
    (variant-back found_reads _ sym_answer_text SymFits (codes "ok ") (λ a h. h) (λ a. refl) rest answer er))

pub sym_reads : Reads sym_answer sym_answer_text SymFits
sym_reads = record { there = sym-there; back = sym-back }
