-- Lines have no fault, or one of them is the first with one.
use Rattle.std.proofs.Common.{◌≡◌, ◌⊎◌, inl, inr, ℕ, zero, suc, ◌+◌, ◌<◌, ◌≤◌, List, length, Some, None, refl, sym, ap, ◌∙◌, arith, below_more}
use Rattle.std.specs.Prelude.{Option}
use Rattle.std.proofs.lemmas.Bool.{cases_lt}
use Rattle.std.proofs.lemmas.Option.{slice_get_past}
use Rattle.ld_base.specs.declared.fault.AsmCause.{AsmCause}
use Rattle.asm_statement.specs.declared.line.Line.{Line}
use Rattle.asm_layout.specs.Faults.{fault_at, fault_of, HasNoFault, IsFirstFault}

-- some line is the first that is refused
pub record IsRefused (lines : List Line) : Type 0 where
  pub number : ℕ
  pub cause : AsmCause
  pub first : IsFirstFault lines number cause

-- none of the first so many lines is refused
abbrev pub AreClean : List Line → ℕ → Type 0
AreClean lines n = (k : ℕ) → k < n → fault_at lines k ≡ None

behind : (lines : List Line) (n : ℕ) → AreClean lines n → (fault : Option AsmCause) → fault_at lines n ≡ fault → AreClean lines (suc n) ⊎ IsRefused lines
behind lines n clean None is = inl (λ k below. below_more (λ (k : ℕ). fault_at lines k ≡ None) n clean is k (omega arith))
behind lines n clean (Some cause) is =
    inr (record { number = n + 1; cause = cause; first = record { line = n; counted = refl; fault = is; before = clean } })

among : (lines : List Line) (n : ℕ) → AreClean lines n ⊎ IsRefused lines
among lines zero = inl (λ k below. absurd (omega arith))
among lines (suc n) = further (among lines n)
  where
    further : AreClean lines n ⊎ IsRefused lines → AreClean lines (suc n) ⊎ IsRefused lines
    further (inl clean) = behind lines n clean (fault_at lines n) refl
    further (inr refused) = inr refused

-- behind the last line there is no fault
past : (lines : List Line) (k : ℕ) → length lines ≤ k → fault_at lines k ≡ None
unfolding fault_at
past lines k over = ap (fault_of lines k) (slice_get_past lines k over)

whole : (lines : List Line) → AreClean lines (length lines) → HasNoFault lines
whole lines clean = λ k. one k (cases_lt k (length lines))
  where
    one : (k : ℕ) → (k < length lines) ⊎ (length lines ≤ k) → fault_at lines k ≡ None
    one k (inl below) = clean k below
    one k (inr over) = past lines k over

pub clean_or_refused : (lines : List Line) → HasNoFault lines ⊎ IsRefused lines
clean_or_refused lines = all (among lines (length lines))
  where
    all : AreClean lines (length lines) ⊎ IsRefused lines → HasNoFault lines ⊎ IsRefused lines
    all (inl clean) = inl (whole lines clean)
    all (inr refused) = inr refused

pub never_both : (lines : List Line) (number : ℕ) (cause : AsmCause) → HasNoFault lines → IsFirstFault lines number cause → ⊥
never_both lines number cause clean first =
    let e : None ≡ Some cause = sym (clean first.line) ∙ first.fault in
    absurd cc

-- there is one first fault
not_before : (lines : List Line) (number number' : ℕ) (cause cause' : AsmCause) (p : IsFirstFault lines number cause) (q : IsFirstFault lines number' cause')
    → p.line < q.line → ⊥
not_before lines number number' cause cause' p q below =
    let e : None ≡ Some cause = sym (q.before p.line below) ∙ p.fault in
    absurd cc

one_line : (lines : List Line) (number number' : ℕ) (cause cause' : AsmCause) (p : IsFirstFault lines number cause) (q : IsFirstFault lines number' cause')
    → p.line ≡ q.line
one_line lines number number' cause cause' p q = by_order (cases_lt p.line q.line) (cases_lt q.line p.line)
  where
    by_order : (p.line < q.line) ⊎ (q.line ≤ p.line) → (q.line < p.line) ⊎ (p.line ≤ q.line) → p.line ≡ q.line
    by_order (inl below) other = absurd (not_before lines number number' cause cause' p q below)
    by_order (inr over) (inl below) = absurd (not_before lines number' number cause' cause q p below)
    by_order (inr over) (inr under) = omega arith

pub one_first : (lines : List Line) (number number' : ℕ) (cause cause' : AsmCause) → IsFirstFault lines number cause → IsFirstFault lines number' cause'
    → (number ≡ number') × (cause ≡ cause')
one_first lines number number' cause cause' p q =
    let same : p.line ≡ q.line = one_line lines number number' cause cause' p q in
    let e : Some cause ≡ Some cause' = sym p.fault ∙ ap (fault_at lines) same ∙ q.fault in
    (p.counted ∙ ap (λ (k : ℕ). k + 1) same ∙ sym q.counted, cc)
