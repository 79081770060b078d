-- The words of lines, one line more.
use Rattle.std.proofs.Common.{◌≡◌, ℕ, ◌+◌, ◌<◌, ◌≤◌, List, [], ◌∷◌, ◌++◌, length, get_or, None, ◌⊎◌, inl, inr, ap, ◌∙◌, arith, below_more}
use Rattle.std.proofs.lemmas.Bool.{cases_lt}
use Rattle.std.proofs.lemmas.List.{length-append, get_or_push, get_or_append_left}
use Rattle.std.proofs.lemmas.Option.{slice_get_past}
use Rattle.asm_statement.specs.declared.line.Line.{Line}
use Rattle.asm_layout.specs.Words.{words_at}
use Rattle.asm_layout.specs.Faults.{fault_at, fault_of, HasNoFault}
use Rattle.asm_code.specs.declared.encoding.LineWords.{LineWords}
use Rattle.asm_code.specs.Encoded.{word_list}
use Rattle.asm_code.specs.Code.{AreWordsTo}

pub words_more : (lines : List Line) (n : ℕ) (words : List LineWords) (word : LineWords) → AreWordsTo lines n words → word_list word ≡ words_at lines n
    → AreWordsTo lines (n + 1) (words ++ word ∷ [])
words_more lines n words word are is = record {
  all = omega (arith, length-append words (word ∷ []), are.all);
  each = λ k d below. each_of k d below;
}
  where
    each_of : (k : ℕ) (d : LineWords) → k < n + 1 → word_list (get_or (words ++ word ∷ []) k d) ≡ words_at lines k
    each_of k d below =
        below_more (λ (k : ℕ). word_list (get_or (words ++ word ∷ []) k d) ≡ words_at lines k) n
        (λ k lt. ap word_list (get_or_append_left words (word ∷ []) d k (omega (arith, are.all))) ∙ are.each k d lt)
        (ap word_list (get_or_push words word d n are.all) ∙ is) k below

-- behind the last line there is no fault
past : (lines : List Line) (k : ℕ) → length lines ≤ k → fault_at lines k ≡ None
unfolding fault_at
past lines k over = ap (fault_of lines k) (slice_get_past lines k over)

pub no_fault : (lines : List Line) (n : ℕ) → length lines ≤ n → ((k : ℕ) → k < n → fault_at lines k ≡ None) → HasNoFault lines
no_fault lines n all before = λ k. one k (cases_lt k n)
  where
    one : (k : ℕ) → (k < n) ⊎ (n ≤ k) → fault_at lines k ≡ None
    one k (inl lt) = before k lt
    one k (inr over) = past lines k (omega arith)
