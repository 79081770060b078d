-- The numbers of lines, one line more.
use Rattle.std.proofs.Common.{◌≡◌, ℕ, ◌+◌, ◌<◌, List, [], ◌∷◌, ◌++◌, get_or, Some, ap, sym, ◌∙◌, arith, below_more}
use Rattle.std.specs.Prelude.{slice_get}
use Rattle.std.proofs.lemmas.List.{length-append, get_or_push, get_or_append_left}
use Rattle.asm_write.specs.declared.starts.Starts.{Starts}
use Rattle.asm_statement.specs.declared.line.Line.{Line}
use Rattle.asm_layout.specs.declared.place.Place.{Place}
use Rattle.asm_layout.specs.Places.{place_at}
use Rattle.asm_object.specs.AsmBytes.Numbers.{AreNumbersTo, number_at, line_number, statement_number}

pub numbered : (lines : List Line) (starts : Starts) (n : ℕ) (line : Line) (place : Place) (x : ℕ) → slice_get lines n ≡ Some line → place ≡ place_at lines n
    → x ≡ statement_number lines starts place line.statement → x ≡ number_at lines starts n
unfolding number_at
numbered lines starts n line place x there stands is =
    is ∙ ap (λ (at : Place). line_number lines starts at (Some line)) stands ∙ ap (line_number lines starts (place_at lines n)) (sym there)

pub numbers_more : (lines : List Line) (starts : Starts) (n : ℕ) (numbers : List ℕ) (x : ℕ) → AreNumbersTo lines starts n numbers → x ≡ number_at lines starts n
    → AreNumbersTo lines starts (n + 1) (numbers ++ x ∷ [])
numbers_more lines starts n numbers x are is = record {
  all = omega (arith, length-append numbers (x ∷ []), are.all);
  each = λ k d below. each_of k d below;
}
  where
    each_of : (k d : ℕ) → k < n + 1 → get_or (numbers ++ x ∷ []) k d ≡ number_at lines starts k
    each_of k d below =
        below_more (λ (k : ℕ). get_or (numbers ++ x ∷ []) k d ≡ number_at lines starts k) n
        (λ k lt. get_or_append_left numbers (x ∷ []) d k (omega (arith, are.all)) ∙ are.each k d lt)
        (get_or_push numbers x d n are.all ∙ is) k below
