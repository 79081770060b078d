-- Queues of functions.
use Rattle.std.proofs.Common.{◌≡◌, ℕ, zero, suc, ◌+◌, List, [], ◌∷◌, ◌++◌, drop, length, map, min, take, refl, sym, ap, ◌∙◌, arith, add-one}
use native.Mathlib.Numerals.{unary_clauses}
use Rattle.std.proofs.Math.Nat.{min-zero}
use Rattle.std.proofs.Math.Seq.{drop-nil}
use Rattle.std.proofs.lemmas.List.{drop-drop}
use Rattle.history_event.specs.declared.handed.Function.{Function}
use Rattle.history_calls.specs.Functions.{left, object_of, passed}
use Rattle.hart_seat.specs.HartParts.Queues.{without_first}

-- so many objects in front have no functions
pub record PassedSo (functions : List Function) (k : ℕ) : Type 0 where
  pub passed : map object_of (take k functions) ++ passed (drop k functions) ≡ passed functions
  pub left : left (drop k functions) ≡ left functions

-- of the first object no function was entered
untouched : (functions : List Function) → without_first 0 functions ≡ functions
untouched [] = refl
untouched (f ∷ rest) = refl

-- the first object passes, however many of its functions were entered
passes : (behind entered : ℕ) (functions : List Function) → drop (behind + 1) (without_first entered functions) ≡ drop (behind + 1) functions
passes behind entered [] = refl
passes behind entered (f ∷ rest) = rw add-one refl

-- no more are dropped than there are
drop_all : (n : ℕ) (functions : List Function) → drop (min (length functions) n) functions ≡ drop n functions
drop_all zero functions = rw min-zero refl
drop_all (suc n) [] = drop-nil (min 0 (suc n))
drop_all (suc n) (f ∷ rest) = simp unary_clauses (drop_all n rest)

pub passes_more : (passed behind entered places : ℕ) (functions : List Function) → places ≡ min (length functions) (passed + behind + 1)
    → without_first 0 (drop places functions) ≡ drop (behind + 1) (without_first entered (drop passed functions))
passes_more passed behind entered places functions is =
    untouched (drop places functions) ∙ ap (λ (k : ℕ). drop k functions) is ∙ drop_all (passed + behind + 1) functions
    ∙ ap (λ (k : ℕ). drop k functions) (let same : passed + behind + 1 ≡ passed + (behind + 1) = omega arith in same)
    ∙ sym (drop-drop (behind + 1) passed functions) ∙ sym (passes behind entered (drop passed functions))
