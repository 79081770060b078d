-- The first of a list that is bad.
use Rattle.std.proofs.Common.{◌≡◌, ℕ, ◌+◌, Bool, true, ◌||◌, List, [], ◌∷◌, ◌++◌, length, map, take, append_assoc, append-nil, refl, arith, inl, inr}
use Rattle.std.specs.Prelude.{Decides, Some, option_map}
use Rattle.std.specs.List.{list_any, slice_get}
use Rattle.std.specs.Option.{option_or}
use Rattle.std.proofs.lemmas.Bool.{cases_Bool}
use Rattle.ld_base.specs.declared.object.Span.{Span}
use Rattle.elf_head.specs.AcceptancePart.Lemmas.Finds.{finds_cons, finds_like, same_some, Finds}
use Rattle.elf_dynamic.specs.Again.{first_again}
use Rattle.elf_dynamic.specs.Memory.{overlaps}

module _ {X : Type 0} (bad : X → Bool) (range : X → Span) where
  -- the element of this index is bad by itself, or has a byte of these ranges or of one before it
  abbrev pub Again : List Span → List X → ℕ → Type 0
  Again ranges xs k = (x : X) × (slice_get xs k ≡ Some x) × ((bad x || list_any (overlaps (range x)) (ranges ++ map range (take k xs))) ≡ true)

  pub again_finds : (ranges : List Span) (xs : List X) → Finds (Again ranges xs) (first_again bad range ranges xs)
  again_finds ranges [] = λ k (x, is, h). absurd cc
  again_finds ranges (x ∷ xs) =
      finds_cons (Again ranges (x ∷ xs)) _ _ here
      (finds_like (Again (ranges ++ range x ∷ []) xs) _ (λ k (y, is, fails). (y, is, rw append_assoc at fails))
      (λ k (y, is, fails). (y, is, rw append_assoc fails)) _
      (again_finds (ranges ++ range x ∷ []) xs))
    where
      here : Decides (bad x || list_any (overlaps (range x)) ranges) (Again ranges (x ∷ xs) 0)
      here = (λ fails. (x, refl, rw append-nil fails), λ (y, e, fails). rw (append-nil, ← same_some e) at fails)

  -- the first of two lists, one after the other
  pub again_append : (ranges : List Span) (xs ys : List X) → first_again bad range ranges (xs ++ ys)
      ≡ option_or (first_again bad range ranges xs) (option_map (λ k. length xs + k) (first_again bad range (ranges ++ map range xs) ys))
  again_append ranges [] ys = rw append-nil (grind arith)
  again_append ranges (x ∷ xs) ys =
      elim (cases_Bool (bad x || list_any (overlaps (range x)) ranges)) [
        | inl fails ↦ rw fails refl
        | inr passes ↦ rw (passes, again_append (ranges ++ range x ∷ []) xs ys, append_assoc) (grind arith)
      ]
