-- Elements that are changed in place, one after another.
use Rattle.std.proofs.Common.{◌≡◌, ℕ, zero, suc, ◌+◌, ◌<◌, List, [], ◌∷◌, ◌++◌, map, take, drop, length, get_or, ap, subst, ◌∙◌, arith}
use Rattle.std.proofs.Math.ListN.{set}

module _ {X : Type 0} (f : X → X) where
  one_more : (ys : List X) (i : ℕ) (y d : X) → i < length ys → y ≡ f (get_or (map f (take i ys) ++ drop i ys) i d)
      → set (map f (take i ys) ++ drop i ys) i y ≡ map f (take (suc i) ys) ++ drop (suc i) ys
  one_more [] i y d lt is = absurd (omega (arith, lt))
  one_more (z ∷ ys) zero y d lt is = ap (λ (x : X). x ∷ ys) is
  one_more (z ∷ ys) (suc i) y d lt is = ap (λ (rest : List X). f z ∷ rest) (one_more ys i y d (omega (arith, lt)) is)

  -- the element behind those that are changed is changed
  pub changed_more : (ys xs : List X) (i : ℕ) (y d : X) → i < length ys → xs ≡ map f (take i ys) ++ drop i ys → y ≡ f (get_or xs i d)
      → set xs i y ≡ map f (take (i + 1) ys) ++ drop (i + 1) ys
  changed_more ys xs i y d lt so_far is =
      let next : suc i ≡ i + 1 = omega arith in
      subst (λ n. set xs i y ≡ map f (take n ys) ++ drop n ys) next
      (ap (λ (zs : List X). set zs i y) so_far ∙ one_more ys i y d lt (is ∙ ap (λ (zs : List X). f (get_or zs i d)) so_far))
