-- The first element of a list that passes a test, and whether one does.
use Rattle.std.proofs.Common.{◌≡◌, ℕ, zero, suc, ◌+◌, ◌<◌, ◌≤◌, Bool, true, false, not, ◌||◌, List, [], ◌∷◌, ◌++◌}
use Rattle.std.proofs.Common.{length, get_or, take, Some, None, cond, refl, sym, ap, ◌∙◌, arith}
use Rattle.std.specs.Prelude.{position, nat_lt}
use Rattle.std.specs.List.{list_any, position_or_len}
use Rattle.std.specs.Option.{option_or, is_some}
use Rattle.std.proofs.Math.Bool.{or-false}
use Rattle.std.proofs.lemmas.Bool.Decides.{nat_tests}
use Rattle.std.proofs.lemmas.Grind.{common_steps}
use Rattle.std.proofs.lemmas.List.{length-append, length-take-le, take_all, take_more}
use Rattle.std.proofs.lemmas.List.Folds.{list_any-append, position_or_len_push}
use Rattle.std.proofs.lemmas.List.Sums.{prefix_len-le-length}

-- the first that passes, one element more
pub one_more : {X : Type 0} (p : X → Bool) (xs : List X) (x : X)
    → position p (xs ++ x ∷ []) ≡ option_or (position p xs) (cond (p x) (Some (length xs)) None)
one_more p xs x =
    let within : position_or_len p xs ≤ length xs = prefix_len-le-length (λ y. not (p y)) xs in
    rw (position_or_len_push p xs x) (grind (arith, common_steps, length-append xs (x ∷ [])))

-- the element behind the first n
pub one_further : {X : Type 0} (p : X → Bool) (xs : List X) (n : ℕ) (x : X) → n < length xs → x ≡ get_or xs n x
    → position p (take (n + 1) xs) ≡ option_or (position p (take n xs)) (cond (p x) (Some n) None)
one_further {X} p xs n x lt is =
    let all : length (take n xs) ≡ n = length-take-le n xs (omega arith) in
    let further : take (n + 1) xs ≡ take n xs ++ x ∷ [] = take_more xs n x lt ∙ ap (λ (y : X). take n xs ++ y ∷ []) (sym is) in
    ap (λ (ys : List X). position p ys) further ∙ one_more p (take n xs) x
    ∙ ap (λ (m : ℕ). option_or (position p (take n xs)) (cond (p x) (Some m) None)) all

-- whether one of the first elements passes: the first that does is one of them
pub any_before : {X : Type 0} (p : X → Bool) (xs : List X) (k : ℕ) → k ≤ length xs → list_any p (take k xs) ≡ nat_lt (position_or_len p xs) k
any_before p xs zero within = grind (arith, common_steps)
any_before p [] (suc k) within = absurd (omega arith)
any_before p (x ∷ xs) (suc k) within =
    let P : Bool → Type 0 = λ passes. (passes || list_any p (take k xs)) ≡ nat_lt (cond (not passes) (1 + position_or_len p xs) 0) (suc k) in
    let rest : list_any p (take k xs) ≡ nat_lt (position_or_len p xs) k = any_before p xs k (omega arith) in
    let cases : (passes : Bool) → P passes = λ passes. elim passes as P [
      | true ↦ sym (below_any k)
      | false ↦ rest ∙ further (position_or_len p xs) k
    ] in
    cases (p x)
  where
    further : (a b : ℕ) → nat_lt a b ≡ nat_lt (1 + a) (suc b)
    further a b = grind (arith, nat_tests)

    below_any : (k : ℕ) → nat_lt 0 (suc k) ≡ true
    below_any k = grind (arith, nat_tests)

-- whether one of the elements passes, one more
pub any_further : {X : Type 0} (p : X → Bool) (xs : List X) (n : ℕ) (x : X) → n < length xs → x ≡ get_or xs n x
    → list_any p (take (n + 1) xs) ≡ (list_any p (take n xs) || p x)
any_further {X} p xs n x lt is =
    let further : take (n + 1) xs ≡ take n xs ++ x ∷ [] = take_more xs n x lt ∙ ap (λ (y : X). take n xs ++ y ∷ []) (sym is) in
    ap (list_any p) further ∙ list_any-append p (take n xs) (x ∷ []) ∙ ap (λ (b : Bool). list_any p (take n xs) || b) (or-false (p x))

-- one passes where there is a first that does
pub any_found : {X : Type 0} (p : X → Bool) (xs : List X) → is_some (position p xs) ≡ list_any p xs
any_found p xs =
    let first = position_or_len p xs in
    let all : list_any p (take (length xs) xs) ≡ nat_lt first (length xs) = any_before p xs (length xs) (omega arith) in
    let P : Bool → Type 0 = λ there. is_some (cond there (Some first) None) ≡ there in
    let cases : (there : Bool) → P there = λ there. elim there as P [ true ↦ refl | false ↦ refl ] in
    cases (nat_lt first (length xs)) ∙ sym all ∙ ap (list_any p) (take_all (length xs) xs (omega arith))

-- the first that passes is one of them
pub position_below : {X : Type 0} (p : X → Bool) (xs : List X) (k : ℕ) → Some k ≡ position p xs → k < length xs
position_below p xs k is =
    let first = position_or_len p xs in
    let n = length xs in
    let P : Bool → Type 0 = λ there. nat_lt first n ≡ there → Some k ≡ cond there (Some first) None → k < n in
    let cases : (there : Bool) → P there = λ there. elim there as P [
      | true ↦ λ e h. let same : k ≡ first = cc in below k first n same e
      | false ↦ λ e h. absurd (cc h)
    ] in
    cases (nat_lt first n) refl is
  where
    below : (k first n : ℕ) → k ≡ first → nat_lt first n ≡ true → k < n
    below k first n same e = grind (arith, nat_tests)
