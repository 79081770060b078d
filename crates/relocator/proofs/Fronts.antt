-- What a search finds in a list with one element more, and pairs of lists.
use Rattle.std.proofs.Common.{◌≡◌, ℕ, suc, ◌+◌, ◌<◌, Bool, true, false, List, [], ◌∷◌, ◌++◌, length, get_or, map, Some, None, refl, arith, length-append}
use Rattle.std.proofs.lemmas.List.{get_or-append-add, get_or_append_left}
use Rattle.std.specs.List.{AllPairs, find, list_any}

module _ {X : Type 0} where
  pub find_miss : (p : X → Bool) (xs : List X) (x : X) → p x ≡ false → find p (xs ++ x ∷ []) ≡ find p xs
  find_miss p [] x fails = rw fails
  find_miss p (y ∷ ys) x fails = rw (find_miss p ys x fails)

  pub find_hit : (p : X → Bool) (xs : List X) (x : X) → ((k : ℕ) → k < length xs → p (get_or xs k x) ≡ false) → p x ≡ true → find p (xs ++ x ∷ []) ≡ Some x
  find_hit p [] x none passes = rw passes
  find_hit p (y ∷ ys) x none passes = rw (none 0 (omega arith)) (find_hit p ys x (λ k less. none (suc k) (omega arith)) passes)

  pub find_none : (p : X → Bool) (xs : List X) (d : X) → ((k : ℕ) → k < length xs → p (get_or xs k d) ≡ false) → find p xs ≡ None
  find_none p [] d none = refl
  find_none p (y ∷ ys) d none = rw (none 0 (omega arith)) (find_none p ys d (λ k less. none (suc k) (omega arith)))

  pub any_none : (p : X → Bool) (xs : List X) (d : X) → ((k : ℕ) → k < length xs → p (get_or xs k d) ≡ false) → list_any p xs ≡ false
  any_none p [] d none = refl
  any_none p (y ∷ ys) d none = rw (none 0 (omega arith)) (any_none p ys d (λ k less. none (suc k) (omega arith)))

  -- what holds of each two of a list holds of each two of a part
  pub pairs_left : (R : X → X → Type 0) (xs ys : List X) → AllPairs R (xs ++ ys) → AllPairs R xs
  pairs_left R xs ys all i j d less within =
      let pair = all i j d less (omega (arith, length-append xs ys)) in
      rw (get_or_append_left xs ys d i (omega arith), get_or_append_left xs ys d j within) at pair

  pub pairs_right : (R : X → X → Type 0) (xs ys : List X) → AllPairs R (xs ++ ys) → AllPairs R ys
  pairs_right R xs ys all i j d less within =
      let pair = all (length xs + i) (length xs + j) d (omega arith) (omega (arith, length-append xs ys)) in
      rw (get_or-append-add xs ys i d, get_or-append-add xs ys j d) at pair

  pub pairs_across : (R : X → X → Type 0) (xs ys : List X) → AllPairs R (xs ++ ys) → (i j : ℕ) (d : X) → i < length xs → j < length ys → R (get_or xs i d) (get_or ys j d)
  pairs_across R xs ys all i j d in_first in_second =
      let pair = all i (length xs + j) d (omega arith) (omega (arith, length-append xs ys)) in
      rw (get_or_append_left xs ys d i in_first, get_or-append-add xs ys j d) at pair

pub map_same : {X Y : Type 0} (f g : X → Y) (xs : List X) → ((x : X) → f x ≡ g x) → map f xs ≡ map g xs
map_same f g [] same = refl
map_same f g (x ∷ xs) same = rw (same x, map_same f g xs same)
