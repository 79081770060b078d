-- Elements of lists that were made of others.
use Rattle.std.proofs.Common.{◌≡◌, ◌∙◌, ap, sym, refl, ℕ, zero, suc, ◌<◌, ◌||◌, Bool, true, false, List, [], ◌∷◌, map, take, get_or, Some, arith, inl, inr}
use Rattle.std.specs.Prelude.{filter, find}
use Rattle.std.specs.List.{list_any, slice_get, All, AllPairs}
use Rattle.std.proofs.lemmas.Bool.{cases_Bool}
use Rattle.std.proofs.lemmas.Option.{slice_get-get_or}

pub same_some : {X : Type 0} {x y : X} → Some x ≡ Some y → x ≡ y
same_some e = cc

module _ {X : Type 0} where
  -- what is said of each element, or of each two, by their indexes
  pub all_of : (P : X → Type 0) (xs : List X) → ((k : ℕ) (x : X) → slice_get xs k ≡ Some x → P x) → All P xs
  all_of P xs each k d within = each k (get_or xs k d) (slice_get-get_or xs k d within)

  pub pairs_of : (R : X → X → Type 0) (xs : List X) → ((i j : ℕ) (x y : X) → i < j → slice_get xs i ≡ Some x → slice_get xs j ≡ Some y → R x y) → AllPairs R xs
  pairs_of R xs each i j d below within = each i j (get_or xs i d) (get_or xs j d) below (slice_get-get_or xs i d (omega arith)) (slice_get-get_or xs j d within)

  -- an element of a map
  pub get_map : {Y : Type 0} (f : X → Y) (xs : List X) (k : ℕ) (y : Y) → slice_get (map f xs) k ≡ Some y → (x : X) × (slice_get xs k ≡ Some x) × (f x ≡ y)
  get_map f [] k y e = absurd cc
  get_map f (x ∷ xs) zero y e = (x, refl, same_some e)
  get_map f (x ∷ xs) (suc k) y e = get_map f xs k y e

  pub map_get : {Y : Type 0} (f : X → Y) (xs : List X) (k : ℕ) (x : X) → slice_get xs k ≡ Some x → slice_get (map f xs) k ≡ Some (f x)
  map_get f [] k x e = absurd cc
  map_get f (y ∷ xs) zero x e = ap (λ z. Some (f z)) (same_some e)
  map_get f (y ∷ xs) (suc k) x e = map_get f xs k x e

  -- an element of those that pass
  module _ (p : X → Bool) where
    abbrev pub Passing : List X → X → Type 0
    Passing xs x = (k : ℕ) × (slice_get xs k ≡ Some x) × (p x ≡ true)

    later : (y : X) (xs : List X) (x : X) → Passing xs x → Passing (y ∷ xs) x
    later y xs x (k, is, holds) = (suc k, is, holds)

    here_or : (y : X) (xs : List X) (x : X) → p y ≡ true → ((k : ℕ) → slice_get (filter p xs) k ≡ Some x → Passing xs x) → (k : ℕ) → slice_get (y ∷ filter p xs) k ≡ Some x → Passing (y ∷ xs) x
    here_or y xs x holds rest zero e = (0, e, ap p (sym (same_some e)) ∙ holds)
    here_or y xs x holds rest (suc k) e = later y xs x (rest k e)

    pub get_filter : (xs : List X) (x : X) (k : ℕ) → slice_get (filter p xs) k ≡ Some x → Passing xs x
    get_filter [] x k e = absurd cc
    get_filter (y ∷ xs) x k e = elim (cases_Bool (p y)) [ inl holds ↦ here_or y xs x holds (get_filter xs x) k (rw holds at e) | inr fails ↦ later y xs x (get_filter xs x k (rw fails at e)) ]

    pub find_get : (xs : List X) (x : X) → find p xs ≡ Some x → Passing xs x
    find_get [] x e = absurd cc
    find_get (y ∷ xs) x e =
        elim (cases_Bool (p y)) [
          | inl holds ↦ (let same : y ≡ x = same_some (rw holds at e) in (0, ap Some same, ap p (sym same) ∙ holds))
          | inr fails ↦ later y xs x (find_get xs x (rw fails at e))
        ]

    pub filter_get : (xs : List X) (x : X) (k : ℕ) → slice_get xs k ≡ Some x → p x ≡ true → (i : ℕ) × (slice_get (filter p xs) i ≡ Some x)
    filter_get [] x k e holds = absurd cc
    filter_get (y ∷ xs) x zero e holds = let own : p y ≡ true = ap p (same_some e) ∙ holds in (0, rw own e)
    filter_get (y ∷ xs) x (suc k) e holds =
        let (i, is) = filter_get xs x k e holds in
        elim (cases_Bool (p y)) [ inl also ↦ (suc i, rw also is) | inr fails ↦ (i, rw fails is) ]

    -- two of them, in their order
    abbrev pub TwoPassing : List X → X → X → Type 0
    TwoPassing xs x y = (h : ℕ) × (k : ℕ) × (h < k) × (slice_get xs h ≡ Some x) × (slice_get xs k ≡ Some y) × (p x ≡ true) × (p y ≡ true)

    both_later : (z : X) (xs : List X) (x y : X) → TwoPassing xs x y → TwoPassing (z ∷ xs) x y
    both_later z xs x y (h, k, below, is, at, one, two) = (suc h, suc k, omega arith, is, at, one, two)

    first_or : (z : X) (xs : List X) (x y : X) → p z ≡ true → ((i j : ℕ) → i < j → slice_get (filter p xs) i ≡ Some x → slice_get (filter p xs) j ≡ Some y → TwoPassing xs x y)
        → (i j : ℕ) → i < j → slice_get (z ∷ filter p xs) i ≡ Some x → slice_get (z ∷ filter p xs) j ≡ Some y → TwoPassing (z ∷ xs) x y
    first_or z xs x y holds rest i zero below e f = absurd (omega arith)
    first_or z xs x y holds rest zero (suc j) below e f = let (k, at, two) = get_filter xs y j f in (0, suc k, omega arith, e, at, ap p (sym (same_some e)) ∙ holds, two)
    first_or z xs x y holds rest (suc i) (suc j) below e f = both_later z xs x y (rest i j (omega arith) e f)

    pub pair_filter : (xs : List X) (x y : X) (i j : ℕ) → i < j → slice_get (filter p xs) i ≡ Some x → slice_get (filter p xs) j ≡ Some y → TwoPassing xs x y
    pair_filter [] x y i j below e f = absurd cc
    pair_filter (z ∷ xs) x y i j below e f =
        elim (cases_Bool (p z)) [
          | inl holds ↦ first_or z xs x y holds (pair_filter xs x y) i j below (rw holds at e) (rw holds at f)
          | inr fails ↦ both_later z xs x y (pair_filter xs x y i j below (rw fails at e) (rw fails at f))
        ]

    pub any_get : (xs : List X) → list_any p xs ≡ true → (x : X) × Passing xs x
    any_get [] e = absurd cc
    any_get (y ∷ xs) e =
        elim (cases_Bool (p y)) [
          | inl holds ↦ (y, (0, refl, holds))
          | inr fails ↦ let (x, (k, is, own)) = any_get xs (rw fails at e) in (x, (suc k, is, own))
        ]

    pub any_of : (xs : List X) (x : X) (k : ℕ) → slice_get xs k ≡ Some x → p x ≡ true → list_any p xs ≡ true
    any_of [] x k e holds = absurd cc
    any_of (y ∷ xs) x zero e holds = let own : p y ≡ true = ap p (same_some e) ∙ holds in rw own refl
    any_of (y ∷ xs) x (suc k) e holds = rw (any_of xs x k e holds) (or_right (p y))
      where
        or_right : (b : Bool) → (b || true) ≡ true
        or_right true = refl
        or_right false = refl

    pub take_get : (n k : ℕ) (xs : List X) (x : X) → k < n → slice_get xs k ≡ Some x → slice_get (take n xs) k ≡ Some x
    take_get zero k xs x below e = absurd (omega arith)
    take_get (suc n) k [] x below e = absurd cc
    take_get (suc n) zero (y ∷ xs) x below e = e
    take_get (suc n) (suc k) (y ∷ xs) x below e = take_get n k xs x (omega arith) e
