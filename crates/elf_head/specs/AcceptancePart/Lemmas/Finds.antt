-- A search gives the first number of which something holds, or none where it holds of none.
use Rattle.std.proofs.Common.{◌≡◌, ◌↔◌, ◌⊎◌, ap, sym, subst, refl, ℕ, zero, suc, ◌+◌, ◌<◌, Bool, true, false, ◌||◌, List, [], ◌∷◌, length, Option, Some, None, arith, inl, inr}
use Rattle.std.specs.Prelude.{option_map, position, if◌then◌else◌}
use Rattle.std.specs.Bool.{Decides}
use Rattle.std.specs.List.{list_any, position_or_len, slice_get}
use Rattle.std.specs.Option.{option_or}
use Rattle.std.proofs.lemmas.Bool.{cases_Bool, cases_lt, lt-ltb, le-ltb}
use Rattle.std.proofs.lemmas.Bool.Decides.{Decides-like, Decides-or}
use Rattle.elf_head.specs.AcceptancePart.First.{IsFirst}

abbrev pub Finds : (ℕ → Type 0) → Option ℕ → Type 0
Finds Bad None = (k : ℕ) → Bad k → ⊥
Finds Bad (Some k) = IsFirst Bad k

pub same_some : {X : Type 0} {x y : X} → Some x ≡ Some y → x ≡ y
same_some e = cc

-- two that are first are one
pub one_first : (Bad : ℕ → Type 0) (j k : ℕ) → IsFirst Bad j → IsFirst Bad k → j ≡ k
one_first Bad j k f g =
    elim (cases_lt j k) [
      | inl below ↦ absurd (g.before j below f.bad)
      | inr above ↦ elim (cases_lt k j) [ inl below ↦ absurd (f.before k below g.bad) | inr same ↦ omega arith ]
    ]

pub finds_is : (Bad : ℕ → Type 0) (o : Option ℕ) (k : ℕ) → Finds Bad o → (o ≡ Some k) ↔ IsFirst Bad k
finds_is Bad None k none = (λ e. absurd cc, λ first. absurd (none k first.bad))
finds_is Bad (Some j) k f = (λ e. subst (IsFirst Bad) (same_some e) f, λ first. ap Some (one_first Bad j k f first))

pub finds_like : (A B : ℕ → Type 0) → ((k : ℕ) → A k → B k) → ((k : ℕ) → B k → A k) → (o : Option ℕ) → Finds A o → Finds B o
finds_like A B to from None none = λ k b. none k (from k b)
finds_like A B to from (Some k) f = record { bad = to k f.bad; before = λ j below b. f.before j below (from j b) }

-- where nothing is bad, nothing is found
pub finds_none : (Bad : ℕ → Type 0) (o : Option ℕ) → Finds Bad o → ((k : ℕ) → Bad k → ⊥) → o ≡ None
finds_none Bad None f none = refl
finds_none Bad (Some k) f none = absurd (none k f.bad)

-- where nothing is first, nothing is
pub never : (Bad : ℕ → Type 0) → ((k : ℕ) → IsFirst Bad k → ⊥) → (k : ℕ) → Bad k → ⊥
never Bad none k bad = below (suc k) k (omega arith) bad
  where
    below : (n j : ℕ) → j < n → Bad j → ⊥
    below zero j less bad = absurd (omega arith)
    below (suc n) j less bad = none j (record { bad = bad; before = λ i under. below n i (omega arith) })

-- the first of a list, or one of the rest
pub finds_cons : (Bad : ℕ → Type 0) (here : Bool) (o : Option ℕ) → Decides here (Bad 0) → Finds (λ k. Bad (suc k)) o → Finds Bad (if here then Some 0 else option_map suc o)
finds_cons Bad true o d f = record { bad = d.0 refl; before = λ j below bad. absurd (omega arith) }
finds_cons Bad false None d f = none
  where
    none : (k : ℕ) → Bad k → ⊥
    none zero bad = absurd (let e = d.1 bad in cc)
    none (suc k) bad = f k bad
finds_cons Bad false (Some k) d f = record { bad = f.bad; before = before }
  where
    before : (j : ℕ) → j < suc k → Bad j → ⊥
    before zero below bad = absurd (let e = d.1 bad in cc)
    before (suc j) below bad = f.before j (omega arith) bad

-- what is found among n, or else after them
pub finds_append : (n : ℕ) (A B : ℕ → Type 0) (o p : Option ℕ) → ((i : ℕ) → A i → i < n) → Finds A o → Finds B p
    → Finds (λ k. A k ⊎ ((i : ℕ) × (k ≡ n + i) × B i)) (option_or o (option_map (λ i. n + i) p))
finds_append n A B (Some k) p within f g =
    let here = within k f.bad in
    record { bad = inl f.bad; before = λ j below bad. elim bad [ inl a ↦ f.before j below a | inr (i, e, b) ↦ omega arith ] }
finds_append n A B None None within f g = λ k bad. elim bad [ inl a ↦ f k a | inr (i, e, b) ↦ g i b ]
finds_append n A B None (Some k) within f g = record {
  bad = inr (k, refl, g.bad);
  before = λ j below bad. elim bad [ inl a ↦ f j a | inr (i, e, b) ↦ g.before i (omega arith) b ];
}

-- ---- elements of a list by their indexes

module _ {X : Type 0} (p : X → Bool) (P : X → Type 0) (each : (x : X) → Decides (p x) (P x)) where
  abbrev pub At : List X → ℕ → Type 0
  At xs k = (x : X) × (slice_get xs k ≡ Some x) × P x

  abbrev pub SomeAt : List X → Type 0
  SomeAt xs = (k : ℕ) × (x : X) × (slice_get xs k ≡ Some x) × P x

  -- some element
  pub any_at : (xs : List X) → Decides (list_any p xs) (SomeAt xs)
  any_at [] = (λ e. absurd cc, λ (k, x, e, h). absurd cc)
  any_at (x ∷ xs) = Decides-like (p x || list_any p xs) to from (Decides-or (p x) (list_any p xs) (each x) (any_at xs))
    where
      to : P x ⊎ SomeAt xs → SomeAt (x ∷ xs)
      to (inl h) = (0, x, refl, h)
      to (inr (k, y, e, h)) = (suc k, y, e, h)

      from : SomeAt (x ∷ xs) → P x ⊎ SomeAt xs
      from (zero, y, e, h) = inl (subst P (sym (same_some e)) h)
      from (suc k, y, e, h) = inr (k, y, e, h)

  position-cons : (x : X) (xs : List X) → position p (x ∷ xs) ≡ (if p x then Some 0 else option_map suc (position p xs))
  position-cons x xs =
      let n = position_or_len p xs in
      let one : 1 + n ≡ suc n = omega arith in
      elim (cases_Bool (p x)) [
        | inl holds ↦ rw (holds, lt-ltb 0 (suc (length xs)) (omega arith)) refl
        | inr fails ↦ elim (cases_lt n (length xs)) [
          | inl lt ↦ rw (fails, one, lt-ltb (suc n) (suc (length xs)) (omega arith), lt-ltb n (length xs) lt) refl
          | inr le ↦ rw (fails, one, le-ltb (suc n) (suc (length xs)) (omega arith), le-ltb n (length xs) le) refl
        ]
      ]

  -- the first element
  pub finds_position : (xs : List X) → Finds (At xs) (position p xs)
  finds_position [] = λ k (x, e, h). absurd cc
  finds_position (x ∷ xs) = rw position-cons (finds_cons (At (x ∷ xs)) (p x) (position p xs) here (finds_position xs))
    where
      here : Decides (p x) (At (x ∷ xs) 0)
      here = Decides-like (p x) (λ h. (x, refl, h)) (λ (y, e, h). subst P (sym (same_some e)) h) (each x)
