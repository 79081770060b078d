-- Each element of a list, where it stands first.
use Rattle.std.proofs.Common.{◌≡◌, ℕ, ◌+◌, ◌<◌, ◌≤◌, ◌⊎◌, inl, inr, ⊎_elim, Bool, true, false, ◌||◌, cond, eqb, List, [], ◌∷◌, ◌++◌, length, get_or, take, Some, refl, sym, ap, subst, ◌∙◌, arith, length-append}
use Rattle.std.specs.List.{Contains, list_any, slice_get}
use Rattle.std.proofs.lemmas.Bool.{cases_eq, cases_lt, eq-eqb, ne_eqb}
use Rattle.std.proofs.lemmas.List.{get_or_append_left, get_or_push, get_or-take, length-take-le, take_at, take_more, take-append-le}
use Rattle.std.proofs.lemmas.List.Elements.{Contains-append_left, Contains-get_or, Contains-push, Contains-push_cases}
use Rattle.std.proofs.lemmas.List.Quantifiers.{all_pairs_push}
use Rattle.std.proofs.lemmas.Option.{get_or_from_slice_get, slice_get-get_or, slice_get_within}
use Rattle.init_order.specs.Jobs.{AreFirstsTo}

-- an element of a list with one more stands before it, or is it
pub slice_get-push : (xs : List ℕ) (y k x : ℕ) → slice_get (xs ++ y ∷ []) k ≡ Some x → (slice_get xs k ≡ Some x) ⊎ ((k ≡ length xs) × (y ≡ x))
slice_get-push xs y k x at = ⊎_elim
    (λ (low : k < length xs). inl (slice_get-get_or xs k x low ∙ ap (λ (z : ℕ). Some z) (sym (get_or_append_left xs (y ∷ []) x k low) ∙ is)))
    (λ (high : length xs ≤ k).
    let inside : k < length (xs ++ y ∷ []) = within in
    let e : k ≡ length xs = omega (arith, length-append xs (y ∷ [])) in
    inr (e, sym (get_or_push xs y x k (sym e)) ∙ is))
    (cases_lt k (length xs))
  where
    within : k < length (xs ++ y ∷ [])
    within = slice_get_within (xs ++ y ∷ []) k x at

    is : get_or (xs ++ y ∷ []) k x ≡ x
    is = get_or_from_slice_get (xs ++ y ∷ []) k x x at

-- what stands before a place is among those before it
before_taken : (xs : List ℕ) (i k e : ℕ) → i < length xs → k < i → slice_get xs k ≡ Some e → Contains (take i xs) e
before_taken xs i k e within low at =
    (k, omega (arith, length-take-le i xs (omega arith)), get_or-take i xs k e low ∙ get_or_from_slice_get xs k e e at)

module _ (xs : List ℕ) (i : ℕ) (line : List ℕ) (x : ℕ) (within : i < length xs) (here : x ≡ get_or xs i x) (so_far : AreFirstsTo xs i line) where
  more : take (i + 1) xs ≡ take i xs ++ x ∷ []
  more = take_more xs i x within ∙ ap (λ (y : ℕ). take i xs ++ y ∷ []) (sym here)

  pub firsts_passed : Contains line x → AreFirstsTo xs (i + 1) line
  firsts_passed there = record {
    apart = so_far.apart;
    each = λ d h. ⊎_elim
        (λ (before : Contains (take i xs) d). so_far.each d before)
        (λ (same : x ≡ d). subst (Contains line) same there)
        (Contains-push_cases (take i xs) x d (subst (λ (ys : List ℕ). Contains ys d) more h));
    stands = so_far.stands;
  }

  pub firsts_pushed : (Contains line x → ⊥) → AreFirstsTo xs (i + 1) (line ++ x ∷ [])
  firsts_pushed new = record {
    apart = all_pairs_push (λ a b. a ≡ b → ⊥) line x so_far.apart (λ k d low same. new (subst (Contains line) same (Contains-get_or line k d low)));
    each = λ d h. ⊎_elim
        (λ (before : Contains (take i xs) d). Contains-append_left line (x ∷ []) d (so_far.each d before))
        (λ (same : x ≡ d). subst (Contains (line ++ x ∷ [])) same (Contains-push line x))
        (Contains-push_cases (take i xs) x d (subst (λ (ys : List ℕ). Contains ys d) more h));
    stands = λ k o at. ⊎_elim
        (λ (before : slice_get line k ≡ Some o).
        let first = so_far.stands k o before in
        let low = slice_get_within line k o before in (
          first.0,
          first.1,
          λ earlier e less there.
              subst (λ (ys : List ℕ). Contains ys e) (sym (take-append-le k line (x ∷ []) (omega arith))) (first.2 earlier e less there),
        ))
        (λ (last : (k ≡ length line) × (x ≡ o)). (
          i,
          slice_get-get_or xs i x within ∙ ap (λ (z : ℕ). Some z) (sym here ∙ last.1),
          λ earlier e less there.
              subst (λ (ys : List ℕ). Contains ys e) (sym (take_at line (x ∷ []) k (sym last.0))) (so_far.each e (before_taken xs i earlier e within less there)),
        ))
        (slice_get-push line x k o at);
  }

pub is_in_push : (xs : List ℕ) (x q : ℕ) → list_any (eqb q) (xs ++ x ∷ []) ≡ cond (eqb x q) true (list_any (eqb q) xs)
is_in_push [] x q = ⊎_elim
    (λ (same : x ≡ q). rw (eq-eqb x q same, eq-eqb q x (sym same)) refl)
    (λ (apart : x ≡ q → ⊥). rw (ne_eqb x q apart, ne_eqb q x (λ (e : q ≡ x). apart (sym e))) refl)
    (cases_eq x q)
is_in_push (y ∷ ys) x q = ap (λ (b : Bool). eqb q y || b) (is_in_push ys x q) ∙ over (eqb q y) (eqb x q) (list_any (eqb q) ys)
  where
    over : (a b c : Bool) → (a || cond b true c) ≡ cond b true (a || c)
    over true true c = refl
    over true false c = refl
    over false true c = refl
    over false false c = refl
