-- What is an element of a list that was mapped, flattened, filtered or looked through.
use Rattle.std.proofs.Common.{◌≡◌, ◌⊎◌, inl, inr, ⊎_elim, ℕ, zero, suc, ◌<◌, Bool, true, false, ◌||◌, cond, eqb, List, [], ◌∷◌, map, reverse, length, get_or, Some, None, refl, sym, ap, subst, ◌∙◌, arith}
use Rattle.std.specs.List.{Contains, filter, find, flat_map, list_any, slice_get}
use Rattle.std.proofs.lemmas.Bool.{cases_Bool, eqb-true, eq-eqb, true≢false, or_left, or_right}
use Rattle.std.proofs.Math.Bool.{or-false, or_comm}
use Rattle.std.proofs.lemmas.Grind.{reverse_onto}
use Rattle.std.proofs.lemmas.List.Folds.{list_any-append}
use Rattle.std.proofs.lemmas.List.Elements.{Contains-append_left, Contains-append_right, Contains-append_cases}

-- ---- elements

pub here : {X : Type 0} (x : X) (xs : List X) → Contains (x ∷ xs) x
here x xs = (0, omega arith, refl)

pub later : {X : Type 0} (y : X) (xs : List X) (x : X) → Contains xs x → Contains (y ∷ xs) x
later y xs x h = Contains-append_right (y ∷ []) xs x h

pub first_or_later : {X : Type 0} (y : X) (xs : List X) (x : X) → Contains (y ∷ xs) x → (y ≡ x) ⊎ Contains xs x
first_or_later {X} y xs x h = at h.0 h.1 h.2
  where
    at : (k : ℕ) → k < length (y ∷ xs) → get_or (y ∷ xs) k x ≡ x → (y ≡ x) ⊎ Contains xs x
    at zero lt e = inl e
    at (suc k) lt e = inr (k, omega arith, e)

pub none_in : {X : Type 0} (x : X) → Contains [] x → ⊥
none_in x h = omega (arith, h.1)

pub only_in : {X : Type 0} (y x : X) → Contains (y ∷ []) x → y ≡ x
only_in {X} y x h = ⊎_elim (λ (e : y ≡ x). e) (λ (n : Contains [] x). absurd (none_in x n)) (first_or_later y [] x h)

pub at_in : {X : Type 0} (xs : List X) (k : ℕ) (x : X) → slice_get xs k ≡ Some x → Contains xs x
at_in {X} [] k x e = absurd (let d : None ≡ Some x = e in cc)
at_in {X} (y ∷ xs) zero x e = let same : y ≡ x = cc in subst (λ z. Contains (y ∷ xs) z) same (here y xs)
at_in (y ∷ xs) (suc k) x e = later y xs x (at_in xs k x e)

-- ---- mapped

pub in_map : {X Y : Type 0} (f : X → Y) (xs : List X) (x : X) → Contains xs x → Contains (map f xs) (f x)
in_map f [] x h = absurd (none_in x h)
in_map {X} f (y ∷ xs) x h = ⊎_elim
    (λ (e : y ≡ x). subst (λ z. Contains (f y ∷ map f xs) (f z)) e (here (f y) (map f xs)))
    (λ (h' : Contains xs x). later (f y) (map f xs) (f x) (in_map f xs x h'))
    (first_or_later y xs x h)

pub from_map : {X Y : Type 0} (f : X → Y) (xs : List X) (y : Y) → Contains (map f xs) y → (x : X) × Contains xs x × (f x ≡ y)
from_map f [] y h = absurd (none_in y h)
from_map {X} {Y} f (x ∷ xs) y h = ⊎_elim
    (λ (e : f x ≡ y). (x, here x xs, e))
    (λ (h' : Contains (map f xs) y). let rest = from_map f xs y h' in (rest.0, later x xs rest.0 rest.1, rest.2))
    (first_or_later (f x) (map f xs) y h)

-- ---- flattened

pub in_flat : {X Y : Type 0} (f : X → List Y) (xs : List X) (x : X) (y : Y) → Contains xs x → Contains (f x) y → Contains (flat_map f xs) y
in_flat f [] x y h i = absurd (none_in x h)
in_flat {X} {Y} f (z ∷ xs) x y h i = ⊎_elim
    (λ (e : z ≡ x). Contains-append_left (f z) (flat_map f xs) y (subst (λ (v : X). Contains (f v) y) (sym e) i))
    (λ (h' : Contains xs x). Contains-append_right (f z) (flat_map f xs) y (in_flat f xs x y h' i))
    (first_or_later z xs x h)

pub from_flat : {X Y : Type 0} (f : X → List Y) (xs : List X) (y : Y) → Contains (flat_map f xs) y → (x : X) × Contains xs x × Contains (f x) y
from_flat f [] y h = absurd (none_in y h)
from_flat {X} {Y} f (x ∷ xs) y h = ⊎_elim
    (λ (i : Contains (f x) y). (x, here x xs, i))
    (λ (i : Contains (flat_map f xs) y). let rest = from_flat f xs y i in (rest.0, later x xs rest.0 rest.1, rest.2))
    (Contains-append_cases (f x) (flat_map f xs) y h)

-- ---- filtered

filter_step : {X : Type 0} (p : X → Bool) (y : X) (xs : List X) (x : X) (b : Bool) → Contains (filter p xs) x → Contains (cond b (y ∷ filter p xs) (filter p xs)) x
filter_step p y xs x true h = later y (filter p xs) x h
filter_step p y xs x false h = h

pub in_filter : {X : Type 0} (p : X → Bool) (xs : List X) (x : X) → Contains xs x → p x ≡ true → Contains (filter p xs) x
in_filter p [] x h e = absurd (none_in x h)
in_filter {X} p (y ∷ xs) x h e = ⊎_elim
    (λ (same : y ≡ x).
    let passes : p y ≡ true = ap p same ∙ e in
    subst (λ (b : Bool). Contains (cond b (y ∷ filter p xs) (filter p xs)) x) (sym passes) (subst (λ (z : X). Contains (y ∷ filter p xs) z) same (here y (filter p xs))))
    (λ (h' : Contains xs x). filter_step p y xs x (p y) (in_filter p xs x h' e))
    (first_or_later y xs x h)

pub from_filter : {X : Type 0} (p : X → Bool) (xs : List X) (x : X) → Contains (filter p xs) x → Contains xs x × (p x ≡ true)
from_filter p [] x h = absurd (none_in x h)
from_filter {X} p (y ∷ xs) x h = at (λ j. from_filter p xs x j) (p y) refl h
  where
    rest : Contains xs x × (p x ≡ true) → Contains (y ∷ xs) x × (p x ≡ true)
    rest r = (later y xs x r.0, r.1)

    at : (Contains (filter p xs) x → Contains xs x × (p x ≡ true)) → (b : Bool) → p y ≡ b → Contains (cond b (y ∷ filter p xs) (filter p xs)) x → Contains (y ∷ xs) x × (p x ≡ true)
    at again true e i = ⊎_elim
        (λ (same : y ≡ x). (subst (λ (z : X). Contains (y ∷ xs) z) same (here y xs), sym (ap p same) ∙ e))
        (λ (j : Contains (filter p xs) x). rest (again j))
        (first_or_later y (filter p xs) x i)
    at again false e i = rest (again i)

-- ---- looked for

pub found_in : {X : Type 0} (p : X → Bool) (xs : List X) (x : X) → find p xs ≡ Some x → Contains xs x × (p x ≡ true)
found_in {X} p [] x e = absurd (let d : None ≡ Some x = e in cc)
found_in {X} p (y ∷ xs) x e = at (λ f. found_in p xs x f) (p y) refl e
  where
    at : (find p xs ≡ Some x → Contains xs x × (p x ≡ true)) → (b : Bool) → p y ≡ b → cond b (Some y) (find p xs) ≡ Some x → Contains (y ∷ xs) x × (p x ≡ true)
    at again true t f = let same : y ≡ x = cc in (subst (λ (z : X). Contains (y ∷ xs) z) same (here y xs), sym (ap p same) ∙ t)
    at again false t f = let r = again f in (later y xs x r.0, r.1)

pub not_found : {X : Type 0} (p : X → Bool) (xs : List X) (x : X) → find p xs ≡ None → Contains xs x → p x ≡ false
not_found p [] x e h = absurd (none_in x h)
not_found {X} p (y ∷ xs) x e h = at (λ f i. not_found p xs x f i) (p y) refl e
  where
    at : (find p xs ≡ None → Contains xs x → p x ≡ false) → (b : Bool) → p y ≡ b → cond b (Some y) (find p xs) ≡ None → p x ≡ false
    at again true t f = absurd (let d : Some y ≡ None = f in cc)
    at again false t f = ⊎_elim (λ (same : y ≡ x). sym (ap p same) ∙ t) (λ (h' : Contains xs x). again f h') (first_or_later y xs x h)

pub any_in : {X : Type 0} (p : X → Bool) (xs : List X) → list_any p xs ≡ true → (x : X) × Contains xs x × (p x ≡ true)
any_in p [] e = absurd (true≢false (sym e))
any_in {X} p (y ∷ xs) e = at (λ f. any_in p xs f) (p y) refl e
  where
    at : (list_any p xs ≡ true → (x : X) × Contains xs x × (p x ≡ true)) → (b : Bool) → p y ≡ b → (b || list_any p xs) ≡ true → (x : X) × Contains (y ∷ xs) x × (p x ≡ true)
    at again true t f = (y, here y xs, t)
    at again false t f = let r = again f in (r.0, later y xs r.0 r.1, r.2)

pub in_any : {X : Type 0} (p : X → Bool) (xs : List X) (x : X) → Contains xs x → p x ≡ true → list_any p xs ≡ true
in_any p [] x h e = absurd (none_in x h)
in_any {X} p (y ∷ xs) x h e = ⊎_elim
    (λ (same : y ≡ x). or_left (p y) (list_any p xs) (ap p same ∙ e))
    (λ (h' : Contains xs x). or_right (p y) (list_any p xs) (in_any p xs x h' e))
    (first_or_later y xs x h)

pub in_any_not : {X : Type 0} (p : X → Bool) (xs : List X) (x : X) → list_any p xs ≡ false → Contains xs x → p x ≡ false
in_any_not p xs x none h = ⊎_elim
    (λ (t : p x ≡ true). absurd (true≢false (sym (in_any p xs x h t) ∙ none)))
    (λ (f : p x ≡ false). f)
    (cases_Bool (p x))

-- ---- numbers in a list

abbrev has : List ℕ → ℕ → Bool
has xs x = list_any (λ y. eqb y x) xs

pub has_in : (xs : List ℕ) (d : ℕ) → has xs d ≡ true → Contains xs d
has_in xs d e = let r = any_in (λ y. eqb y d) xs e in subst (Contains xs) (eqb-true r.0 d r.2) r.1

pub in_has : (xs : List ℕ) (d : ℕ) → Contains xs d → has xs d ≡ true
in_has xs d h = in_any (λ y. eqb y d) xs d h (eq-eqb d d refl)

pub has_not : (xs : List ℕ) (d : ℕ) → has xs d ≡ false → Contains xs d → ⊥
has_not xs d none h = true≢false (sym (in_has xs d h) ∙ none)

-- ---- backwards

pub any_reverse : {X : Type 0} (p : X → Bool) (xs : List X) → list_any p (reverse xs) ≡ list_any p xs
any_reverse p [] = refl
any_reverse p (x ∷ xs) =
    ap (list_any p) (reverse_onto xs x []) ∙ list_any-append p (reverse xs) (x ∷ []) ∙ ap (λ (b : Bool). b || (p x || false)) (any_reverse p xs)
    ∙ or_comm (list_any p xs) (p x || false) ∙ ap (λ (b : Bool). b || list_any p xs) (or-false (p x))

-- tests that agree on a list pick the same of it
pub filter_alike : (p q : ℕ → Bool) (xs : List ℕ) → ((x : ℕ) → Contains xs x → p x ≡ q x) → filter p xs ≡ filter q xs
filter_alike p q [] same = refl
filter_alike p q (x ∷ xs) same =
    ap (λ (b : Bool). cond b (x ∷ filter p xs) (filter p xs)) (same x (here x xs))
    ∙ ap (λ (ys : List ℕ). cond (q x) (x ∷ ys) ys) (filter_alike p q xs (λ y h. same y (later x xs y h)))

pub same_test : (x y : ℕ) → eqb x y ≡ eqb y x
same_test x y = at (eqb x y) (eqb y x) refl refl
  where
    at : (a b : Bool) → eqb x y ≡ a → eqb y x ≡ b → a ≡ b
    at true true p q = refl
    at false false p q = refl
    at true false p q = absurd (true≢false (sym (eq-eqb y x (sym (eqb-true x y p))) ∙ q))
    at false true p q = absurd (true≢false (sym (eq-eqb x y (sym (eqb-true y x q))) ∙ p))
