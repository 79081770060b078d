-- What a search finds in a longer list, and in a shorter one.
use Rattle.std.proofs.Common.{◌≡◌, Bool, true, false, cond, List, [], ◌∷◌, ◌++◌, Option, Some, None, refl, sym, ap, ◌∙◌}
use Rattle.std.specs.List.{Contains, filter, find}
use Rattle.std.proofs.lemmas.Bool.{true≢false}
use Rattle.history_state.specs.Lemmas.Lists.{found_in, from_filter, here, later}

pub find_front : {X : Type 0} (p : X → Bool) (xs ys : List X) → ((y : X) → Contains ys y → p y ≡ false) → find p (xs ++ ys) ≡ find p xs
find_front p [] [] none = refl
find_front {X} p [] (y ∷ ys) none = ap (λ (b : Bool). cond b (Some y) (find p ys)) (none y (here y ys)) ∙ find_front p [] ys (λ z h. none z (later y ys z h))
find_front {X} p (x ∷ xs) ys none = ap (λ (found : Option X). cond (p x) (Some x) found) (find_front p xs ys none)

pub find_kept : {X : Type 0} (p q : X → Bool) (xs : List X) → ((x : X) → Contains xs x → p x ≡ true → q x ≡ true) → find p (filter q xs) ≡ find p xs
find_kept p q [] keeps = refl
find_kept {X} p q (x ∷ xs) keeps = at (p x) (q x) refl refl (keeps x (here x xs)) (find_kept p q xs (λ y h. keeps y (later x xs y h)))
  where
    at : (b c : Bool) → p x ≡ b → q x ≡ c → (p x ≡ true → q x ≡ true) → find p (filter q xs) ≡ find p xs → find p (cond c (x ∷ filter q xs) (filter q xs)) ≡ cond b (Some x) (find p xs)
    at true true e f k rest = ap (λ (t : Bool). cond t (Some x) (find p (filter q xs))) e
    at true false e f k rest = absurd (true≢false (sym (k e) ∙ f))
    at false true e f k rest = ap (λ (t : Bool). cond t (Some x) (find p (filter q xs))) e ∙ rest
    at false false e f k rest = rest

-- nothing that is looked for is kept
pub find_less : {X : Type 0} (p q : X → Bool) (xs : List X) → ((x : X) → Contains xs x → p x ≡ true → q x ≡ false) → find p (filter q xs) ≡ None
find_less {X} p q xs goes = at (find p (filter q xs)) refl
  where
    at : (found : Option X) → find p (filter q xs) ≡ found → find p (filter q xs) ≡ None
    at None e = e
    at (Some x) e =
        let found = found_in p (filter q xs) x e in
        let kept = from_filter q xs x found.0 in
        absurd (true≢false (sym kept.1 ∙ goes x kept.0 found.1))

-- what is found in front is found
pub find_first : {X : Type 0} (p : X → Bool) (xs ys : List X) (x : X) → find p xs ≡ Some x → find p (xs ++ ys) ≡ Some x
find_first {X} p [] ys x e = absurd (let d : None ≡ Some x = e in cc)
find_first {X} p (y ∷ xs) ys x e = at (p y) e (λ f. find_first p xs ys x f)
  where
    at : (b : Bool) → cond b (Some y) (find p xs) ≡ Some x → (find p xs ≡ Some x → find p (xs ++ ys) ≡ Some x) → cond b (Some y) (find p (xs ++ ys)) ≡ Some x
    at true f again = f
    at false f again = again f

-- where nothing in front is looked for, what is found is behind
pub find_behind : {X : Type 0} (p : X → Bool) (xs ys : List X) → ((x : X) → Contains xs x → p x ≡ false) → find p (xs ++ ys) ≡ find p ys
find_behind p [] ys none = refl
find_behind {X} p (x ∷ xs) ys none = ap (λ (b : Bool). cond b (Some x) (find p (xs ++ ys))) (none x (here x xs)) ∙ find_behind p xs ys (λ y h. none y (later x xs y h))
