-- Taking the first out that passes a test, and all others that do.
use Rattle.std.proofs.Common.{◌≡◌, ℕ, zero, suc, ◌<◌, Bool, true, false, not, cond, List, [], ◌∷◌, drop, get_or, length, Some, None, refl, sym, ap, ◌∙◌}
use Rattle.std.specs.List.{filter, find, remove, slice_get}
use Rattle.std.proofs.Math.Seq.{drop-cons}
use Rattle.std.proofs.lemmas.Option.{slice_get-get_or}

-- the search of the rest stops at its first
pub found_at : {X : Type 0} (p : X → Bool) (xs : List X) (place : ℕ) (x : X) → place < length xs → x ≡ get_or xs place x → p x ≡ true
    → find p (drop place xs) ≡ find p xs → slice_get xs place ≡ find p xs
found_at {X} p xs place x lt at is rest =
    slice_get-get_or xs place x lt ∙ ap (λ (y : X). Some y) (sym at)
    ∙ sym (ap (λ (b : Bool). cond b (Some x) (find p (drop (suc place) xs))) is)
    ∙ sym (ap (λ (y : X). find p (y ∷ drop (suc place) xs)) (sym at))
    ∙ sym (ap (find p) (drop-cons xs place x lt))
    ∙ rest

-- what is taken out of that place is the one that was looked for
pub at_place : {X : Type 0} (p : X → Bool) (xs : List X) (place : ℕ) (x : X) → place < length xs → x ≡ get_or xs place x → slice_get xs place ≡ find p xs → find p xs ≡ Some x
at_place {X} p xs place x lt at found = sym found ∙ slice_get-get_or xs place x lt ∙ ap (λ (y : X). Some y) (sym at)

find_passes : {X : Type 0} (p : X → Bool) (xs : List X) (x : X) → find p xs ≡ Some x → p x ≡ true
find_passes {X} p [] x e = absurd (let d : None ≡ Some x = e in cc)
find_passes {X} p (y ∷ xs) x e = at (λ f. find_passes p xs x f) (p y) refl e
  where
    at : (find p xs ≡ Some x → p x ≡ true) → (b : Bool) → p y ≡ b → cond b (Some y) (find p xs) ≡ Some x → p x ≡ true
    at again true t f = let same : y ≡ x = cc in sym (ap p same) ∙ t
    at again false t f = again f

-- where none passes, all others are all
pub none_is : {X : Type 0} (p : X → Bool) (xs : List X) → find p xs ≡ None → xs ≡ filter (λ x. not (p x)) xs
none_is {X} p [] none = refl
none_is {X} p (y ∷ xs) none = at (λ f. none_is p xs f) (p y) refl none
  where
    at : (find p xs ≡ None → xs ≡ filter (λ x. not (p x)) xs) → (b : Bool) → p y ≡ b → cond b (Some y) (find p xs) ≡ None
        → y ∷ xs ≡ cond (not (p y)) (y ∷ filter (λ x. not (p x)) xs) (filter (λ x. not (p x)) xs)
    at again true t f = absurd (let d : Some y ≡ None = f in cc)
    at again false t f =
        ap (λ (rest : List X). y ∷ rest) (again f)
        ∙ ap (λ (b : Bool). cond (not b) (y ∷ filter (λ x. not (p x)) xs) (filter (λ x. not (p x)) xs)) (sym t)

others_stay : {X : Type 0} (p : X → Bool) (xs : List X) (place : ℕ) (x : X) → slice_get xs place ≡ Some x → p x ≡ true
    → filter (λ y. not (p y)) (remove xs place) ≡ filter (λ y. not (p y)) xs
others_stay {X} p [] place x at is = absurd (let d : None ≡ Some x = at in cc)
others_stay {X} p (y ∷ xs) zero x at is =
    let same : y ≡ x = cc in
    ap (λ (b : Bool). cond (not b) (y ∷ filter (λ z. not (p z)) xs) (filter (λ z. not (p z)) xs)) (sym (ap p same ∙ is))
others_stay {X} p (y ∷ xs) (suc place) x at is = ap (λ (rest : List X). cond (not (p y)) (y ∷ rest) rest) (others_stay p xs place x at is)

-- the others stay
pub removed_others : {X : Type 0} (p : X → Bool) (xs : List X) (place : ℕ) (x : X) → place < length xs → x ≡ get_or xs place x → slice_get xs place ≡ find p xs
    → filter (λ y. not (p y)) (remove xs place) ≡ filter (λ y. not (p y)) xs
removed_others {X} p xs place x lt at found =
    let is : find p xs ≡ Some x = at_place p xs place x lt at found in
    others_stay p xs place x (found ∙ is) (find_passes p xs x is)
