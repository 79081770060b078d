-- Elements that were passed, and the one at a place.
use Rattle.std.proofs.Common.{◌≡◌, ⊎_elim, ℕ, ◌+◌, ◌<◌, List, [], ◌∷◌, ◌++◌, take, length, get_or, sym, ap, subst, ◌∙◌}
use Rattle.std.specs.List.{Contains}
use Rattle.std.proofs.lemmas.List.{take_more}
use Rattle.std.proofs.lemmas.List.Elements.{Contains-push_cases}

-- one more was passed
pub passed_more : {X : Type 0} (P : X → Type 0) (xs : List X) (i : ℕ) (x : X) → i < length xs → x ≡ get_or xs i x → ((y : X) → Contains (take i xs) y → P y) → P x
    → (y : X) → Contains (take (i + 1) xs) y → P y
passed_more {X} P xs i x lt at before here y h = ⊎_elim
    (λ (old : Contains (take i xs) y). before y old)
    (λ (new : x ≡ y). subst P new here)
    (Contains-push_cases (take i xs) x y (subst (λ (zs : List X). Contains zs y) (take_more xs i x lt ∙ ap (λ (z : X). take i xs ++ z ∷ []) (sym at)) h))

-- the element at a place is one of the list
pub is_in : {X : Type 0} (xs : List X) (i : ℕ) (x : X) → i < length xs → x ≡ get_or xs i x → Contains xs x
is_in xs i x lt at = (i, lt, sym at)
