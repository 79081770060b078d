-- What a list holds after a filter or a map, and how many edges are left when those of one source are taken out.
use Rattle.std.proofs.Common.{◌≡◌, ℕ, zero, suc, ◌+◌, ◌<◌, Bool, true, false, cond, List, [], ◌∷◌, map, length, get_or, refl, sym, ap, subst, ◌∙◌, arith}
use Rattle.std.specs.List.{Contains, filter, count_by}
use Rattle.std.proofs.lemmas.List.Elements.{All-contains, All-contains_itself, All-filter, Contains-append_right, filter_passes}
use Rattle.std.proofs.lemmas.List.Sums.{sum_by-cons}

-- an element that passes is kept
kept_at : {X : Type 0} (p : X → Bool) (xs : List X) (x : X) (k : ℕ) → k < length xs → get_or xs k x ≡ x → p x ≡ true → Contains (filter p xs) x
kept_at p [] x k within same passes = absurd (omega arith)
kept_at {X} p (y ∷ ys) x zero within same passes =
    subst (λ (b : Bool). Contains (cond b (y ∷ filter p ys) (filter p ys)) x) (sym (ap p same ∙ passes)) (0, omega arith, same)
kept_at {X} p (y ∷ ys) x (suc k) within same passes =
    let rest = kept_at p ys x k (omega arith) same passes in
    elim (p y) as (λ b. Contains (cond b (y ∷ filter p ys) (filter p ys)) x)
    [ true ↦ Contains-append_right (y ∷ []) (filter p ys) x rest | false ↦ rest ]

pub kept : {X : Type 0} (p : X → Bool) (xs : List X) (x : X) → Contains xs x → p x ≡ true → Contains (filter p xs) x
kept p xs x there passes = kept_at p xs x there.0 there.1 there.2 passes

-- what is kept was there, and passes
pub from_kept : {X : Type 0} (p : X → Bool) (xs : List X) (x : X) → Contains (filter p xs) x → Contains xs x × (p x ≡ true)
from_kept {X} p xs x there = (
  All-contains (Contains xs) (filter p xs) x (All-filter p (Contains xs) xs (All-contains_itself xs)) there,
  All-contains (λ (y : X). p y ≡ true) (filter p xs) x (filter_passes p xs) there,
)

mapped_at : {X Y : Type 0} (f : X → Y) (xs : List X) (x : X) (k : ℕ) → k < length xs → get_or xs k x ≡ x → Contains (map f xs) (f x)
mapped_at f [] x k within same = absurd (omega arith)
mapped_at f (y ∷ ys) x zero within same = (0, omega arith, ap f same)
mapped_at f (y ∷ ys) x (suc k) within same = Contains-append_right (f y ∷ []) (map f ys) (f x) (mapped_at f ys x k (omega arith) same)

pub mapped : {X Y : Type 0} (f : X → Y) (xs : List X) (x : X) → Contains xs x → Contains (map f xs) (f x)
mapped f xs x there = mapped_at f xs x there.0 there.1 there.2

from_mapped_at : {X Y : Type 0} (f : X → Y) (xs : List X) (y : Y) (k : ℕ) → k < length (map f xs) → get_or (map f xs) k y ≡ y → (x : X) × Contains xs x × (f x ≡ y)
from_mapped_at f [] y k within same = absurd (omega arith)
from_mapped_at f (x ∷ xs) y zero within same = (x, (0, omega arith, refl), same)
from_mapped_at f (x ∷ xs) y (suc k) within same =
    let rest = from_mapped_at f xs y k (omega arith) same in
    (rest.0, Contains-append_right (x ∷ []) xs rest.0 rest.1, rest.2)

pub from_mapped : {X Y : Type 0} (f : X → Y) (xs : List X) (y : Y) → Contains (map f xs) y → (x : X) × Contains xs x × (f x ≡ y)
from_mapped f xs y there = from_mapped_at f xs y there.0 there.1 there.2

-- of those that pass p, some pass q and the others r
pub count_parts : {X : Type 0} (p q r : X → Bool) (xs : List X)
    → ((x : X) → cond (q x) 1 0 + cond (r x) 1 0 ≡ cond (p x) 1 0)
    → count_by q xs + count_by r xs ≡ count_by p xs
count_parts p q r [] parts = refl
count_parts p q r (x ∷ xs) parts =
    let here : cond (q x) 1 0 + cond (r x) 1 0 ≡ cond (p x) 1 0 = parts x in
    let rest : count_by q xs + count_by r xs ≡ count_by p xs = count_parts p q r xs parts in
    omega (arith, sum_by-cons (λ y. cond (p y) 1 0) x xs, sum_by-cons (λ y. cond (q y) 1 0) x xs, sum_by-cons (λ y. cond (r y) 1 0) x xs)
