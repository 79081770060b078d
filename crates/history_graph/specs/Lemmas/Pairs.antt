-- What holds of each two elements of a list, the first before the second.
use Rattle.std.proofs.Common.{suc, List, [], ◌∷◌, ◌++◌, arith}
use Rattle.std.specs.List.{All, AllPairs}
use Rattle.std.proofs.lemmas.List.Elements.{All-append, All-cons, All-head, All-tail}
use Rattle.std.proofs.lemmas.List.Kept.{AllPairs-cons}

pub pairs_head : {X : Type 0} (R : X → X → Type 0) (x : X) (xs : List X) → AllPairs R (x ∷ xs) → All (R x) xs
pairs_head R x xs pairs k d within = pairs 0 (suc k) d (omega arith) (omega arith)

pub pairs_tail : {X : Type 0} (R : X → X → Type 0) (x : X) (xs : List X) → AllPairs R (x ∷ xs) → AllPairs R xs
pairs_tail R x xs pairs i j d lt within = pairs (suc i) (suc j) d (omega arith) (omega arith)

-- of two lists, and each element of the first with each of the second
pub pairs_join : {X : Type 0} (R : X → X → Type 0) (xs ys : List X) → AllPairs R xs → AllPairs R ys → All (λ x. All (R x) ys) xs → AllPairs R (xs ++ ys)
pairs_join R [] ys front back across = back
pairs_join {X} R (x ∷ xs) ys front back across =
    AllPairs-cons R x (xs ++ ys)
    (All-append (R x) xs ys (pairs_head R x xs front) (All-head (λ (z : X). All (R z) ys) x xs across))
    (pairs_join R xs ys (pairs_tail R x xs front) back (All-tail (λ (z : X). All (R z) ys) x xs across))

all_front : {X : Type 0} (P : X → Type 0) (xs ys : List X) → All P (xs ++ ys) → All P xs
all_front P [] ys all = λ k d within. absurd (omega arith)
all_front P (x ∷ xs) ys all = All-cons P x xs (All-head P x (xs ++ ys) all) (all_front P xs ys (All-tail P x (xs ++ ys) all))

-- of the first part of a list
pub pairs_front : {X : Type 0} (R : X → X → Type 0) (xs ys : List X) → AllPairs R (xs ++ ys) → AllPairs R xs
pairs_front R [] ys pairs = λ i j d lt within. absurd (omega arith)
pairs_front R (x ∷ xs) ys pairs =
    AllPairs-cons R x xs (all_front (R x) xs ys (pairs_head R x (xs ++ ys) pairs)) (pairs_front R xs ys (pairs_tail R x (xs ++ ys) pairs))

all_last : {X : Type 0} (P : X → Type 0) (xs : List X) (y : X) → All P (xs ++ y ∷ []) → P y
all_last P [] y all = All-head P y [] all
all_last P (x ∷ xs) y all = all_last P xs y (All-tail P x (xs ++ y ∷ []) all)

-- the last is after each other
pub pairs_last : {X : Type 0} (R : X → X → Type 0) (xs : List X) (y : X) → AllPairs R (xs ++ y ∷ []) → All (λ x. R x y) xs
pairs_last R [] y pairs = λ k d within. absurd (omega arith)
pairs_last {X} R (x ∷ xs) y pairs =
    All-cons (λ (z : X). R z y) x xs (all_last (R x) xs y (pairs_head R x (xs ++ y ∷ []) pairs)) (pairs_last R xs y (pairs_tail R x (xs ++ y ∷ []) pairs))
