-- A property of each element of a list, element by element, so that proofs go along the list.
use Rattle.std.proofs.Common.{List, [], ◌∷◌, ◌++◌}
use Rattle.std.specs.Prelude.{⊤}
use Rattle.std.specs.List.{All}
use Rattle.std.proofs.lemmas.List.Elements.{All-cons, All-head, All-nil, All-tail}

abbrev pub Each : {A : Type 0} → (A → Type 0) → List A → Type 0
Each P [] = ⊤
Each P (x ∷ xs) = P x × Each P xs

pub each : {A : Type 0} (P : A → Type 0) (xs : List A) → All P xs → Each P xs
each P [] all = tt
each P (x ∷ xs) all = (All-head P x xs all, each P xs (All-tail P x xs all))

pub all : {A : Type 0} (P : A → Type 0) (xs : List A) → Each P xs → All P xs
all P [] each = All-nil P
all P (x ∷ xs) (first, each) = All-cons P x xs first (all P xs each)

pub both : {A : Type 0} (P : A → Type 0) (xs ys : List A) → Each P xs → Each P ys → Each P (xs ++ ys)
both P [] ys one other = other
both P (x ∷ xs) ys (first, one) other = (first, both P xs ys one other)
