-- Lists in which each thing stands once, and names that are looked up.
use Rattle.std.specs.Prelude.{ℕ, ◌++◌, Bool, false, if◌then◌else◌, List, [], ◌∷◌, Option, Some, None}
use Rattle.std.specs.List.{list_any}
use Rattle.std.specs.Str.{bytes_eq}

-- an element behind others, unless it is one of them
abbrev pub added : {A : Type 0} → (A → A → Bool) → List A → A → List A
added same xs x = if list_any (same x) xs then xs else xs ++ x ∷ []

-- the same of what may be there
abbrev pub added_if : {A : Type 0} → (A → A → Bool) → List A → Option A → List A
added_if same xs None = xs
added_if same xs (Some x) = added same xs x

-- one of the names is spelled so
abbrev pub is_among : List (List ℕ) → List ℕ → Bool
is_among names bytes = list_any (bytes_eq bytes) names

-- the name, where there is one, is spelled so
abbrev pub is_it : List ℕ → Option (List ℕ) → Bool
is_it bytes None = false
is_it bytes (Some name) = bytes_eq bytes name
