-- Tables of words.
use Rattle.std.specs.Prelude.{ℕ, Bool, true, not, ◌&&◌, if◌then◌else◌, List, [], ◌∷◌, Option, Some, None}
use Rattle.std.specs.List.{list_all}
use Rattle.std.specs.Str.{bytes_eq}

-- what a table has under a word
abbrev pub named : {A : Type 0} → List ℕ → List (List ℕ × A) → Option A
named word [] = None
named word (row ∷ rows) = if bytes_eq word row.0 then Some row.1 else named word rows

-- whether no word stands twice in a table
abbrev pub are_distinct : {A : Type 0} → List (List ℕ × A) → Bool
are_distinct [] = true
are_distinct (row ∷ rows) = list_all (λ other. not (bytes_eq row.0 other.0)) rows && are_distinct rows
