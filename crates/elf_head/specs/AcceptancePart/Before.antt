-- What stands before a mark in a list.
use Rattle.std.specs.Prelude.{◌≡◌, Bool, not, List, ◌∷◌, ◌++◌, Option, option_map, position, take, IsTrue}
use Rattle.std.specs.List.{AllPass}

-- the elements before the first that passes; none where none passes
abbrev pub before : {X : Type 0} → (X → Bool) → List X → Option (List X)
before is_mark xs = option_map (λ n. take n xs) (position is_mark xs)

-- these elements, none of which passes, stand before one that does
pub record StandsBefore {X : Type 0} (is_mark : X → Bool) (front xs : List X) : Type 0 where
  pub mark : X
  pub rest : List X
  pub parts : xs ≡ front ++ mark ∷ rest
  pub marked : IsTrue (is_mark mark)
  pub unmarked : AllPass (λ x. not (is_mark x)) front
