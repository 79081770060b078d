-- What an item says, before it is asked whether there is such a hart and how many turns it may take.
use Rattle.std.specs.Prelude.{◌≡◌, ◌⊎◌, ℕ, ◌^◌, ◌<◌, ◌≤◌, List, ◌++◌, codes}
use Rattle.std.specs.Fmt.{decimal}

abbrev pub Writes : List ℕ → ℕ → ℕ → Type 0
Writes text hart count = (text ≡ decimal hart ++ codes "*" ++ decimal count) ⊎ ((text ≡ decimal hart) × (count ≡ 1))

-- there is such a hart, and it may take so many turns
pub record IsWithin (harts hart count : ℕ) : Type 0 where
  pub there : hart < harts
  pub some : 1 ≤ count
  pub most : count ≤ 2 ^ 32
