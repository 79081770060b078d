-- A room that is filled front by front.
use Rattle.std.proofs.Common.{◌≡◌, ◌+◌, ◌++◌, ℕ, List, Option, take, sym, subst}
use Rattle.std.proofs.KnownBytes.{Consumes-trans}
use Rattle.std.specs.Io.KnownBytes.{Consumes}

-- where a front was read, and then what stands behind it
pub filled_more : (old now new : Option (List ℕ)) (front piece room : List ℕ) (filled n : ℕ) → take (filled + n) room ≡ take filled front ++ take n piece
    → Consumes old now (take filled front) → Consumes now new (take n piece) → Consumes old new (take (filled + n) room)
filled_more old now new front piece room filled n whole first second =
    subst (Consumes old new) (sym whole) (Consumes-trans old now new _ _ first second)
