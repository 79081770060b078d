-- Names that own their memory, as their bytes.
use Rattle.std.specs.Prelude.{ℕ, List, map}
use Rattle.std.specs.Global.{Vec}

abbrev pub spelled_pairs : {X : Type 0} → List (Vec ℕ × X) → List (List ℕ × X)
spelled_pairs pairs = map (λ pair. (pair.0.items, pair.1)) pairs
