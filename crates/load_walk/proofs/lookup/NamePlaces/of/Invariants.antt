use Rattle.std.proofs.Common.{◌≡◌, ℕ, List, take}
use Rattle.std.specs.Prelude.{position}
use Rattle.std.specs.Str.{bytes_eq}
use Rattle.load_walk.specs.Lookup.{place_of}
use Rattle.load_walk.proofs.lookup.NamePlaces.of.Given as goal

-- the places are those of the names so far
abbrev pub invariant-loop-place : goal.invariant-loop-place
invariant-loop-place l = (bytes : List ℕ) → place_of l.places.firsts.entries bytes ≡ position (λ name. bytes_eq name bytes) (take l.place l.names)
