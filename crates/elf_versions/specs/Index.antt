-- Which version indexes there are, as tests for the code of this crate alone.
use Rattle.std.specs.Prelude.{ℕ, ◌%◌, ◌==◌, ◌&&◌, Bool, not, nat_le, List, ◌++◌, map, Option, position}
use Rattle.std.specs.List.{list_any}
use Rattle.ld_base.specs.declared.object.Verdef.{Verdef}
use Rattle.ld_base.specs.declared.object.Verneed.{Verneed}
use Rattle.ld_base.specs.declared.parts.Versions.{Versions}

-- the indexes of the versions that are defined, the base's among them, and of those that are needed
abbrev pub indexes_of : List Verdef → List Verneed → List ℕ
indexes_of verdefs verneeds = map (λ d. d.index) verdefs ++ map (λ n. n.index) verneeds

-- an entry with an index of 2 or more, without the bit 0x8000, that no version has
abbrev pub is_unknown : List ℕ → ℕ → Bool
is_unknown indexes entry = nat_le 2 (entry % 0x8000) && not (list_any (λ i. i == entry % 0x8000) indexes)

-- the first symbol whose version index isn't there
unfoldable pub unknown_index : Versions → Option ℕ
unknown_index versions = position (is_unknown (indexes_of versions.verdefs versions.verneeds)) versions.versym
