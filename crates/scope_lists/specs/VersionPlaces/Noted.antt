-- What is noted of versions: for the code of this crate alone.
use Rattle.std.specs.Prelude.{ℕ, nat_eq, List, map, Option}
use Rattle.std.specs.HashMap.{get}
use Rattle.std.specs.List.{range_with_len}
use Rattle.scope_lists.specs.declared.version_places.names.VersionPlace.{VersionPlace}
use Rattle.scope_lists.specs.declared.version_places.noting.Noted.{Noted}

-- the place that is noted of an index
abbrev pub noted_at : Noted → ℕ → Option VersionPlace
noted_at noted index = get nat_eq noted.by_index index

-- the places of the indexes that are less than a number, in order
abbrev pub places_in : Noted → ℕ → List (Option VersionPlace)
places_in noted past = map (noted_at noted) (range_with_len 0 past)
