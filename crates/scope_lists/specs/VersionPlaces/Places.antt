-- Where the names of an object's versions stand (Drepper, "ELF Symbol Versioning").
use Rattle.std.specs.Prelude.{ℕ, suc, ◌&&◌, ◌==◌, not, max, List, [], ◌∷◌, map, position, Option, Some, None, option_map, slice_get}
use Rattle.std.specs.List.{range_with_len}
use Rattle.std.specs.Option.{option_or}
use Rattle.ld_base.specs.Version.{is_base}
use Rattle.ld_base.specs.declared.object.Object.{Object}
use Rattle.scope_lists.specs.declared.version_places.names.VersionPlace.{VersionPlace}
use Rattle.scope_lists.specs.declared.version_places.names.VersionPlace.TheVariants.{Defined, Needed}

-- where the first definition with an index stands that has a name, and the first needed version with it
abbrev pub defined_at : Object → ℕ → Option ℕ
defined_at o index = position (λ d. d.index == index && not (is_base d)) o.verdefs

abbrev pub needed_at : Object → ℕ → Option ℕ
needed_at o index = position (λ n. n.index == index) o.verneeds

-- the entry that names an index: the first definition with it, else the first needed version with it
abbrev pub place_of : Object → ℕ → Option VersionPlace
place_of o index = option_or (option_map Defined (defined_at o index)) (option_map Needed (needed_at o index))

-- the name at a place
abbrev pub name_in : Object → Option VersionPlace → Option (List ℕ)
name_in o (Some (Defined number)) = option_map (λ d. d.name) (slice_get o.verdefs number)
name_in o (Some (Needed number)) = option_map (λ n. n.name) (slice_get o.verneeds number)
name_in o None = None

-- one more than the greatest of some numbers; 0 where there is none
abbrev pub past : List ℕ → ℕ
past [] = 0
past (x ∷ xs) = max (suc x) (past xs)

-- the indexes of an object's versions are less than this
abbrev pub indexes_of : Object → ℕ
indexes_of o = max (past (map (λ d. d.index) o.verdefs)) (past (map (λ n. n.index) o.verneeds))

-- the places of those indexes, in order
unfoldable pub places_of : Object → List (Option VersionPlace)
places_of o = map (place_of o) (range_with_len 0 (indexes_of o))
