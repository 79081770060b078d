-- The names of versions (Drepper, "ELF Symbol Versioning").
use Rattle.std.specs.Prelude.{ℕ, Bool, not, ◌&&◌, ◌==◌, ◌%◌, List, Option, option_map}
use Rattle.std.specs.Option.{option_or}
use Rattle.std.specs.List.{find}
use Rattle.ld_base.specs.declared.object.Object.{Object}
use Rattle.ld_base.specs.declared.object.Verdef.{Verdef}
use Rattle.ld_base.specs.declared.object.Verneed.{Verneed}

-- VER_FLG_BASE: the entry names the object itself and no version
abbrev pub is_base : Verdef → Bool
is_base d = d.flags % 2 == 1

-- the first definition of a version with this index
abbrev pub verdef_of : List Verdef → ℕ → Option Verdef
verdef_of verdefs index = find (λ d. d.index == index && not (is_base d)) verdefs

-- the first version with this index that is needed
abbrev pub verneed_of : List Verneed → ℕ → Option Verneed
verneed_of verneeds index = find (λ n. n.index == index) verneeds

-- the name of a version's index: of the definition with it, else of the needed version with it
abbrev pub version_name : Object → ℕ → Option (List ℕ)
version_name o index = option_or (option_map (λ d. d.name) (verdef_of o.verdefs index)) (option_map (λ n. n.name) (verneed_of o.verneeds index))
