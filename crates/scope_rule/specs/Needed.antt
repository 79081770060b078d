-- Whether the versions that new objects need are there (Drepper, "ELF Symbol Versioning").
use Rattle.std.specs.Prelude.{ℕ, ◌+◌, ◌/◌, ◌%◌, ◌-◌, Bool, false, not, ◌&&◌, ◌||◌, ◌==◌, List, [], ◌∷◌, ◌++◌, length, Option, Some, None, position, find}
use Rattle.std.specs.List.{slice_get, list_any}
use Rattle.std.specs.Str.{bytes_eq}
use Rattle.ld_base.specs.Version.{is_base}
use Rattle.ld_base.specs.declared.fault.DlFault.{DlFault}
use Rattle.ld_base.specs.declared.fault.DlFault.TheVariants as faults
use Rattle.ld_base.specs.declared.linking.Loaded.{Loaded}
use Rattle.ld_base.specs.declared.object.Object.{Object}
use Rattle.ld_base.specs.declared.object.Verdef.{Verdef}
use Rattle.ld_base.specs.declared.object.Verneed.{Verneed}

-- VER_FLG_WEAK: it may be missing
abbrev pub is_weak_need : Verneed → Bool
is_weak_need v = v.flags / 2 % 2 == 1

-- an entry defines a version; that of the base names the object itself
abbrev pub defines : List ℕ → Verdef → Bool
defines version d = not (is_base d) && bytes_eq d.name version

-- an object defines a version; one without definitions of versions defines every one
abbrev pub defines_version : Object → List ℕ → Bool
defines_version o version = length o.verdefs == 0 || list_any (defines version) o.verdefs

-- the object that the first of the needed names found that is the file; found ends with what those names found
abbrev pub provider : Loaded → List ℕ → Option ℕ
provider o file = elim (position (λ name. bytes_eq name file) o.object.needed) [
  | Some k ↦ slice_get o.found ((length o.found) - (length o.object.needed) + k)
  | None ↦ None
]

-- the needed version isn't there: it isn't weak, the file is one of the needed names, and the object found for it doesn't define it
abbrev pub lacks_version : List Loaded → Loaded → Verneed → Bool
lacks_version objects o v =
    not (is_weak_need v) && elim (provider o v.file) [
      | Some serial ↦ elim (find (λ d. d.serial == serial) objects) [ Some d ↦ not (defines_version d.object v.name) | None ↦ false ]
      | None ↦ false
    ]

-- the first version that an object needs and that isn't there
abbrev pub first_lack : List Loaded → Loaded → Option Verneed
first_lack objects o = find (lacks_version objects o) o.object.verneeds

-- the first refusal of new objects in load order
abbrev pub missing_version : List Loaded → List Loaded → Option DlFault
missing_version objects [] = None
missing_version objects (o ∷ rest) =
    elim (first_lack objects o) [ Some v ↦ Some (faults.MissingVersion o.path v.file v.name) | None ↦ missing_version objects rest ]

-- that of new objects behind those that were there
abbrev pub version_fault : List Loaded → List Loaded → Option DlFault
version_fault there added = missing_version (there ++ added) added
