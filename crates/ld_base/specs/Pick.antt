-- Which definition of one object a reference takes (gABI, "Symbol Table"; Drepper, "ELF Symbol Versioning"; dlsym(3)).
use Rattle.std.specs.Prelude.{◌+◌, ℕ, Bool, true, false, not, ◌&&◌, ◌||◌, ◌==◌, if◌then◌else◌, List, drop, Option, Some, None, option_map, count_by, position}
use Rattle.std.specs.Option.{option_or}
use Rattle.std.specs.Str.{bytes_eq}
use Rattle.ld_base.specs.declared.object.Object.{Object}
use Rattle.ld_base.specs.declared.object.Symbol.{Symbol}
use Rattle.ld_base.specs.declared.linking.Want.{Want}
use Rattle.ld_base.specs.declared.linking.Want.TheVariants as want
use Rattle.ld_base.specs.Symbol.{is_visible_definition, version_index, is_hidden_version}
use Rattle.ld_base.specs.Version.{version_name}

-- the symbols that an object may export
abbrev pub exported : Object → List Symbol
exported o = drop o.first_exported o.symbols

-- a definition of this name, of which the version may be asked; the index 0 is the object's own and never matches
abbrev pub is_offer : Object → List ℕ → Symbol → Bool
is_offer o name s = is_visible_definition s && bytes_eq s.name name && (not o.has_versym || not (version_index s == 0))

-- a version's name, if it has one, is this
abbrev pub is_named : List ℕ → Option (List ℕ) → Bool
is_named version (Some name) = bytes_eq name version
is_named version None = false

-- the version with this index has this name
abbrev pub carries : Object → List ℕ → ℕ → Bool
carries o version index = is_named version (version_name o index)

-- its version has this name
abbrev pub has_version : Object → List ℕ → Symbol → Bool
has_version o version s = carries o version (version_index s)

-- the first exported symbol that passes a test
abbrev pub first_exported : Object → (Symbol → Bool) → Option ℕ
first_exported o test = option_map (λ k. k + o.first_exported) (position test (exported o))

-- the only one that passes it
abbrev pub only_exported : Object → (Symbol → Bool) → Option ℕ
only_exported o test = if count_by test (exported o) == 1 then first_exported o test else None

-- a definition of this version is what the reference wants
abbrev pub is_wanted : Object → Want → Symbol → Bool
is_wanted o (want.Version version) s = has_version o version s || s.version == 1
is_wanted o want.Plain s = version_index s == 1 || version_index s == 2
is_wanted o want.Dlsym s = version_index s == 1
is_wanted o (want.Dlvsym version) s = has_version o version s

-- a reference that names no version is content with a definition that is the only one in sight
abbrev pub names_no_version : Want → Bool
names_no_version (want.Version version) = false
names_no_version want.Plain = true
names_no_version want.Dlsym = true
names_no_version (want.Dlvsym version) = false

-- the definition that a reference takes in an object with versions
abbrev pub pick_by_version : Object → List ℕ → Want → Option ℕ
pick_by_version o name want =
    option_or (first_exported o (λ s. is_offer o name s && is_wanted o want s))
    (if names_no_version want then only_exported o (λ s. is_offer o name s && not (is_hidden_version s)) else None)

-- Pick: the definition that a reference takes in an object; without versions the first of the name
abbrev pub pick_of : Object → List ℕ → Want → Option ℕ
pick_of o name want = if o.has_versym then pick_by_version o name want else first_exported o (is_offer o name)
