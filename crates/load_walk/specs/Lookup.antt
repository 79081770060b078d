-- What a load looks up by name.
use Rattle.std.specs.Prelude.{◌≡◌, ℕ, ◌==◌, ◌||◌, if◌then◌else◌, Bool, true, List, Option, Some, None, IfSome, find, position}
use Rattle.std.specs.Global.{Vec}
use Rattle.std.specs.List.{list_any}
use Rattle.std.specs.Map.{lookup}
use Rattle.std.specs.Option.{option_or}
use Rattle.std.specs.Str.{bytes_eq}
use Rattle.ld_base.specs.declared.linking.Loaded.{Loaded}
use Rattle.scope_rule.specs.Needed.{defines_version}
use Rattle.load_walk.specs.declared.lookup.Defined.{Defined}
use Rattle.load_walk.specs.declared.lookup.NamePlaces.{NamePlaces}

-- one of the names is spelled so
abbrev pub named : List (Vec ℕ) → List ℕ → Bool
named names bytes = list_any (λ name. bytes_eq bytes name.items) names

-- the place of the name that is spelled so
abbrev pub place_of : List (Vec ℕ × ℕ) → List ℕ → Option ℕ
place_of places bytes = lookup (λ name. bytes_eq bytes name.items) places

-- a name's place is where it comes first
abbrev pub ArePlacesOf : List (List ℕ) → NamePlaces → Type 0
ArePlacesOf names places = (bytes : List ℕ) → place_of places.firsts.entries bytes ≡ position (λ name. bytes_eq name bytes) names

-- the names for which this holds take a place, unless they have an earlier one
abbrev pub TakePlace : NamePlaces → NamePlaces → (List ℕ → Bool) → ℕ → Type 0
TakePlace old new these place =
    (name : List ℕ) → place_of new.firsts.entries name ≡ option_or (place_of old.firsts.entries name) (if these name then Some place else None)

-- a version is one of those that are defined
abbrev pub has : Defined → List ℕ → Bool
has defined version = defined.every || named defined.names.keys version

-- the object with a serial defines a version; where there is no such object, none is lacking
abbrev pub defined_at : List Loaded → ℕ → List ℕ → Bool
defined_at objects serial version = elim (find (λ d. d.serial == serial) objects) [ Some d ↦ defines_version d.object version | None ↦ true ]

-- what is known of the versions of the object with a serial is so
abbrev pub IsKnown : List Loaded → ℕ → Defined → Type 0
IsKnown objects serial defined = (version : List ℕ) → has defined version ≡ defined_at objects serial version

abbrev pub Knows : List Loaded → (ℕ → Option Defined) → Type 0
Knows objects known = (serial : ℕ) → IfSome (known serial) (IsKnown objects serial)
