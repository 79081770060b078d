-- The names and the paths of objects (gABI, "Shared Object Dependencies"; dlopen(3)).
use Rattle.std.specs.Prelude.{ℕ, Bool, false, ◌==◌, if◌then◌else◌, List, [], ◌∷◌, ◌++◌, map, Option, Some, None, codes, find, position}
use Rattle.std.specs.List.{list_any}
use Rattle.std.specs.Str.{bytes_eq}
use Rattle.ld_base.specs.declared.fault.NotAccepted.{NotAccepted}
use Rattle.ld_base.specs.declared.linking.Loaded.{Loaded}
use Rattle.ld_base.specs.declared.object.Object.{Object}
use Rattle.ld_base.specs.declared.parts.HashTable.{HashTable}
use Rattle.scope_rule.specs.declared.arrival.Arrival.{Arrival}

-- what reading a path gives: an object with its hash table, bytes that aren't accepted as one, no file, or a failed read
pub data Reading : Type 0 where
  here : Object → HashTable → Reading
  unaccepted : NotAccepted → Reading
  absent : Reading
  failed : Reading

-- the name of the linker's own object
abbrev pub linker_name : List ℕ
linker_name = codes "ldso.so.1"

-- the object gives itself this name (DT_SONAME)
abbrev pub is_named : List ℕ → Object → Bool
is_named name o = elim o.soname [ Some soname ↦ bytes_eq soname name | None ↦ false ]

-- the first object that is there, in load order, with this name, or with this path
abbrev pub with_soname : List Loaded → List ℕ → Option Loaded
with_soname objects name = find (λ o. is_named name o.object) objects

abbrev pub with_path : List Loaded → List ℕ → Option Loaded
with_path objects path = find (λ o. bytes_eq o.path path) objects

-- the place of the first new object with this name, or with this path
abbrev pub at_soname : List Arrival → List ℕ → Option ℕ
at_soname arrivals name = position (λ o. is_named name o.object) arrivals

abbrev pub at_path : List Arrival → List ℕ → Option ℕ
at_path arrivals path = position (λ o. bytes_eq o.path path) arrivals

-- a name with a slash is a path
abbrev pub is_path : List ℕ → Bool
is_path name = list_any (λ c. c == 47) name

-- the paths of a name in folders, in order
abbrev pub in_folders : List (List ℕ) → List ℕ → List (List ℕ)
in_folders folders name = map (λ folder. (folder ++ 47 ∷ []) ++ name) folders

-- the paths that a name may have, in order
abbrev pub candidates : List (List ℕ) → List ℕ → List (List ℕ)
candidates folders name = if is_path name then name ∷ [] else in_folders folders name
