-- What holds of every load, in words of its own.
use Rattle.std.specs.Prelude.{◌≡◌, ◌<◌, ◌⊎◌, ◌||◌, ℕ, if◌then◌else◌, List, [], ◌∷◌, ◌++◌, length, take, filter, nat_le, Option, Some, None, Ok}
use Rattle.std.specs.Option.{option_or}
use Rattle.std.specs.List.{slice_get, AllByRecursion}
use Rattle.ld_base.specs.declared.fault.Shown.{Shown}
use Rattle.ld_base.specs.declared.linking.Loaded.{Loaded}
use Rattle.scope_rule.specs.declared.arrival.Arrival.{Arrival}
use Rattle.scope_rule.specs.Finding.{here, absent, is_path, with_path, with_soname}
use Rattle.scope_rule.specs.Load.{Load, Walk, present, stops, waits, asks, paths_of, use_of, finds, take_found, walk}

-- it is an element
abbrev pub IsIn : {X : Type 0} → List X → X → Type 0
IsIn xs x = (place : ℕ) × (slice_get xs place ≡ Some x)

-- it stands at the front
abbrev pub Begins : {X : Type 0} → List X → List X → Type 0
Begins {X} xs ys = (rest : List X) × (ys ≡ xs ++ rest)

-- no object that is there has a serial from the next one on, or found one
abbrev pub Closed : ℕ → List Loaded → Type 0
Closed next objects = AllByRecursion (λ o. (o.serial < next) × AllByRecursion (λ s. s < next) o.found) objects

-- those of some serials that are new
abbrev pub new_of : ℕ → List ℕ → List ℕ
new_of next serials = filter (λ s. nat_le next s) serials

-- the load has come so far, and this is the name that it asks for next
pub record ComesTo (load : Load) (before : Walk) (name : List ℕ) : Type 0 where
  pub steps : ℕ
  pub walked : walk load steps ≡ Ok before
  pub next : slice_get (asks load before.arrivals) (length before.found) ≡ Some name

-- a serial is what the name of its place finds, among the objects that were there and the new ones of the names before it
pub record IsFound (load : Load) (w : Walk) (place serial : ℕ) : Type 0 where
  pub name : List ℕ
  pub asked : slice_get (asks load w.arrivals) place ≡ Some name
  -- the names before it, and what they brought
  pub before : Walk
  pub walked : walk load place ≡ Ok before
  pub after : Walk
  pub by_finding : take_found load before name (finds load place before.arrivals name) ≡ Ok after
  pub found_after : after.found ≡ before.found ++ serial ∷ []

-- there is such an object, which the load's hart may use, or it is the linker's own
abbrev pub Stands : Load → List Loaded → ℕ → Type 0
Stands load objects serial = (serial ≡ 0) ⊎ ((o : Loaded) × IsIn objects o × (use_of load.hart o ≡ present serial))

-- how a new object was found: at the first path at which there is a file, of those that a name which was asked for may have. It
-- is the path of no object that was there, and the object is what reading it gives.
pub record IsRead (load : Load) (arrivals : List Arrival) (o : Arrival) : Type 0 where
  pub number : ℕ
  pub name : List ℕ
  pub asked : slice_get (asks load arrivals) number ≡ Some name
  pub place : ℕ
  pub candidate : slice_get (paths_of load number name) place ≡ Some o.path
  pub earlier : AllByRecursion (λ path. load.reading path ≡ absent) (take place (paths_of load number name))
  pub unknown : with_path load.there o.path ≡ None
  pub read : load.reading o.path ≡ here o.object o.table

-- a name stopped the load: no path that it may have has a file, and the names before it found something. The name of a program's
-- library comes after the program.
pub record IsMissing (load : Load) (name : List ℕ) : Type 0 where
  pub before : Walk
  pub comes : ComesTo load before name
  pub absent : AllByRecursion (λ path. load.reading path ≡ absent) (paths_of load (length before.found) name)

-- an object that was there before the load, and that another hart starts or closes
pub record WaitsForOne (load : Load) (shown : Shown) : Type 0 where
  pub object : Loaded
  pub there : IsIn load.there object
  pub busy : use_of load.hart object ≡ stops (waits shown)

-- ---- where nothing is read

-- nothing is to be read, as under RTLD_NOLOAD
abbrev pub ReadsNothing : Load → Type 0
ReadsNothing load = (path : List ℕ) → load.reading path ≡ absent

-- the object that is there at the first of some paths that has one
abbrev pub at_first : List Loaded → List (List ℕ) → Option Loaded
at_first there [] = None
at_first there (path ∷ paths) = option_or (with_path there path) (at_first there paths)

-- the object that is there for the load's own name: the one that gives itself this name, unless the name is a path, else the one at
-- the first of its paths that has one
abbrev pub named_there : Load → Option Loaded
named_there load = option_or (if load.program || is_path load.name then None
    else with_soname load.there load.name) (at_first load.there (paths_of load 0 load.name))

-- a load that brings its root alone
abbrev pub alone : ℕ → Walk
alone root = record { found = root ∷ []; arrivals = [] }
