-- What a load brings (gABI, "Shared Object Dependencies"; dlopen(3)).
--
-- A load asks for names, one after another: its own, and then the names of each new object in order. Each name finds
-- one object, of those that were there or of the new ones before it, or else a file that is read, which is a new object.
use Rattle.std.specs.Prelude.{◌≡◌, ◌≤◌, ℕ, zero, suc, ◌+◌, Bool, ◌==◌, ◌&&◌, if◌then◌else◌, List, [], ◌∷◌, ◌++◌, length, take, drop, flat_map, Option, Some}
use Rattle.std.specs.Prelude.{None, Result, Ok, Err}
use Rattle.std.specs.List.{slice_get}
use Rattle.std.specs.Str.{bytes_eq}
use Rattle.ld_base.specs.declared.fault.DlFault.{DlFault}
use Rattle.ld_base.specs.declared.fault.DlFault.TheVariants as faults
use Rattle.ld_base.specs.declared.fault.Shown.{Shown}
use Rattle.ld_base.specs.declared.fault.Shown.TheVariants as shown
use Rattle.ld_base.specs.declared.linking.Loaded.{Loaded}
use Rattle.ld_base.specs.declared.linking.State.{State}
use Rattle.ld_base.specs.declared.linking.State.TheVariants as states
use Rattle.scope_rule.specs.declared.arrival.Arrival.{Arrival}
use Rattle.scope_rule.specs.Finding.{Reading, here, unaccepted, absent, failed, linker_name, with_soname, with_path, at_soname, at_path, is_path, candidates}

-- a load: what is asked, the objects that are there before it, and what reading each path gives. Where nothing is to be read, as
-- under RTLD_NOLOAD, every reading is absent.
pub record Load : Type 0 where
  pub name : List ℕ
  pub folders : List (List ℕ)
  -- names that a program needs before its own
  pub preload : List (List ℕ)
  pub program : Bool
  pub hart : ℕ
  -- the serial of the first new object
  pub next : ℕ
  pub there : List Loaded
  pub reading : List ℕ → Reading

-- a load part way: the serial that each name so far found, and the new objects in the order in which they arrived
pub record Walk : Type 0 where
  pub found : List ℕ
  pub arrivals : List Arrival

-- why a load ends without objects: it is refused, or has to wait for another hart
pub data Stop : Type 0 where
  refuses : DlFault → Stop
  waits : Shown → Stop

-- what a name finds: an object that is present, since it was there or arrived before; a new one; nothing; or the end of the load
pub data Found : Type 0 where
  present : ℕ → Found
  fresh : Arrival → Found
  nowhere : Found
  stops : Stop → Found

-- ---- the names that are asked for

abbrev pub preload_of : Load → List (List ℕ)
preload_of load = if load.program then load.preload else []

abbrev pub needed_by : Arrival → List (List ℕ)
needed_by o = o.object.needed

-- the load's own name, then those of each new object; the first one's are the preload names, too, where it is the program
abbrev pub asks : Load → List Arrival → List (List ℕ)
asks load [] = load.name ∷ []
asks load (o ∷ rest) = (load.name ∷ preload_of load) ++ flat_map needed_by (o ∷ rest)

-- the paths that the name of this number may have: a program's own name is its path
abbrev pub paths_of : Load → ℕ → List ℕ → List (List ℕ)
paths_of load number name = if load.program && number == 0 then name ∷ [] else candidates load.folders name

-- ---- what a name finds

-- an object that is there: no other hart may start or close it, and the hart itself may not close it
abbrev pub use_in : ℕ → Loaded → State → Found
use_in hart o (states.Initialising h) = if h == hart then present o.serial else stops (waits (shown.Initialising o.serial))
use_in hart o states.Ready = present o.serial
use_in hart o (states.Dying h) = if h == hart then stops (refuses (faults.ClosingHere o.path)) else stops (waits (shown.Closing o.serial))

abbrev pub use_of : ℕ → Loaded → Found
use_of hart o = use_in hart o o.state

-- what reading a path finds
abbrev pub by_reading : List ℕ → Reading → Found
by_reading path (here o table) = fresh (record { path = path; object = o; table = table })
by_reading path (unaccepted broken) = stops (refuses (faults.NotAccepted path broken))
by_reading path absent = nowhere
by_reading path failed = stops (refuses (faults.ReadFault path))

-- an object that was there comes first, then a new one, then anything else
abbrev pub among : Load → Option Loaded → Option ℕ → Found → Found
among load (Some o) place other = use_of load.hart o
among load None (Some place) other = present (load.next + place)
among load None None other = other

-- the first of two, unless it is nothing
abbrev pub or_else : Found → Found → Found
or_else nowhere other = other
or_else found other = found

-- a path: the object with it, else what reading it gives
unfoldable pub find_path : Load → List Arrival → List ℕ → Found
find_path load arrivals path = among load (with_path load.there path) (at_path arrivals path) (by_reading path (load.reading path))

-- what the first of the paths finds that finds anything
abbrev pub find_paths : Load → List Arrival → List (List ℕ) → Found
find_paths load arrivals [] = nowhere
find_paths load arrivals (path ∷ paths) = or_else (find_path load arrivals path) (find_paths load arrivals paths)

-- a name as dlopen takes it: the object that gives itself this name, unless it is a path, else its paths
unfoldable pub find_opened : Load → List Arrival → List ℕ → Found
find_opened load arrivals name =
    if is_path name then find_paths load arrivals (candidates load.folders name)
    else among load (with_soname load.there name) (at_soname arrivals name) (find_paths load arrivals (candidates load.folders name))

-- a name that an object needs
abbrev pub find_needed : Load → List Arrival → List ℕ → Found
find_needed load arrivals name = if bytes_eq name linker_name then present 0 else find_opened load arrivals name

-- the load's own name: a program's is its path; what dlopen gets is looked for like any other name, the linker's too
abbrev pub find_root : Load → List Arrival → List ℕ → Found
find_root load arrivals name = if load.program then find_path load arrivals name else find_opened load arrivals name

-- the name of this number
unfoldable pub finds : Load → ℕ → List Arrival → List ℕ → Found
finds load number arrivals name = if number == 0 then find_root load arrivals name else find_needed load arrivals name

-- ---- one name after another

abbrev pub start : Walk
start = record { found = []; arrivals = [] }

-- after a name that found a present object; after one that found a new one
abbrev pub with_found : Walk → ℕ → Walk
with_found w serial = record { found = w.found ++ serial ∷ []; arrivals = w.arrivals }

abbrev pub with_arrival : Load → Walk → Arrival → Walk
with_arrival load w o = record { found = w.found ++ (load.next + length w.arrivals) ∷ []; arrivals = w.arrivals ++ o ∷ [] }

abbrev pub take_found : Load → Walk → List ℕ → Found → Result Walk Stop
take_found load w name (present serial) = Ok (with_found w serial)
take_found load w name (fresh o) = Ok (with_arrival load w o)
take_found load w name nowhere = Err (refuses (faults.MissingLibrary name))
take_found load w name (stops why) = Err why

-- the next name, if one is left
abbrev pub next_name : Load → Walk → Option (List ℕ)
next_name load w = slice_get (asks load w.arrivals) (length w.found)

abbrev pub take_name : Load → Walk → Option (List ℕ) → Result Walk Stop
take_name load w (Some name) = take_found load w name (finds load (length w.found) w.arrivals name)
take_name load w None = Ok w

unfoldable pub step : Load → Walk → Result Walk Stop
step load w = take_name load w (next_name load w)

abbrev pub then_step : Load → Result Walk Stop → Result Walk Stop
then_step load (Ok w) = step load w
then_step load (Err why) = Err why

-- the load after so many names
abbrev pub walk : Load → ℕ → Result Walk Stop
walk load zero = Ok start
walk load (suc n) = then_step load (walk load n)

-- ---- what a load comes to

-- each name has found an object: these are their serials and the new objects. The first serial is the root.
pub record Brings (load : Load) (w : Walk) : Type 0 where
  pub steps : ℕ
  pub are : walk load steps ≡ Ok w
  pub all : length (asks load w.arrivals) ≤ length w.found

-- the load stops for this
pub record Stops (load : Load) (stop : Stop) : Type 0 where
  pub steps : ℕ
  pub is : walk load steps ≡ Err stop

-- the root of a walk has this serial
abbrev pub IsRoot : Walk → ℕ → Type 0
IsRoot w root = slice_get w.found 0 ≡ Some root

-- ---- the records of the new objects

-- what each object's names found, of serials in the order of their names; the first object has so many names more
abbrev pub shares : ℕ → List ℕ → List Arrival → List (List ℕ)
shares more serials [] = []
shares more serials (o ∷ rest) = take (more + length o.object.needed) serials ∷ shares 0 (drop (more + length o.object.needed) serials) rest

abbrev pub found_by : Load → Walk → List (List ℕ)
found_by load w = shares (length (preload_of load)) (drop 1 w.found) w.arrivals

-- the record of a new object, which isn't placed yet
abbrev pub record_of : ℕ → Bool → ℕ → Arrival → List ℕ → Loaded
record_of hart deep serial o found = record {
  serial = serial;
  path = o.path;
  object = o.object;
  table = o.table;
  base = 0;
  state = states.Initialising hart;
  «module» = None;
  deep = deep;
  found = found;
}

-- those of new objects, whose serials follow one another, with what their names found
abbrev pub records : ℕ → Bool → ℕ → List Arrival → List (List ℕ) → List Loaded
records hart deep serial [] founds = []
records hart deep serial (o ∷ rest) [] = []
records hart deep serial (o ∷ rest) (found ∷ founds) = record_of hart deep serial o found ∷ records hart deep (serial + 1) rest founds

abbrev pub records_of : Load → Bool → Walk → List Loaded
records_of load deep w = records load.hart deep load.next w.arrivals (found_by load w)
