-- What a walker knows of the load that it goes through.
use Rattle.std.specs.Prelude.{◌≡◌, ◌≢◌, ◌≤◌, ◌+◌, ◌==◌, ◌&&◌, if◌then◌else◌, ℕ, false, List, [], ◌∷◌, ◌++◌, length, Some, None, Result, Ok, Err}
use Rattle.std.specs.List.{AllByRecursion, slice_get}
use Rattle.std.specs.Set.{is_member}
use Rattle.std.specs.Str.{bytes_eq}
use Rattle.ld_base.specs.declared.fault.DlFault.TheVariants as dl
use Rattle.ld_base.specs.declared.linking.Loaded.{Loaded}
use Rattle.scope_rule.specs.declared.arrival.Arrival.{Arrival}
use Rattle.scope_rule.specs.Finding.{Reading, here, absent, at_path}
use Rattle.scope_rule.specs.Load.{Load, Walk, Stop, Found, present, nowhere, stops, refuses, waits, asks, by_reading, finds, take_found, with_found, step, walk}
use Rattle.load_walk.specs.Files.{load_of}
use Rattle.load_walk.specs.declared.ask.LoadAsk.{LoadAsk}
use Rattle.load_walk.specs.declared.ask.LoadFault.{LoadFault}
use Rattle.load_walk.specs.declared.ask.LoadFault.TheVariants as faults
use Rattle.load_walk.specs.declared.finding.Finding.{Finding}
use Rattle.load_walk.specs.declared.finding.Finding.TheVariants as finding
use Rattle.load_walk.specs.declared.walker.Next.{Next}
use Rattle.load_walk.specs.declared.walker.Next.TheVariants as next
use Rattle.load_walk.specs.declared.walker.Walker.{Walker}

-- the walk so far
abbrev pub walk_of : Walker → Walk
walk_of w = record { found = w.found; arrivals = w.arrivals }

-- reading paths gives what was read so far
pub record Agrees (reading : List ℕ → Reading) (w : Walker) : Type 0 where
  pub objects : AllByRecursion (λ o. reading o.path ≡ here o.object o.table) w.arrivals
  pub missed : AllByRecursion (λ path. reading path ≡ absent) w.missed

-- the walker has the names that its load asks for, and went through them, whatever further paths read as
pub record IsWalker (ask : LoadAsk) (there : List Loaded) (w : Walker) : Type 0 where
  pub names : (reading : List ℕ → Reading) → w.names ≡ asks (load_of ask there reading) w.arrivals
  pub steps : (reading : List ℕ → Reading) → Agrees reading w → walk (load_of ask there reading) (length w.found) ≡ Ok (walk_of w)

-- a path that wasn't read yet
pub record IsUnread (w : Walker) (path : List ℕ) : Type 0 where
  pub unknown : at_path w.arrivals path ≡ None
  pub unmissed : is_member bytes_eq w.missed path ≡ false

-- what is found ends the load for this fault, which isn't that a read failed; want of memory says nothing of it
abbrev pub EndsSo : LoadFault → Found → Type 0
EndsSo (faults.Refused (dl.ReadFault path)) found = ⊥
EndsSo (faults.Refused fault) found = found ≡ stops (refuses fault)
EndsSo (faults.Wait shown) found = found ≡ stops (waits shown)
EndsSo faults.Memory found = Unit {0}

-- the serial of an object that may be used, or why the load ends
abbrev pub Uses : Result ℕ LoadFault → Found → Type 0
Uses (Ok serial) found = found ≡ present serial
Uses (Err fault) found = EndsSo fault found

-- what the search of a name answers, and what the name finds: where a path is to be read, that is what it reads as, unless
-- there is no file
abbrev pub Means : Walker → (List ℕ → Reading) → Result Finding LoadFault → Found → Type 0
Means w reading (Ok (finding.Found serial)) found = found ≡ present serial
Means w reading (Ok (finding.Read path)) found = IsUnread w path × (reading path ≢ absent → found ≡ by_reading path (reading path))
Means w reading (Ok finding.Nowhere) found = found ≡ nowhere
Means w reading (Err fault) found = EndsSo fault found

-- a search answers what its definition finds in the load, whatever further paths read as
abbrev pub Searches : LoadAsk → List Loaded → Walker → Result Finding LoadFault → (Load → Found) → Type 0
Searches ask there w result finds = (reading : List ℕ → Reading) → Agrees reading w → Means w reading result (finds (load_of ask there reading))

-- the next path to read is one of the next name's: what it reads as the name finds, unless there is no file
pub record IsToRead (ask : LoadAsk) (there : List Loaded) (w : Walker) (path : List ℕ) : Type 0 where
  pub unread : (reading : List ℕ → Reading) → Agrees reading w → IsUnread w path
  pub name : List ℕ
  pub next : slice_get w.names (length w.found) ≡ Some name
  pub gives : (reading : List ℕ → Reading) → Agrees reading w → reading path ≢ absent →
      finds (load_of ask there reading) (length w.found) w.arrivals name ≡ by_reading path (reading path)

-- the next name ends the load for this reason
pub record EndsFor (load : Load) (w : Walk) (why : Stop) : Type 0 where
  pub name : List ℕ
  pub walked : walk load (length w.found) ≡ Ok w
  pub next : slice_get (asks load w.arrivals) (length w.found) ≡ Some name
  pub ends : take_found load w name (finds load (length w.found) w.arrivals name) ≡ Err why

-- the load ends for this fault, which isn't that a read failed; want of memory says nothing of it
abbrev pub EndsWith : Load → Walk → LoadFault → Type 0
EndsWith load w (faults.Refused (dl.ReadFault path)) = ⊥
EndsWith load w (faults.Refused fault) = EndsFor load w (refuses fault)
EndsWith load w (faults.Wait shown) = EndsFor load w (waits shown)
EndsWith load w faults.Memory = Unit {0}

-- what comes next of a load: its next name finds a serial, or a path has to be read, or no name is left, or the next name
-- ends the load
abbrev pub Looks : LoadAsk → List Loaded → Walker → Result Next LoadFault → Type 0
Looks ask there w (Ok (next.Found serial)) = (reading : List ℕ → Reading) → Agrees reading w
    → step (load_of ask there reading) (walk_of w) ≡ Ok (with_found (walk_of w) serial)
Looks ask there w (Ok (next.Read path)) = IsToRead ask there w path
Looks ask there w (Ok next.Done) = length w.names ≤ length w.found
Looks ask there w (Err fault) = (reading : List ℕ → Reading) → Agrees reading w → EndsWith (load_of ask there reading) (walk_of w) fault

-- the names that one more new object asks for
abbrev pub more_names : LoadAsk → Walker → Arrival → List (List ℕ)
more_names ask w o = (if ask.program && length w.arrivals == 0 then ask.preload else []) ++ o.object.needed

-- the walker with the serial of a new object, which the next name found, and with the names that it asks for
abbrev pub announced : LoadAsk → Walker → Arrival → Walker
announced ask w o = record w { names = w.names ++ more_names ask w o; found = w.found ++ (ask.next + length w.arrivals) ∷ [] }

-- the walker with that object, too
abbrev pub grown : LoadAsk → Walker → Arrival → Walker
grown ask w o = record {
  names = w.names ++ more_names ask w o;
  found = w.found ++ (ask.next + length w.arrivals) ∷ [];
  arrivals = w.arrivals ++ o ∷ [];
  missed = w.missed;
}
