-- What is known of a name by what it finds.
use Rattle.std.proofs.Common.{◌≡◌, ◌+◌, ◌<◌, ◌==◌, ℕ, true, false, cond, List, [], ◌∷◌, ◌++◌, length, take, Option, Some, None, Ok, Err, Result, refl, sym, subst, append-nil, append_assoc, ◌∙◌, arith}
use Rattle.std.specs.List.{slice_get, AllByRecursion}
use Rattle.std.specs.Str.{bytes_eq}
use Rattle.std.proofs.ByRecursion.{All-push}
use Rattle.std.proofs.Math.Seq.{take-append_seam}
use Rattle.std.proofs.lemmas.Grind.{common_steps}
use Rattle.ld_base.specs.declared.fault.DlFault.TheVariants as faults
use Rattle.ld_base.specs.declared.fault.Shown.TheVariants as shown
use Rattle.ld_base.specs.declared.linking.Loaded.{Loaded}
use Rattle.ld_base.specs.declared.linking.State.{State}
use Rattle.ld_base.specs.declared.linking.State.TheVariants as states
use Rattle.scope_rule.specs.declared.arrival.Arrival.{Arrival}
use Rattle.scope_rule.specs.Finding.{Reading, here, unaccepted, absent, failed, is_named, linker_name, with_soname, with_path, at_soname, at_path, is_path, candidates}
use Rattle.scope_rule.specs.Load.{Load, Walk, Stop, refuses, waits, Found, present, fresh, nowhere, stops, use_in, use_of, by_reading, among, or_else, find_path, find_paths, find_opened, find_needed, find_root, finds, paths_of, take_found}
use Rattle.scope_rule.specs.Loads.{IsIn, WaitsForOne}
use Rattle.scope_rule.proofs.Lists.{found_in, placed_in, seam_at}

-- the paths all read as absent
abbrev pub NoneThere : Load → List (List ℕ) → Type 0
NoneThere load paths = AllByRecursion (λ path. load.reading path ≡ absent) paths

-- a serial that a name finds: the linker's, that of an object that was there, or that of one of so many new ones
pub data IsSerial (load : Load) (number many serial : ℕ) : Type 0 where
  linker : (number == 0) ≡ false → serial ≡ 0 → IsSerial load number many serial
  old : (o : Loaded) → IsIn load.there o → o.serial ≡ serial → use_of load.hart o ≡ present serial → IsSerial load number many serial
  new : (i : ℕ) → i < many → serial ≡ load.next + i → IsSerial load number many serial

-- a new object: at a path that the name may have, of no object before, and what reading it gives
pub record IsNew (load : Load) (number : ℕ) (arrivals : List Arrival) (name : List ℕ) (o : Arrival) : Type 0 where
  pub place : ℕ
  pub candidate : slice_get (paths_of load number name) place ≡ Some o.path
  pub earlier : NoneThere load (take place (paths_of load number name))
  pub unknown : with_path load.there o.path ≡ None
  pub unread : at_path arrivals o.path ≡ None
  pub read : load.reading o.path ≡ here o.object o.table

-- why a name stops a load: it has to wait for one object, or it is refused, but not for a missing library
abbrev StopsBy : Load → Stop → Type 0
StopsBy load (waits show) = WaitsForOne load show
StopsBy load (refuses fault) = (name : List ℕ) → fault ≡ faults.MissingLibrary name → ⊥

-- what is known by what a name finds; where it finds nothing, this
abbrev Ways : Load → ℕ → List Arrival → List ℕ → Type 0 → Found → Type 0
Ways load number arrivals name none (present serial) = IsSerial load number (length arrivals) serial
Ways load number arrivals name none (fresh o) = IsNew load number arrivals name o
Ways load number arrivals name none nowhere = none
Ways load number arrivals name none (stops why) = StopsBy load why

-- an object that is there
pub used_or_else : (hart : ℕ) (o : Loaded) (state : State) (other : Found) → or_else (use_in hart o state) other ≡ use_in hart o state
used_or_else hart o (states.Initialising h) other = elim (h == hart) as (λ v. or_else (cond v (present o.serial) (stops (waits (shown.Initialising o.serial)))) other ≡ cond v (present o.serial) (stops (waits (shown.Initialising o.serial)))) [ true ↦ refl | false ↦ refl ]
used_or_else hart o states.Ready other = refl
used_or_else hart o (states.Dying h) other = elim (h == hart) as (λ v. or_else (cond v (stops (refuses (faults.ClosingHere o.path))) (stops (waits (shown.Closing o.serial)))) other ≡ cond v (stops (refuses (faults.ClosingHere o.path))) (stops (waits (shown.Closing o.serial)))) [ true ↦ refl | false ↦ refl ]

module _ (load : Load) (number : ℕ) (arrivals : List Arrival) (name : List ℕ) where
  abbrev W : Type 0 → Found → Type 0
  W none found = Ways load number arrivals name none found

  abbrev paths : List (List ℕ)
  paths = paths_of load number name

  use_ways : (none : Type 0) (o : Loaded) → IsIn load.there o → (state : State) → use_of load.hart o ≡ use_in load.hart o state → W none (use_in load.hart o state)
  use_ways none o i (states.Initialising h) =
      elim (h == load.hart) as (λ v. use_of load.hart o ≡ cond v (present o.serial) (stops (waits (shown.Initialising o.serial))) → W none (cond v (present o.serial) (stops (waits (shown.Initialising o.serial)))))
      [ true ↦ λ e. old o i refl e | false ↦ λ e. record { object = o; there = i; busy = e } ]
  use_ways none o i states.Ready = λ e. old o i refl e
  use_ways none o i (states.Dying h) =
      elim (h == load.hart) as (λ v. use_of load.hart o ≡ cond v (stops (refuses (faults.ClosingHere o.path))) (stops (waits (shown.Closing o.serial))) → W none (cond v (stops (refuses (faults.ClosingHere o.path))) (stops (waits (shown.Closing o.serial)))))
      [ true ↦ λ e name d. absurd cc | false ↦ λ e. record { object = o; there = i; busy = e } ]

  among_ways : (none : Type 0) (o : Option Loaded) (place : Option ℕ) (other : Found) → ((x : Loaded) → o ≡ Some x → IsIn load.there x) → ((i : ℕ) → place ≡ Some i → i < length arrivals) → (o ≡ None → place ≡ None → W none other) → W none (among load o place other)
  among_ways none (Some x) place other known before rest = use_ways none x (known x refl) x.state refl
  among_ways none None (Some i) other known before rest = new i (before i refl) refl
  among_ways none None None other known before rest = rest refl refl

  read_ways : (path : List ℕ) (place : ℕ) → slice_get paths place ≡ Some path → NoneThere load (take place paths) → with_path load.there path ≡ None → at_path arrivals path ≡ None → (r : Reading) → load.reading path ≡ r → W (load.reading path ≡ absent) (by_reading path r)
  read_ways path place at earlier unknown unread (here o table) e = record { place = place; candidate = at; earlier = earlier; unknown = unknown; unread = unread; read = e }
  read_ways path place at earlier unknown unread (unaccepted broken) e = λ other d. absurd cc
  read_ways path place at earlier unknown unread absent e = e
  read_ways path place at earlier unknown unread failed e = λ other d. absurd cc

  path_ways : (path : List ℕ) (place : ℕ) → slice_get paths place ≡ Some path → NoneThere load (take place paths) → W (load.reading path ≡ absent) (find_path load arrivals path)
  unfolding find_path
  path_ways path place at earlier =
      among_ways (load.reading path ≡ absent) (with_path load.there path) (at_path arrivals path) (by_reading path (load.reading path))
      (λ x e. found_in (λ (y : Loaded). bytes_eq y.path path) load.there x e) (λ i e. placed_in (λ (y : Arrival). bytes_eq y.path path) arrivals i e)
      (λ e k. read_ways path place at earlier e k (load.reading path) refl)

  or_ways : (none some : Type 0) (found other : Found) → W none found → (none → W some other) → W some (or_else found other)
  or_ways none some (present serial) other h rest = h
  or_ways none some (fresh o) other h rest = h
  or_ways none some nowhere other h rest = rest h
  or_ways none some (stops why) other h rest = h

  -- the paths that are left, behind those at which there is nothing
  paths_ways : (front rest : List (List ℕ)) → paths ≡ front ++ rest → NoneThere load front → W (NoneThere load paths) (find_paths load arrivals rest)
  paths_ways front [] is none = rw (is ∙ append-nil front) none
  paths_ways front (path ∷ rest) is none =
      let at : slice_get (front ++ path ∷ rest) (length front) ≡ Some path = seam_at front path rest in
      let before : take (length front) (front ++ path ∷ rest) ≡ front = take-append_seam front (path ∷ rest) in
      or_ways (load.reading path ≡ absent) (NoneThere load paths) (find_path load arrivals path) (find_paths load arrivals rest) (path_ways path (length front) (rw is at) (rw (is, before) none))
      (λ e. paths_ways (front ++ path ∷ []) rest (is ∙ sym (append_assoc front (path ∷ []) rest)) (All-push (λ p. load.reading p ≡ absent) front path none e))

  opened_ways : paths ≡ candidates load.folders name → W (NoneThere load paths) (find_opened load arrivals name)
  unfolding find_opened
  opened_ways e =
      let all : List (List ℕ) = candidates load.folders name in
      let rest : W (NoneThere load paths) (find_paths load arrivals all) = paths_ways [] all e tt in
      elim (is_path name) as (λ v. W (NoneThere load paths) (cond v (find_paths load arrivals all) (among load (with_soname load.there name) (at_soname arrivals name) (find_paths load arrivals all)))) [
        | true ↦ rest
        | false ↦ among_ways (NoneThere load paths) (with_soname load.there name) (at_soname arrivals name) (find_paths load arrivals all)
            (λ x e. found_in (λ (y : Loaded). is_named name y.object) load.there x e) (λ i e. placed_in (λ (y : Arrival). is_named name y.object) arrivals i e) (λ e k. rest)
      ]

  pub ways : W (NoneThere load paths) (finds load number arrivals name)
  unfolding finds
  ways =
      (elim (number == 0) as (λ first. (number == 0) ≡ first → W (NoneThere load paths) (cond first (find_root load arrivals name) (find_needed load arrivals name))) [
        | true ↦ λ first.
            (elim load.program as (λ program. load.program ≡ program → W (NoneThere load paths) (cond program (find_path load arrivals name) (find_opened load arrivals name))) [
              | true ↦ λ program.
                  let own : paths ≡ name ∷ [] = rw (program, first) refl in
                  let one : W (NoneThere load paths) (or_else (find_path load arrivals name) nowhere) = paths_ways [] (name ∷ []) own tt in
                  rw (nothing_else (find_path load arrivals name)) at one
              | false ↦ λ library. opened_ways (rw library refl)
            ]) refl
        | false ↦ λ later.
            elim (bytes_eq name linker_name) as (λ v. W (NoneThere load paths) (cond v (present 0) (find_opened load arrivals name))) [ true ↦ linker later refl | false ↦ opened_ways (rw later (grind (arith, common_steps))) ]
      ]) refl
    where
      nothing_else : (found : Found) → or_else found nowhere ≡ found
      nothing_else (present serial) = refl
      nothing_else (fresh o) = refl
      nothing_else nowhere = refl
      nothing_else (stops why) = refl

  -- what a name finds tells
  pub serial_found : (serial : ℕ) → finds load number arrivals name ≡ present serial → IsSerial load number (length arrivals) serial
  serial_found serial e = subst (W (NoneThere load paths)) e ways

  pub new_found : (o : Arrival) → finds load number arrivals name ≡ fresh o → IsNew load number arrivals name o
  new_found o e = subst (W (NoneThere load paths)) e ways

-- why the next name stops a load: it waits for one object, or no path that the name may have has a file, or it is refused otherwise
abbrev pub EndsBy : Load → ℕ → List ℕ → Stop → Type 0
EndsBy load number name (waits show) = WaitsForOne load show
EndsBy load number name (refuses fault) = (own : List ℕ) → fault ≡ faults.MissingLibrary own → (own ≡ name) × NoneThere load (paths_of load number name)

abbrev TakenBy : Load → ℕ → List ℕ → Result Walk Stop → Type 0
TakenBy load number name (Ok v) = Unit {0}
TakenBy load number name (Err why) = EndsBy load number name why

taken_by : (load : Load) (w : Walk) (name : List ℕ) (found : Found) → Ways load (length w.found) w.arrivals name (NoneThere load (paths_of load (length w.found) name)) found → TakenBy load (length w.found) name (take_found load w name found)
taken_by load w name (present serial) h = tt
taken_by load w name (fresh o) h = tt
taken_by load w name nowhere h = λ own e. (cc, h)
taken_by load w name (stops (waits show)) h = h
taken_by load w name (stops (refuses fault)) h = λ own e. absurd (h own e)

pub ended_by : (load : Load) (w : Walk) (name : List ℕ) (why : Stop) → take_found load w name (finds load (length w.found) w.arrivals name) ≡ Err why → EndsBy load (length w.found) name why
ended_by load w name why e = subst (TakenBy load (length w.found) name) e (taken_by load w name (finds load (length w.found) w.arrivals name) (ways load (length w.found) w.arrivals name))
