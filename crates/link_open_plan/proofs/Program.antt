-- The load of a run's program, in the words of the history.
use Rattle.std.proofs.Common.{◌≡◌, ℕ, Bool, true, false, ◌&&◌, List, [], ◌∷◌, length, Option, Some, None, Result, Ok, Err, inl, inr, refl, sym, ap, subst, ◌∙◌, ⊎_elim}
use Rattle.std.specs.Prelude.{◌==◌, IsTrue, if◌then◌else◌}
use Rattle.std.specs.List.{AllByRecursion, slice_get}
use Rattle.std.specs.Str.{bytes_eq}
use Rattle.std.proofs.lemmas.Bool.{eqb-true, true≢false}
use Rattle.history_calls.specs.CallLaws.Counts.{AreMissed, ArePathsAtStart}
use Rattle.elf_object.specs.Verdict.{object_verdict}
use Rattle.ld_base.specs.declared.fault.DlFault.{DlFault}
use Rattle.ld_base.specs.declared.fault.DlFault.TheVariants as dl
use Rattle.ld_base.specs.declared.fault.NotAccepted.{NotAccepted}
use Rattle.ld_base.specs.declared.fault.Shown.{Shown}
use Rattle.ld_base.specs.declared.linking.File.{File}
use Rattle.ld_base.specs.declared.linking.Loaded.{Loaded}
use Rattle.ld_base.specs.declared.object.Object.{Object}
use Rattle.ld_base.specs.declared.parts.HashTable.{HashTable}
use Rattle.library_source.specs.Files.{AreFiles, Over, file_at}
use Rattle.history_state.specs.Flags.{are_flags, is_deepbind, is_noload}
use Rattle.history_state.specs.Opening.{IsNamed, Refuses, lacks_version, stopped}
use Rattle.history_state.specs.Setting.{AreReadings, MayHold, MayRead, Readings, ReadingsBy, Setting}
use Rattle.history_state.specs.State.{empty_namespace, empty_state}
use Rattle.history_calls.specs.declared.link_served.startup.Setup.{Setup}
use Rattle.history_calls.specs.Startup.{program_ask}
use Rattle.history_calls.specs.Waiting.{Waits}
use Rattle.load_walk.specs.Files.{as_read, file_as_read, load_over, load_until, reading_of, reading_until}
use Rattle.load_walk.specs.Plan.{HasToWait, IsMissed, IsPlan, IsRefused, Lacks}
use Rattle.load_walk.specs.declared.ask.LoadAsk.{LoadAsk}
use Rattle.load_walk.specs.declared.ask.LoadFault.{LoadFault}
use Rattle.load_walk.specs.declared.ask.LoadFault.TheVariants as loads
use Rattle.load_walk.specs.declared.ask.LoadPlan.{LoadPlan}
use Rattle.link_open_plan.specs.OpeningLoad.Finding.{FindsAll, StopsAt}
use Rattle.scope_rule.specs.Finding.{Reading, candidates, failed, here}
use Rattle.scope_rule.specs.Load.{IsRoot, Load, Stops, Walk, asks, paths_of, records_of, refuses}
use Rattle.scope_rule.specs.declared.arrival.Arrival.{Arrival}
use Rattle.scope_rule.specs.declared.namespace.Namespace.{Namespace}
use Rattle.link_open_plan.specs.Before.{WasRead}
use Rattle.link_open_plan.specs.Startup.{program_load, run_of}
use Rattle.link_open_plan.proofs.OpeningLoad.Loading.{root_of}

-- ---- each object was read

read_as : (r : Result (Object × HashTable) NotAccepted) (object : Object) (table : HashTable) → as_read r ≡ here object table → r ≡ Ok (object, table)
read_as (Ok read) object table is =
    let first : read.0 ≡ object = cc in
    let second : read.1 ≡ table = cc in
    ap (λ (o : Object). Ok (o, read.1)) first ∙ ap (λ (t : HashTable). Ok (object, t)) second
read_as (Err broken) object table is = absurd cc

of_file : (load : LoadAsk) (o : Loaded) (bytes : Option (List ℕ)) → file_as_read object_verdict load o.path bytes ≡ here o.object o.table → WasRead o
of_file load o None is = absurd cc
of_file load o (Some bytes) is = record {
  bytes = bytes;
  program = load.program && bytes_eq load.name o.path;
  is = read_as (object_verdict bytes (load.program && bytes_eq load.name o.path)) o.object o.table is;
}

each_read : (files : List File) (load : LoadAsk) (objects : List Loaded) → AllByRecursion (λ o. reading_of object_verdict files load o.path ≡ here o.object o.table) objects
    → AllByRecursion WasRead objects
unfolding reading_of
each_read files load [] all = tt
each_read files load (o ∷ rest) all = (of_file load o (file_at files o.path) all.0, each_read files load rest all.1)

pub were_read : (load : LoadAsk) (ns : Namespace) (plan : LoadPlan) (files : Option (List File)) → Over files (IsPlan object_verdict load ns plan) → AllByRecursion WasRead plan.added
were_read load ns plan files p = each_read p.files load plan.added p.holds.read

-- ---- what is asked

flags_by : (P : ℕ → Type 0) → P 0x102 → P 0x101 → (now : Bool) → P (if now then 0x102 else 0x101)
flags_by P bound lazy true = bound
flags_by P bound lazy false = lazy

pub is_named : (setup : Setup) → IsNamed empty_state (program_ask setup) setup.program 0
is_named setup = record {
  asked = record {
    short = refl;
    flags = flags_by (λ flags. IsTrue (are_flags flags)) refl refl setup.bind_now;
    namespace = (refl, refl);
  };
  named = refl;
}

reads : (setup : Setup) → is_noload (program_ask setup).flags ≡ false
reads setup = flags_by (λ flags. is_noload flags ≡ false) refl refl setup.bind_now

not_deep : (setup : Setup) → is_deepbind (program_ask setup).flags ≡ false
not_deep setup = flags_by (λ flags. is_deepbind flags ≡ false) refl refl setup.bind_now

-- ---- readings

may_hold : (told : Option (List File)) (files : List File) (path : List ℕ) → AreFiles told files → MayHold told path (file_at files path)
may_hold None files path are = tt
may_hold (Some all) files path are = ap (λ (fs : List File). file_at fs path) (sym are)

module _ (setup : Setup) (told : Option (List File)) where
  abbrev pub w : Setting
  w = run_of setup told

  may_read : (path : List ℕ) (bytes : Option (List ℕ)) → MayHold told path bytes
      → MayRead w (bytes_eq setup.program path) path (file_as_read object_verdict (program_load 1 setup) path bytes)
  may_read path None holds = holds
  may_read path (Some bytes) holds = at (object_verdict bytes (bytes_eq setup.program path)) refl
    where
      at : (r : Result (Object × HashTable) NotAccepted) → object_verdict bytes (bytes_eq setup.program path) ≡ r → MayRead w (bytes_eq setup.program path) path (as_read r)
      at (Ok read) e = (bytes, holds, e)
      at (Err broken) e = (bytes, holds, e)

  are_readings : (files : List File) → AreFiles told files → AreReadings w empty_state setup.program (reading_of object_verdict files (program_load 1 setup))
  unfolding reading_of
  are_readings files are = λ path. may_read path (file_at files path) (may_hold told files path are)

  -- the same, where the read of a path fails
  until : (files : List File) (fault : DlFault) → AreReadings w empty_state setup.program (reading_of object_verdict files (program_load 1 setup))
      → AreReadings w empty_state setup.program (reading_until object_verdict files (program_load 1 setup) fault)
  until files (dl.ReadFault at) h = λ path. by path (bytes_eq path at)
    where
      by : (path : List ℕ) (b : Bool) → MayRead w (bytes_eq setup.program path) path (if b then failed else reading_of object_verdict files (program_load 1 setup) path)
      by path true = tt
      by path false = h path
  until files fault h = h

  read_by : (reading : List ℕ → Reading) → AreReadings w empty_state setup.program reading → Readings w empty_state (program_ask setup) setup.program reading
  read_by reading h = subst (λ (b : Bool). ReadingsBy b w empty_state setup.program reading) (sym (reads setup)) h

  read_over : (files : List File) → AreFiles told files → Readings w empty_state (program_ask setup) setup.program (reading_of object_verdict files (program_load 1 setup))
  read_over files are = read_by (reading_of object_verdict files (program_load 1 setup)) (are_readings files are)

  -- ---- what the load comes to

  records_are : (load : Load) (walk : Walk) → records_of load false walk ≡ records_of load (is_deepbind (program_ask setup).flags) walk
  records_are load walk = ap (λ (deep : Bool). records_of load deep walk) (sym (not_deep setup))

  pub program_finds : (plan : LoadPlan) → Over told (IsPlan object_verdict (program_load 1 setup) (empty_namespace 0) plan)
      → FindsAll w empty_state 0 (program_ask setup) setup.program 0 plan.root plan.added
  program_finds plan p = record {
    finds = record {
      reading = reading_of object_verdict p.files (program_load 1 setup);
      read = read_over p.files p.are;
      walk = p.holds.walk;
      brings = p.holds.brings;
      root_is = p.holds.root;
      are = p.holds.added ∙ records_are (load_over object_verdict (program_load 1 setup) [] p.files) p.holds.walk;
    };
    versions = p.holds.versions;
  }

  stopping : (files : List File) (fault : DlFault) → AreFiles told files → Stops (load_until object_verdict fault (program_load 1 setup) [] files) (refuses fault)
      → Refuses w empty_state 0 (program_ask setup) fault
  stopping files fault are h = stopped setup.program 0 fault (record {
    named = is_named setup;
    reading = reading_until object_verdict files (program_load 1 setup) fault;
    read = read_by (reading_until object_verdict files (program_load 1 setup) fault) (until files fault (are_readings files are));
    loads = λ nowhere. true≢false (sym nowhere.noload ∙ reads setup);
    stops = h;
  })

  lacking : (files : List File) (fault : DlFault) → AreFiles told files → Lacks (load_over object_verdict (program_load 1 setup) [] files) false fault
      → Refuses w empty_state 0 (program_ask setup) fault
  lacking files fault are h =
      let load : Load = load_over object_verdict (program_load 1 setup) [] files in
      let root : (r : ℕ) × IsRoot h.walk r = root_of load h.walk h.brings in
      lacks_version setup.program 0 fault (record {
        named = is_named setup;
        root = root.0;
        news = records_of load false h.walk;
        finds = record {
          reading = reading_of object_verdict files (program_load 1 setup);
          read = read_over files are;
          walk = h.walk;
          brings = h.brings;
          root_is = root.1;
          are = records_are load h.walk;
        };
        lacks = h.lacks;
      })

  program_refused : (misses misses' : ℕ) (fault : DlFault) → Over told (IsRefused object_verdict (program_load 1 setup) [] misses misses' fault)
      → Refuses w empty_state 0 (program_ask setup) fault
  program_refused misses misses' fault p = ⊎_elim
      (λ (h : Stops (load_until object_verdict fault (program_load 1 setup) [] p.files) (refuses fault)). stopping p.files fault p.are h)
      (λ (h : Lacks (load_over object_verdict (program_load 1 setup) [] p.files) false fault). lacking p.files fault p.are h)
      p.holds.stops

  program_waits : (shown : Shown) → Over told (HasToWait object_verdict (program_load 1 setup) [] shown) → Waits w empty_state 0 (program_ask setup) shown
  program_waits shown p = record {
    name = setup.program;
    id = 0;
    named = is_named setup;
    reading = reading_of object_verdict p.files (program_load 1 setup);
    read = read_over p.files p.are;
    stops = p.holds;
  }

  pub program_stops : (misses misses' : ℕ) (fault : LoadFault)
      → ((why : DlFault) → fault ≡ loads.Refused why → Over told (IsRefused object_verdict (program_load 1 setup) [] misses misses' why))
      → ((shown : Shown) → fault ≡ loads.Wait shown → Over told (HasToWait object_verdict (program_load 1 setup) [] shown))
      → StopsAt w empty_state 0 (program_ask setup) fault
  program_stops misses misses' (loads.Refused why) refused waiting = program_refused misses misses' why (refused why refl)
  program_stops misses misses' (loads.Wait shown) refused waiting = program_waits shown (waiting shown refl)
  program_stops misses misses' loads.Memory refused waiting = tt

-- ---- what the counts show

-- the first name that is asked for is the program's own
first_name : (load : Load) (arrivals : List Arrival) (name : List ℕ) → slice_get (asks load arrivals) 0 ≡ Some name → name ≡ load.name
first_name load [] name is = let e : Some load.name ≡ Some name = is in cc
first_name load (o ∷ rest) name is = let e : Some load.name ≡ Some name = is in cc

paths_are : (setup : Setup) (load : Load) (number : ℕ) (arrivals : List Arrival) (name : List ℕ) → load.name ≡ setup.program → load.folders ≡ setup.folders → load.program ≡ true
    → slice_get (asks load arrivals) number ≡ Some name → ArePathsAtStart setup.folders setup.program name (paths_of load number name)
paths_are setup load number arrivals name named folders program next = by (number == 0) refl
  where
    paths : (first : Bool) → number == 0 ≡ first → paths_of load number name ≡ (if first then name ∷ [] else candidates load.folders name)
    paths first e =
        ap (λ (b : Bool). if b && number == 0 then name ∷ [] else candidates load.folders name) program
        ∙ ap (λ (b : Bool). if b then name ∷ [] else candidates load.folders name) e

    by : (first : Bool) → number == 0 ≡ first → ArePathsAtStart setup.folders setup.program name (paths_of load number name)
    by true e = inr
        (first_name load arrivals name (subst (λ (n : ℕ). slice_get (asks load arrivals) n ≡ Some name) (eqb-true number 0 e) next) ∙ named, paths true e)
    by false e = inl (paths false e ∙ ap (λ (fs : List (List ℕ)). candidates fs name) folders)

pub missed_at_start : (setup : Setup) (there : List Loaded) (misses misses' : ℕ) (told : Option (List File)) (name : List ℕ)
    → Over told (IsRefused object_verdict (program_load 1 setup) there misses misses' (dl.MissingLibrary name))
    → AreMissed (ArePathsAtStart setup.folders setup.program name) misses misses'
missed_at_start setup there misses misses' told name p =
    let load : Load = load_over object_verdict (program_load 1 setup) there p.files in
    let is : IsMissed load name misses misses' = p.holds.missed name refl in
    record {
      paths = paths_of load (length is.is.before.found) name;
      are = paths_are setup load (length is.is.before.found) is.is.before.arrivals name refl refl refl is.is.comes.next;
      each = is.each;
    }
