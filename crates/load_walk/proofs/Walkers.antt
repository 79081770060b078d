-- A walker goes through its load.
use Rattle.std.proofs.Common.{◌≡◌, ◌≢◌, ◌≤◌, ◌+◌, ◌==◌, ◌&&◌, ℕ, suc, Bool, true, false, cond, List, [], ◌∷◌, ◌++◌, length, Some, Result, Ok, Err, refl, sym, ap, subst, ◌∙◌, arith, add-one, append_assoc, append-nil, length-append}
use Rattle.std.specs.Prelude.{flat_map}
use Rattle.std.specs.List.{AllByRecursion, slice_get}
use Rattle.std.proofs.lemmas.Bool.{and_right, ne_eqb}
use Rattle.std.proofs.lemmas.Grind.{flat_map-append}
use Rattle.ld_base.specs.declared.fault.DlFault.{DlFault}
use Rattle.ld_base.specs.declared.fault.DlFault.TheVariants as dl
use Rattle.ld_base.specs.declared.fault.Shown.TheVariants as shown
use Rattle.ld_base.specs.declared.linking.State.{State}
use Rattle.ld_base.specs.declared.linking.State.TheVariants as states
use Rattle.ld_base.specs.declared.linking.Loaded.{Loaded}
use Rattle.scope_rule.specs.declared.arrival.Arrival.{Arrival}
use Rattle.scope_rule.specs.Finding.{Reading, here, absent}
use Rattle.scope_rule.specs.Load.{Load, Walk, Stop, Found, present, fresh, nowhere, stops, refuses, waits, use_in, use_of, needed_by, preload_of, asks, by_reading, finds, take_found, with_found, with_arrival, next_name, step, walk, Brings, Stops}
use Rattle.load_walk.specs.Files.{load_of}
use Rattle.load_walk.specs.Walking.{EndsSo, walk_of, Agrees, IsWalker, IsToRead, Means, EndsFor, EndsWith, Looks, more_names, grown}
use Rattle.load_walk.specs.declared.ask.LoadAsk.{LoadAsk}
use Rattle.load_walk.specs.declared.ask.LoadFault.{LoadFault}
use Rattle.load_walk.specs.declared.ask.LoadFault.TheVariants as faults
use Rattle.load_walk.specs.declared.finding.Finding.{Finding}
use Rattle.load_walk.specs.declared.finding.Finding.TheVariants as finding
use Rattle.load_walk.specs.declared.walker.Next.TheVariants as next
use Rattle.load_walk.specs.declared.walker.Walker.{Walker}

-- ---- the next name

-- what the next name leads to is the load's step
pub step_is : (load : Load) (w : Walk) (name : List ℕ) (found : Found) → next_name load w ≡ Some name → finds load (length w.found) w.arrivals name ≡ found → step load w ≡ take_found load w name found
unfolding step
step_is load w name found at is = rw (at, is) refl

-- the name stands where the load asks for it
pub asked : (ask : LoadAsk) (there : List Loaded) (w : Walker) (reading : List ℕ → Reading) (name : List ℕ) → IsWalker ask there w → slice_get w.names (length w.found) ≡ Some name → next_name (load_of ask there reading) (walk_of w) ≡ Some name
asked ask there w reading name is at = let P : List (List ℕ) → Type 0 = λ xs. slice_get xs (length w.found) ≡ Some name in subst P (is.names reading) at

-- what the search of the next name means
abbrev pub NextMeans : LoadAsk → List Loaded → Walker → List ℕ → Result Finding LoadFault → Type 0
NextMeans ask there w name result = (reading : List ℕ → Reading) → Agrees reading w → Means w reading result (finds (load_of ask there reading) (length w.found) w.arrivals name)

ends_for : (load : Load) (w : Walk) (name : List ℕ) (why : Stop) → walk load (length w.found) ≡ Ok w → next_name load w ≡ Some name → take_found load w name (finds load (length w.found) w.arrivals name) ≡ Err why → EndsFor load w why
ends_for load w name why walked next ends = record { name = name; walked = walked; next = next; ends = ends }

module _ (ask : LoadAsk) (there : List Loaded) (w : Walker) (name : List ℕ) (is : IsWalker ask there w) (at : slice_get w.names (length w.found) ≡ Some name) where
  pub looks_found : (serial : ℕ) → NextMeans ask there w name (Ok (finding.Found serial)) → Looks ask there w (Ok (next.Found serial))
  looks_found serial means = λ reading agrees. step_is (load_of ask there reading) (walk_of w) name (present serial) (asked ask there w reading name is at) (means reading agrees)

  pub looks_reads : (path : List ℕ) → NextMeans ask there w name (Ok (finding.Read path)) → Looks ask there w (Ok (next.Read path))
  looks_reads path means = record { unread = λ reading agrees. (means reading agrees).0; name = name; next = at; gives = λ reading agrees there. (means reading agrees).1 there }

  pub looks_missing : NextMeans ask there w name (Ok finding.Nowhere) → Looks ask there w (Err (faults.Refused (dl.MissingLibrary name)))
  looks_missing means = λ reading agrees.
      ends_for (load_of ask there reading) (walk_of w) name (refuses (dl.MissingLibrary name)) (is.steps reading agrees) (asked ask there w reading name is at)
      (ap (take_found (load_of ask there reading) (walk_of w) name) (means reading agrees))

  ends_refused : (reading : List ℕ → Reading) (fault : DlFault) (found : Found) → Agrees reading w → finds (load_of ask there reading) (length w.found) w.arrivals name ≡ found → Means w reading (Err (faults.Refused fault)) found → EndsWith (load_of ask there reading) (walk_of w) (faults.Refused fault)
  ends_refused reading (dl.ReadFault path) found agrees e means = means
  ends_refused reading fault found agrees e means =
      ends_for (load_of ask there reading) (walk_of w) name (refuses fault) (is.steps reading agrees) (asked ask there w reading name is at)
      (ap (take_found (load_of ask there reading) (walk_of w) name) (e ∙ means))

  pub looks_ends : (fault : LoadFault) → NextMeans ask there w name (Err fault) → Looks ask there w (Err fault)
  looks_ends (faults.Refused fault) means = λ reading agrees. ends_refused reading fault (finds (load_of ask there reading) (length w.found) w.arrivals name) agrees refl (means reading agrees)
  looks_ends (faults.Wait shown) means = λ reading agrees.
      ends_for (load_of ask there reading) (walk_of w) name (waits shown) (is.steps reading agrees) (asked ask there w reading name is at)
      (ap (take_found (load_of ask there reading) (walk_of w) name) (means reading agrees))
  looks_ends faults.Memory means = λ reading agrees. tt

-- ---- one name further

pub starts : (ask : LoadAsk) (there : List Loaded) → IsWalker ask there (record { names = ask.name ∷ []; found = []; arrivals = []; missed = [] })
starts ask there = record { names = λ reading. refl; steps = λ reading agrees. refl }

-- the walk after one more serial
walk_on : (load : Load) (w after : Walk) (s : ℕ) → walk load (length w.found) ≡ Ok w → step load w ≡ Ok after → after.found ≡ w.found ++ s ∷ [] → walk load (length after.found) ≡ Ok after
walk_on load w after s walked stepped is =
    let many : length after.found ≡ suc (length w.found) = ap length is ∙ length-append w.found (s ∷ []) ∙ add-one (length w.found) in
    rw (many, walked) stepped

pub found_on : (ask : LoadAsk) (there : List Loaded) (w : Walker) (serial : ℕ) → IsWalker ask there w → Looks ask there w (Ok (next.Found serial)) → IsWalker ask there (record w { found = w.found ++ serial ∷ [] })
found_on ask there w serial is looks = record {
  names = is.names;
  steps = λ reading agrees.
      let before : Agrees reading w = record { objects = agrees.objects; missed = agrees.missed } in
      walk_on (load_of ask there reading) (walk_of w) (with_found (walk_of w) serial) serial (is.steps reading before) (looks reading before) refl;
}

all_parts : {X : Type 0} (P : X → Type 0) (xs ys : List X) → AllByRecursion P (xs ++ ys) → AllByRecursion P xs × AllByRecursion P ys
all_parts P [] ys h = (tt, h)
all_parts P (x ∷ xs) ys h = let rest = all_parts P xs ys h.1 in ((h.0, rest.0), rest.1)

abbrev pub missed_on : Walker → List ℕ → Walker
missed_on w path = record w { missed = w.missed ++ path ∷ [] }

pub misses_on : (ask : LoadAsk) (there : List Loaded) (w : Walker) (path : List ℕ) → IsWalker ask there w → IsWalker ask there (missed_on w path)
misses_on ask there w path is = record {
  names = is.names;
  steps = λ reading agrees. is.steps reading (record { objects = agrees.objects; missed = (all_parts (λ p. reading p ≡ absent) w.missed (path ∷ []) agrees.missed).0 });
}

-- what one more new object asks for
asks_one_more : (ask : LoadAsk) (there : List Loaded) (reading : List ℕ → Reading) (w : Walker) (o : Arrival) → w.names ≡ asks (load_of ask there reading) w.arrivals → w.names ++ more_names ask w o ≡ asks (load_of ask there reading) (w.arrivals ++ o ∷ [])
asks_one_more ask there reading w o e = ap (λ (xs : List (List ℕ)). xs ++ more_names ask w o) e ∙ more w.arrivals refl
  where
    more : (arrivals : List Arrival) → w.arrivals ≡ arrivals → asks (load_of ask there reading) arrivals ++ more_names ask w o ≡ asks (load_of ask there reading) (arrivals ++ o ∷ [])
    more [] none = rw none (first ask.program)
      where
        first : (program : Bool) → (ask.name ∷ []) ++ ((cond (program && true) ask.preload []) ++ o.object.needed) ≡ (ask.name ∷ cond program ask.preload []) ++ (o.object.needed ++ [])
        first true = rw append-nil refl
        first false = rw append-nil refl
    more (x ∷ xs) some =
        let load : Load = load_of ask there reading in
        let front : List (List ℕ) = ask.name ∷ preload_of load in
        let later : (length w.arrivals == 0) ≡ false = rw some (ne_eqb (length (x ∷ xs)) 0 (λ d. absurd (omega arith))) in
        let off : (ask.program && length w.arrivals == 0) ≡ false = and_right ask.program (length w.arrivals == 0) later in
        let own : more_names ask w o ≡ o.object.needed = rw off refl in
        let tail : flat_map needed_by ((x ∷ xs) ++ o ∷ []) ≡ flat_map needed_by (x ∷ xs) ++ o.object.needed =
        flat_map-append needed_by (x ∷ xs) (o ∷ []) ∙ ap (λ (ys : List (List ℕ)). flat_map needed_by (x ∷ xs) ++ ys) (append-nil o.object.needed) in
        ap (λ (ys : List (List ℕ)). (front ++ flat_map needed_by (x ∷ xs)) ++ ys) own
        ∙ append_assoc front (flat_map needed_by (x ∷ xs)) o.object.needed
        ∙ ap (λ (ys : List (List ℕ)). front ++ ys) (sym tail)

pub grows_on : (ask : LoadAsk) (there : List Loaded) (w : Walker) (o : Arrival) → IsWalker ask there w → IsToRead ask there w o.path → IsWalker ask there (grown ask w o)
grows_on ask there w o is to_read = record {
  names = λ reading. asks_one_more ask there reading w o (is.names reading);
  steps = λ reading agrees.
      let parts = all_parts (λ x. reading x.path ≡ here x.object x.table) w.arrivals (o ∷ []) agrees.objects in
      let before : Agrees reading w = record { objects = parts.0; missed = agrees.missed } in
      let at : reading o.path ≡ here o.object o.table = parts.1.0 in
      let read : finds (load_of ask there reading) (length w.found) w.arrivals to_read.name ≡ fresh o = to_read.gives reading before (λ none. absurd (let d : here o.object o.table ≡ absent = sym at ∙ none in cc)) ∙ ap (by_reading o.path) at in
      let load : Load = load_of ask there reading in
      walk_on load (walk_of w) (with_arrival load (walk_of w) o) (ask.next + length w.arrivals) (is.steps reading before)
      (step_is load (walk_of w) to_read.name (fresh o) (asked ask there w reading to_read.name is to_read.next) read) refl;
}

-- ---- the end

pub brings_all : (ask : LoadAsk) (there : List Loaded) (w : Walker) (reading : List ℕ → Reading) → IsWalker ask there w → length w.names ≤ length w.found → Agrees reading w → Brings (load_of ask there reading) (walk_of w)
brings_all ask there w reading is all agrees = record {
  steps = length w.found;
  are = is.steps reading agrees;
  all = let P : List (List ℕ) → Type 0 = λ xs. length xs ≤ length w.found in subst P (is.names reading) all;
}

pub ends_stops : (load : Load) (w : Walk) (why : Stop) → EndsFor load w why → Stops load why
ends_stops load w why e = record {
  steps = suc (length w.found);
  is = let stepped : step load w ≡ take_found load w e.name (finds load (length w.found) w.arrivals e.name) = step_is load w e.name (finds load (length w.found) w.arrivals e.name) e.next refl in rw e.walked (stepped ∙ e.ends);
}

-- what is to be read ends the load
pub read_ends : (ask : LoadAsk) (there : List Loaded) (w : Walker) (path : List ℕ) (reading : List ℕ → Reading) (why : Stop) → IsWalker ask there w → IsToRead ask there w path → Agrees reading w → by_reading path (reading path) ≡ stops why → Stops (load_of ask there reading) why
read_ends ask there w path reading why is to_read agrees e =
    let there_is : reading path ≢ absent = λ none. absurd (let d : nowhere ≡ stops why = sym (ap (by_reading path) none) ∙ e in cc) in
    ends_stops (load_of ask there reading) (walk_of w) why
    (ends_for (load_of ask there reading) (walk_of w) to_read.name why (is.steps reading agrees) (asked ask there w reading to_read.name is to_read.next)
    (ap (take_found (load_of ask there reading) (walk_of w) to_read.name) (to_read.gives reading agrees there_is ∙ e)))

-- ---- where nothing is read

-- an object that is there is no missing library
missing_use : (hart : ℕ) (o : Loaded) (state : State) (name : List ℕ) → use_in hart o state ≡ stops (refuses (dl.MissingLibrary name)) → ⊥
missing_use hart o (states.Initialising h) name = elim (h == hart) as (λ v. cond v (present o.serial) (stops (waits (shown.Initialising o.serial))) ≡ stops (refuses (dl.MissingLibrary name)) → ⊥) [ true ↦ λ e. absurd cc | false ↦ λ e. absurd cc ]
missing_use hart o states.Ready name = λ e. absurd cc
missing_use hart o (states.Dying h) name = elim (h == hart) as (λ v. cond v (stops (refuses (dl.ClosingHere o.path))) (stops (waits (shown.Closing o.serial))) ≡ stops (refuses (dl.MissingLibrary name)) → ⊥) [ true ↦ λ e. absurd cc | false ↦ λ e. absurd cc ]

-- why an object that is there ends a load, as a fault says it
abbrev pub EndsUnread : Load → LoadFault → Type 0
EndsUnread load (faults.Refused fault) = Stops load (refuses fault) × ((name : List ℕ) → fault ≡ dl.MissingLibrary name → ⊥)
EndsUnread load (faults.Wait shown) = Stops load (waits shown)
EndsUnread load faults.Memory = Unit {0}

pub ends_unread : (load : Load) (o : Loaded) (fault : LoadFault) → ((why : Stop) → use_of load.hart o ≡ stops why → Stops load why) → EndsSo fault (use_of load.hart o) → EndsUnread load fault
ends_unread load o (faults.Refused (dl.ReadFault path)) law ends = absurd ends
ends_unread load o (faults.Refused fault) law ends = (law (refuses fault) ends, λ name e. missing_use load.hart o o.state name (ends ∙ ap (λ (f : DlFault). stops (refuses f)) e))
ends_unread load o (faults.Wait shown) law ends = law (waits shown) ends
ends_unread load o faults.Memory law ends = tt
