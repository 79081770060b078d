-- What a load of files comes to, in the words of the history.
use Rattle.std.proofs.Common.{◌≡◌, ℕ, ◌<◌, ◌≤◌, Bool, true, false, ◌&&◌, List, [], ◌∷◌, length, Option, Some, None, Result, Ok, Err, refl, sym, ap, subst, ◌∙◌, ⊎_elim, arith}
use Rattle.std.specs.Prelude.{if◌then◌else◌}
use Rattle.std.specs.List.{slice_get}
use Rattle.std.specs.Str.{bytes_eq}
use Rattle.std.proofs.lemmas.Bool.{true≢false}
use Rattle.elf_object.specs.Verdict.{object_verdict}
use Rattle.ld_base.specs.declared.fault.DlFault.{DlFault}
use Rattle.ld_base.specs.declared.fault.DlFault.TheVariants as dl
use Rattle.ld_base.specs.declared.fault.NotAccepted.{NotAccepted}
use Rattle.ld_base.specs.declared.fault.Shown.{Shown}
use Rattle.ld_base.specs.declared.linking.File.{File}
use Rattle.ld_base.specs.declared.object.Object.{Object}
use Rattle.ld_base.specs.declared.parts.HashTable.{HashTable}
use Rattle.library_source.specs.Files.{AreFiles, Over, file_at}
use Rattle.history_event.specs.declared.event.OpenAsk.{OpenAsk}
use Rattle.history_calls.specs.CallLaws.Laws.{LeadsNowhere}
use Rattle.history_state.specs.Flags.{is_deepbind, is_noload}
use Rattle.history_state.specs.Objects.{is_startup}
use Rattle.history_state.specs.Opening.{Finds, IsNowhere, Refuses, stopped, lacks_version, there}
use Rattle.history_state.specs.Setting.{AreReadings, MayHold, MayRead, Readings, ReadingsBy, Setting, load_of}
use Rattle.history_state.specs.State.{State}
use Rattle.history_state.specs.Step.{namespace_before}
use Rattle.history_calls.specs.Laws.{BringsWithPreload, StopsWithPreload}
use Rattle.history_calls.specs.Waiting.{Waits}
use Rattle.load_walk.specs.Files.{as_read, file_as_read, load_over, load_until, load_unread, reading_of, reading_until}
use Rattle.load_walk.specs.Files.{load_of as asked_load}
use Rattle.load_walk.specs.Plan.{HasToWait, IsPlan, IsRefused, Lacks}
use Rattle.load_walk.specs.declared.ask.LoadPlan.{LoadPlan}
use Rattle.scope_rule.specs.Finding.{Reading, absent, failed}
use Rattle.scope_rule.specs.Load.{Brings, IsRoot, Load, Stop, Stops, Walk, asks, find_opened, find_path, finds, nowhere, records_of, refuses, start, step, take_found, waits}
use Rattle.scope_rule.specs.Loads.{alone, named_there}
use Rattle.scope_rule.specs.Needed.{version_fault}
use Rattle.scope_rule.specs.declared.arrival.Arrival.{Arrival}
use Rattle.scope_rule.specs.declared.namespace.Namespace.{Namespace}
use Rattle.load_walk.specs.declared.ask.LoadAsk.{LoadAsk}
use Rattle.load_walk.specs.declared.ask.LoadFault.{LoadFault}
use Rattle.load_walk.specs.declared.ask.LoadFault.TheVariants as loads
use Rattle.link_open_plan.specs.OpeningLoad.Finding.{FindsAll, IsMade, StopsAt, ask_of}

-- ---- the load

-- what is asked of a load, over some readings of paths
abbrev pub asked : State → ℕ → OpenAsk → List ℕ → List (List ℕ) → ℕ → (List ℕ → Reading) → Load
asked s hart ask name folders id reading = asked_load (ask_of s.next hart ask name folders) (there s id) reading

-- it is the history's, which has the preload names, too
load_is : (w : Setting) (s : State) (hart : ℕ) (ask : OpenAsk) (name : List ℕ) (id : ℕ) (reading : List ℕ → Reading) → is_startup s ≡ false
    → load_of w s hart id name reading ≡ record (asked s hart ask name w.folders id reading) { preload = w.preload }
load_is w s hart ask name id reading started =
    ap (λ (b : Bool). record { name = name; folders = w.folders; preload = w.preload; program = b; hart = hart; next = s.next; there = (namespace_before s id).objects; reading = reading }) started

brings : BringsWithPreload → (w : Setting) (s : State) (hart : ℕ) (ask : OpenAsk) (name : List ℕ) (id : ℕ) (reading : List ℕ → Reading) (walk : Walk) → is_startup s ≡ false
    → Brings (asked s hart ask name w.folders id reading) walk → Brings (load_of w s hart id name reading) walk
brings law w s hart ask name id reading walk started h =
    subst (λ (l : Load). Brings l walk) (sym (load_is w s hart ask name id reading started)) (law (asked s hart ask name w.folders id reading) w.preload walk refl h)

stops_for : StopsWithPreload → (w : Setting) (s : State) (hart : ℕ) (ask : OpenAsk) (name : List ℕ) (id : ℕ) (reading : List ℕ → Reading) (why : Stop) → is_startup s ≡ false
    → Stops (asked s hart ask name w.folders id reading) why → Stops (load_of w s hart id name reading) why
stops_for law w s hart ask name id reading why started h =
    subst (λ (l : Load). Stops l why) (sym (load_is w s hart ask name id reading started)) (law (asked s hart ask name w.folders id reading) w.preload why refl h)

records_are : (w : Setting) (s : State) (hart : ℕ) (ask : OpenAsk) (name : List ℕ) (id : ℕ) (reading : List ℕ → Reading) (deep : Bool) (walk : Walk) → is_startup s ≡ false
    → records_of (asked s hart ask name w.folders id reading) deep walk ≡ records_of (load_of w s hart id name reading) deep walk
records_are w s hart ask name id reading deep walk started = sym (ap (λ (l : Load). records_of l deep walk) (load_is w s hart ask name id reading started))

-- ---- readings

may_hold : (told : Option (List File)) (files : List File) (path : List ℕ) → AreFiles told files → MayHold told path (file_at files path)
may_hold None files path are = tt
may_hold (Some all) files path are = ap (λ (fs : List File). file_at fs path) (sym are)

may_read : (w : Setting) (program : Bool) (s : State) (hart : ℕ) (ask : OpenAsk) (name : List ℕ) (folders : List (List ℕ)) (path : List ℕ) (bytes : Option (List ℕ))
    → w.machine.verdict ≡ object_verdict → program ≡ false → MayHold w.files path bytes → MayRead w program path (file_as_read object_verdict (ask_of s.next hart ask name folders) path bytes)
may_read w program s hart ask name folders path None verdict is holds = holds
may_read w program s hart ask name folders path (Some bytes) verdict is holds = at (object_verdict bytes false) refl
  where
    same : (r : Result (Object × HashTable) NotAccepted) → object_verdict bytes false ≡ r → w.machine.verdict bytes program ≡ r
    same r e = ap (λ (v : List ℕ → Bool → Result (Object × HashTable) NotAccepted). v bytes program) verdict ∙ ap (object_verdict bytes) is ∙ e

    at : (r : Result (Object × HashTable) NotAccepted) → object_verdict bytes false ≡ r → MayRead w program path (as_read r)
    at (Ok read) e = (bytes, holds, same (Ok read) e)
    at (Err broken) e = (bytes, holds, same (Err broken) e)

are_readings : (w : Setting) (s : State) (hart : ℕ) (ask : OpenAsk) (name : List ℕ) (folders : List (List ℕ)) (files : List File) → is_startup s ≡ false → w.machine.verdict ≡ object_verdict
    → AreFiles w.files files → AreReadings w s name (reading_of object_verdict files (ask_of s.next hart ask name folders))
unfolding reading_of
are_readings w s hart ask name folders files started verdict are = λ path.
    may_read w (is_startup s && bytes_eq name path) s hart ask name folders path (file_at files path) verdict (ap (λ (b : Bool). b && bytes_eq name path) started)
    (may_hold w.files files path are)

-- the same, where the read of a path fails
until : (w : Setting) (s : State) (hart : ℕ) (ask : OpenAsk) (name : List ℕ) (folders : List (List ℕ)) (files : List File) (fault : DlFault)
    → AreReadings w s name (reading_of object_verdict files (ask_of s.next hart ask name folders)) → AreReadings w s name (reading_until object_verdict files (ask_of s.next hart ask name folders) fault)
until w s hart ask name folders files (dl.ReadFault at) h = λ path. by path (bytes_eq path at)
  where
    by : (path : List ℕ) (b : Bool)
        → MayRead w (is_startup s && bytes_eq name path) path (if b then failed else reading_of object_verdict files (ask_of s.next hart ask name folders) path)
    by path true = tt
    by path false = h path
until w s hart ask name folders files fault h = h

read_by : (w : Setting) (s : State) (ask : OpenAsk) (name : List ℕ) (reading : List ℕ → Reading) → is_noload ask.flags ≡ false → AreReadings w s name reading → Readings w s ask name reading
read_by w s ask name reading reads h = subst (λ (b : Bool). ReadingsBy b w s name reading) (sym reads) h

unread_by : (w : Setting) (s : State) (ask : OpenAsk) (name : List ℕ) → is_noload ask.flags ≡ true → Readings w s ask name (λ path. absent)
unread_by w s ask name noload = subst (λ (b : Bool). ReadingsBy b w s name (λ path. absent)) (sym noload) (λ path. refl)

-- ---- what a load comes to

pub root_of : (load : Load) (walk : Walk) → Brings load walk → (root : ℕ) × IsRoot walk root
root_of load walk h = by walk.arrivals walk.found h.all
  where
    first : (found : List ℕ) → 0 < length found → (root : ℕ) × (slice_get found 0 ≡ Some root)
    first [] less = absurd (omega (arith, less))
    first (x ∷ rest) less = (x, refl)

    by : (arrivals : List Arrival) (found : List ℕ) → length (asks load arrivals) ≤ length found → (root : ℕ) × (slice_get found 0 ≡ Some root)
    by [] found all = first found (omega (arith, all))
    by (o ∷ rest) found all = first found (omega (arith, all))

-- what holds of the load of a namespace holds of the history's
settled : (P : LoadAsk → Namespace → Type 0) (w : Setting) (s : State) (hart : ℕ) (ask : OpenAsk) (name : List ℕ) (id : ℕ) (ns : Namespace) (next : ℕ) (folders : List (List ℕ)) (files : Option (List File))
    → IsMade w s ask name id ns next folders files → P (ask_of next hart ask name folders) ns → P (ask_of s.next hart ask name w.folders) (namespace_before s id)
settled P w s hart ask name id ns next folders files made h =
    subst (λ (n : Namespace). P (ask_of s.next hart ask name w.folders) n) made.namespace
    (subst (λ (fs : List (List ℕ)). P (ask_of s.next hart ask name fs) ns) (sym made.folders_are)
    (subst (λ (k : ℕ). P (ask_of k hart ask name folders) ns) made.next_is h))

told : (w : Setting) (s : State) (ask : OpenAsk) (name : List ℕ) (id : ℕ) (ns : Namespace) (next : ℕ) (folders : List (List ℕ)) (files : Option (List File)) (all : List File)
    → IsMade w s ask name id ns next folders files → AreFiles files all → AreFiles w.files all
told w s ask name id ns next folders files all made are = subst (λ (t : Option (List File)). AreFiles t all) (sym made.files_are) are

deep_records : (w : Setting) (s : State) (hart : ℕ) (ask : OpenAsk) (name : List ℕ) (id : ℕ) (reading : List ℕ → Reading) (b : Bool) (walk : Walk) → is_startup s ≡ false
    → records_of (asked s hart ask name w.folders id reading) (b && true) walk ≡ records_of (load_of w s hart id name reading) b walk
deep_records w s hart ask name id reading true walk started = records_are w s hart ask name id reading true walk started
deep_records w s hart ask name id reading false walk started = records_are w s hart ask name id reading false walk started

pub plan_finds : BringsWithPreload → (w : Setting) (s : State) (hart : ℕ) (ask : OpenAsk) (name : List ℕ) (id : ℕ) (ns : Namespace) (next : ℕ) (folders : List (List ℕ)) (files : Option (List File)) (plan : LoadPlan)
    → IsMade w s ask name id ns next folders files → is_noload ask.flags ≡ false
    → Over files (IsPlan object_verdict (ask_of next hart ask name folders) ns plan) → FindsAll w s hart ask name id plan.root plan.added
plan_finds law w s hart ask name id ns next folders files plan made reads p =
    let is : IsPlan object_verdict (ask_of s.next hart ask name w.folders) (namespace_before s id) plan p.files =
    settled (λ a n. IsPlan object_verdict a n plan p.files) w s hart ask name id ns next folders files made p.holds in
    let reading : List ℕ → Reading = reading_of object_verdict p.files (ask_of s.next hart ask name w.folders) in
    record {
      finds = record {
        reading = reading;
        read = read_by w s ask name reading reads
            (are_readings w s hart ask name w.folders p.files made.started made.verdict (told w s ask name id ns next folders files p.files made p.are));
        walk = is.walk;
        brings = brings law w s hart ask name id reading is.walk made.started is.brings;
        root_is = is.root;
        are = is.added ∙ deep_records w s hart ask name id reading (is_deepbind ask.flags) is.walk made.started;
      };
      versions = is.versions;
    }

-- a load that is refused, or that has to wait
stopping : StopsWithPreload → (w : Setting) (s : State) (hart : ℕ) (ask : OpenAsk) (name : List ℕ) (id : ℕ) (ns : Namespace) (next : ℕ) (folders : List (List ℕ)) (files : Option (List File)) (all : List File)
    (fault : DlFault) → IsMade w s ask name id ns next folders files → is_noload ask.flags ≡ false → AreFiles w.files all
    → Stops (asked s hart ask name w.folders id (reading_until object_verdict all (ask_of s.next hart ask name w.folders) fault)) (refuses fault) → Refuses w s hart ask fault
stopping law w s hart ask name id ns next folders files all fault made reads are h = stopped name id fault (record {
  named = made.named;
  reading = reading_until object_verdict all (ask_of s.next hart ask name w.folders) fault;
  read = read_by w s ask name (reading_until object_verdict all (ask_of s.next hart ask name w.folders) fault) reads
      (until w s hart ask name w.folders all fault (are_readings w s hart ask name w.folders all made.started made.verdict are));
  loads = λ nowhere. true≢false (sym nowhere.noload ∙ reads);
  stops = stops_for law w s hart ask name id (reading_until object_verdict all (ask_of s.next hart ask name w.folders) fault) (refuses fault) made.started h;
})

lacking : BringsWithPreload → (w : Setting) (s : State) (hart : ℕ) (ask : OpenAsk) (name : List ℕ) (id : ℕ) (ns : Namespace) (next : ℕ) (folders : List (List ℕ)) (files : Option (List File)) (all : List File)
    (fault : DlFault) → IsMade w s ask name id ns next folders files → is_noload ask.flags ≡ false → AreFiles w.files all
    → Lacks (asked s hart ask name w.folders id (reading_of object_verdict all (ask_of s.next hart ask name w.folders))) (is_deepbind ask.flags && true) fault → Refuses w s hart ask fault
lacking law w s hart ask name id ns next folders files all fault made reads are h =
    let whole : List ℕ → Reading = reading_of object_verdict all (ask_of s.next hart ask name w.folders) in
    let root : (r : ℕ) × IsRoot h.walk r = root_of (asked s hart ask name w.folders id whole) h.walk h.brings in
    lacks_version name id fault (record {
      named = made.named;
      root = root.0;
      news = records_of (load_of w s hart id name whole) (is_deepbind ask.flags) h.walk;
      finds = record {
        reading = whole;
        read = read_by w s ask name whole reads (are_readings w s hart ask name w.folders all made.started made.verdict are);
        walk = h.walk;
        brings = brings law w s hart ask name id whole h.walk made.started h.brings;
        root_is = root.1;
        are = refl;
      };
      lacks = sym (ap (version_fault (there s id)) (deep_records w s hart ask name id whole (is_deepbind ask.flags) h.walk made.started)) ∙ h.lacks;
    })

pub plan_refused : BringsWithPreload → StopsWithPreload → (w : Setting) (s : State) (hart : ℕ) (ask : OpenAsk) (name : List ℕ) (id : ℕ) (ns : Namespace) (next misses misses' : ℕ)
    (folders : List (List ℕ)) (files : Option (List File)) (fault : DlFault) → IsMade w s ask name id ns next folders files → is_noload ask.flags ≡ false
    → Over files (IsRefused object_verdict (ask_of next hart ask name folders) ns.objects misses misses' fault) → Refuses w s hart ask fault
plan_refused brought stop w s hart ask name id ns next misses misses' folders files fault made reads p =
    let is : IsRefused object_verdict (ask_of s.next hart ask name w.folders) (namespace_before s id).objects misses misses' fault p.files =
    settled (λ a n. IsRefused object_verdict a n.objects misses misses' fault p.files) w s hart ask name id ns next folders files made p.holds in
    let are : AreFiles w.files p.files = told w s ask name id ns next folders files p.files made p.are in
    ⊎_elim
    (λ (h : Stops (load_until object_verdict fault (ask_of s.next hart ask name w.folders) (there s id) p.files) (refuses fault)).
    stopping stop w s hart ask name id ns next folders files p.files fault made reads are h)
    (λ (h : Lacks (load_over object_verdict (ask_of s.next hart ask name w.folders) (there s id) p.files) (is_deepbind ask.flags && true) fault).
    lacking brought w s hart ask name id ns next folders files p.files fault made reads are h)
    is.stops

pub plan_waits : StopsWithPreload → (w : Setting) (s : State) (hart : ℕ) (ask : OpenAsk) (name : List ℕ) (id : ℕ) (ns : Namespace) (next : ℕ) (folders : List (List ℕ)) (files : Option (List File)) (shown : Shown)
    → IsMade w s ask name id ns next folders files → is_noload ask.flags ≡ false
    → Over files (HasToWait object_verdict (ask_of next hart ask name folders) ns.objects shown) → Waits w s hart ask shown
plan_waits stop w s hart ask name id ns next folders files shown made reads p =
    let reading : List ℕ → Reading = reading_of object_verdict p.files (ask_of s.next hart ask name w.folders) in
    let is : Stops (asked s hart ask name w.folders id reading) (waits shown) =
    settled (λ a n. HasToWait object_verdict a n.objects shown p.files) w s hart ask name id ns next folders files made p.holds in
    record {
      name = name;
      id = id;
      named = made.named;
      reading = reading;
      read = read_by w s ask name reading reads
          (are_readings w s hart ask name w.folders p.files made.started made.verdict (told w s ask name id ns next folders files p.files made p.are));
      stops = stops_for stop w s hart ask name id reading (waits shown) made.started is;
    }

-- ---- where nothing is read

pub there_finds : BringsWithPreload → (w : Setting) (s : State) (hart : ℕ) (ask : OpenAsk) (name : List ℕ) (id root : ℕ) (ns : Namespace) (next : ℕ) (folders : List (List ℕ)) (files : Option (List File))
    → IsMade w s ask name id ns next folders files → is_noload ask.flags ≡ true
    → Brings (load_unread (ask_of next hart ask name folders) ns.objects) (alone root) → Finds w s hart ask name id root []
there_finds law w s hart ask name id root ns next folders files made noload h = record {
  reading = λ path. absent;
  read = unread_by w s ask name noload;
  walk = alone root;
  brings = brings law w s hart ask name id (λ path. absent) (alone root) made.started
      (settled (λ a n. Brings (load_unread a n.objects) (alone root)) w s hart ask name id ns next folders files made h);
  root_is = refl;
  are = refl;
}

pub there_is_none : LeadsNowhere → (w : Setting) (s : State) (hart : ℕ) (ask : OpenAsk) (name : List ℕ) (id : ℕ) (ns : Namespace) (next : ℕ) (folders : List (List ℕ)) (files : Option (List File))
    → IsMade w s ask name id ns next folders files → is_noload ask.flags ≡ true
    → named_there (load_unread (ask_of next hart ask name folders) ns.objects) ≡ None → IsNowhere w s hart ask name id
there_is_none law w s hart ask name id ns next folders files made noload none = record {
  noload = noload;
  none =
      let at : named_there (asked s hart ask name w.folders id (λ path. absent)) ≡ None =
      settled (λ a n. named_there (load_unread a n.objects) ≡ None) w s hart ask name id ns next folders files made none in
      subst (λ (l : Load). find_opened l [] l.name ≡ nowhere) (sym (load_is w s hart ask name id (λ path. absent) made.started))
      (law (record (asked s hart ask name w.folders id (λ path. absent)) { preload = w.preload }) refl (λ path. refl) at);
}

-- a load whose own name leads nowhere stops for that
nowhere_stops : (load : Load) → load.program ≡ false → find_opened load [] load.name ≡ nowhere → Stops load (refuses (dl.MissingLibrary load.name))
unfolding step finds
nowhere_stops load plain none = record {
  steps = 1;
  is =
      ap (λ (b : Bool). take_found load start load.name (if b then find_path load [] load.name else find_opened load [] load.name)) plain
      ∙ ap (take_found load start load.name) none;
}

-- an object that is there stops the load: the name leads somewhere
pub there_refused : StopsWithPreload → (w : Setting) (s : State) (hart : ℕ) (ask : OpenAsk) (name : List ℕ) (id : ℕ) (ns : Namespace) (next : ℕ) (folders : List (List ℕ)) (files : Option (List File))
    (fault : DlFault) → IsMade w s ask name id ns next folders files → is_noload ask.flags ≡ true → ((other : List ℕ) → fault ≡ dl.MissingLibrary other → ⊥) → ((load : Load) (one other : Stop) → Stops load one → Stops load other → one ≡ other)
    → Stops (load_unread (ask_of next hart ask name folders) ns.objects) (refuses fault) → Refuses w s hart ask fault
there_refused law w s hart ask name id ns next folders files fault made noload found one h =
    let is : Stops (load_of w s hart id name (λ path. absent)) (refuses fault) =
    stops_for law w s hart ask name id (λ path. absent) (refuses fault) made.started
    (settled (λ a n. Stops (load_unread a n.objects) (refuses fault)) w s hart ask name id ns next folders files made h) in
    stopped name id fault (record {
      named = made.named;
      reading = λ path. absent;
      read = unread_by w s ask name noload;
      loads = λ nowhere. found name (refused_one (one (load_of w s hart id name (λ path. absent)) (refuses fault) (refuses (dl.MissingLibrary name)) is
          (nowhere_stops (load_of w s hart id name (λ path. absent)) made.started nowhere.none)));
      stops = is;
    })
  where
    refused_one : refuses fault ≡ refuses (dl.MissingLibrary name) → fault ≡ dl.MissingLibrary name
    refused_one e = cc

pub there_waits : StopsWithPreload → (w : Setting) (s : State) (hart : ℕ) (ask : OpenAsk) (name : List ℕ) (id : ℕ) (ns : Namespace) (next : ℕ) (folders : List (List ℕ)) (files : Option (List File)) (shown : Shown)
    → IsMade w s ask name id ns next folders files → is_noload ask.flags ≡ true
    → Stops (load_unread (ask_of next hart ask name folders) ns.objects) (waits shown) → Waits w s hart ask shown
there_waits law w s hart ask name id ns next folders files shown made noload h = record {
  name = name;
  id = id;
  named = made.named;
  reading = λ path. absent;
  read = unread_by w s ask name noload;
  stops = stops_for law w s hart ask name id (λ path. absent) (waits shown) made.started
      (settled (λ a n. Stops (load_unread a n.objects) (waits shown)) w s hart ask name id ns next folders files made h);
}

-- ---- why a load stops

pub stops_at : (w : Setting) (s : State) (hart : ℕ) (ask : OpenAsk) (fault : LoadFault) → ((why : DlFault) → fault ≡ loads.Refused why → Refuses w s hart ask why) → ((shown : Shown) → fault ≡ loads.Wait shown → Waits w s hart ask shown)
    → StopsAt w s hart ask fault
stops_at w s hart ask (loads.Refused why) refused waiting = refused why refl
stops_at w s hart ask (loads.Wait shown) refused waiting = waiting shown refl
stops_at w s hart ask loads.Memory refused waiting = tt
