-- Each mapped object was read, and the program alone as one.
use Rattle.std.proofs.Common.{◌≡◌, ⊎_elim, ℕ, suc, ◌+◌, ◌&&◌, Bool, true, false, List, [], ◌∷◌, map, Option, Some, None, Ok, refl, sym, ap, subst, ◌∙◌, arith}
use Rattle.std.specs.List.{Contains, slice_get}
use Rattle.std.specs.Str.{bytes_eq}
use Rattle.std.proofs.lemmas.Bool.{and_parts}
use Rattle.std.proofs.lemmas.Slice.Eq.{bytes_eq-Decides}
use Rattle.ld_base.specs.declared.linking.Loaded.{Loaded}
use Rattle.ld_base.specs.declared.linking.State.{State as Doing}
use Rattle.ld_base.specs.declared.object.Object.{Object}
use Rattle.ld_base.specs.declared.parts.HashTable.{HashTable}
use Rattle.history_event.specs.declared.event.CloseAnswer.TheVariants as closes
use Rattle.history_event.specs.declared.event.Event.{Event}
use Rattle.history_event.specs.declared.event.Event.TheVariants as events
use Rattle.history_event.specs.declared.event.OpenAnswer.TheVariants as opens
use Rattle.history_event.specs.declared.event.OpenAsk.{OpenAsk}
use Rattle.history_event.specs.declared.event.Range.{Range}
use Rattle.history_event.specs.declared.event.SymAnswer.TheVariants as syms
use Rattle.scope_rule.specs.declared.arrival.Arrival.{Arrival}
use Rattle.scope_rule.specs.declared.namespace.Namespace.{Namespace}
use Rattle.scope_rule.specs.Finding.{Reading, absent, here, with_path}
use Rattle.scope_rule.specs.Load.{Brings, Load, Walk, found_by, record_of, records, records_of}
use Rattle.scope_rule.specs.Loads.{IsRead}
use Rattle.history_state.specs.State.{State, empty_namespace}
use Rattle.history_state.specs.After.{after}
use Rattle.history_state.specs.Allowed.{AllowedIn}
use Rattle.history_state.specs.Flags.{is_deepbind, is_global, is_noload}
use Rattle.history_state.specs.Legal.{Lawful}
use Rattle.history_state.specs.Objects.{is_startup}
use Rattle.history_state.specs.Opening.{Loads as LoadsName, OpensName, unplaced}
use Rattle.history_state.specs.Read.{BeginsUntouched, ObjectsAreRead, WasRead}
use Rattle.history_state.specs.Setting.{Machine, MayRead, ReadingsBy, Setting, load_of}
use Rattle.history_state.specs.Step.{die, dying_in, dying_object, initialise, loaded, lower, lowered_in, ready_in, ready_object, step, unmap}
use Rattle.history_state.specs.Lemmas.History.{by_lawful}
use Rattle.history_state.specs.Lemmas.Lists.{at_in, first_or_later, from_map, in_map, none_in, only_in}
use Rattle.history_state.specs.Lemmas.Accepting.{ReadLaw}
use Rattle.history_state.specs.Lemmas.Begun.{begins_untouched}
use Rattle.history_state.specs.Lemmas.Brought.{LoadLaws, all_at}
use Rattle.history_state.specs.Lemmas.Changed.{Leaves, leaves_dying, leaves_ready}
use Rattle.history_state.specs.Lemmas.Closed.{each_left, stayed}
use Rattle.history_state.specs.Lemmas.Good.{each_mapped}
use Rattle.history_state.specs.Lemmas.Imaged.{objects_open}
use Rattle.history_state.specs.Lemmas.Program.{begins_itself}

-- no two new objects were read at one path
abbrev pub OnceLaw : Type 0
OnceLaw = (load : Load) (w : Walk) → Brings load w → (i j : ℕ) (a b : Arrival) → slice_get w.arrivals i ≡ Some a → slice_get w.arrivals j ≡ Some b → a.path ≡ b.path → i ≡ j

-- ---- new objects

-- the new object of a record, and its place
abbrev Came : ℕ → List Arrival → Loaded → Type 0
Came serial os o = (k : ℕ) × (a : Arrival) × (slice_get os k ≡ Some a) × (o.serial ≡ serial + k) × (o.object ≡ a.object) × (o.table ≡ a.table)

came_by : (hart : ℕ) (deep : Bool) (serial : ℕ) (os : List Arrival) (founds : List (List ℕ)) (o : Loaded) → Contains (records hart deep serial os founds) o → Came serial os o
came_by hart deep serial [] founds o h = absurd (none_in o h)
came_by hart deep serial (a ∷ os) [] o h = absurd (none_in o h)
came_by hart deep serial (a ∷ os) (found ∷ founds) o h = ⊎_elim
    (λ (e : record_of hart deep serial a found ≡ o).
    let own : serial ≡ o.serial = ap (λ (q : Loaded). q.serial) e in
    (0, a, refl, omega (arith, own), sym (ap (λ (q : Loaded). q.object) e), sym (ap (λ (q : Loaded). q.table) e)))
    (λ (i : Contains (records hart deep (serial + 1) os founds) o).
    let r = came_by hart deep (serial + 1) os founds o i in
    let own : o.serial ≡ serial + 1 + r.0 = r.3 in
    (suc r.0, r.1, r.2, omega (arith, own), r.4, r.5))
    (first_or_later (record_of hart deep serial a found) (records hart deep (serial + 1) os founds) o h)

-- what a reading gives the machine gave
read_bytes : (w : Setting) (noload : Bool) (s : State) (name : List ℕ) (reading : List ℕ → Reading) → ReadingsBy noload w s name reading → (path : List ℕ) (o : Object) (table : HashTable)
    → reading path ≡ here o table → (bytes : List ℕ) × (w.machine.verdict bytes (is_startup s && bytes_eq name path) ≡ Ok (o, table))
read_bytes w true s name reading read path o table e = absurd (let d : here o table ≡ absent = sym e ∙ read path in cc)
read_bytes w false s name reading read path o table e = by (reading path) e (read path)
  where
    by : (r : Reading) → r ≡ here o table → MayRead w (is_startup s && bytes_eq name path) path r → (bytes : List ℕ) × (w.machine.verdict bytes (is_startup s && bytes_eq name path) ≡ Ok (o, table))
    by r is may = let at : MayRead w (is_startup s && bytes_eq name path) path (here o table) = subst (MayRead w (is_startup s && bytes_eq name path) path) is may in (at.0, at.2)

module _ (law : ReadLaw) (once : OnceLaw) where
  new_read : (w : Setting) (s : State) → BeginsUntouched s → (hart : ℕ) (ask : OpenAsk) (name : List ℕ) (id root : ℕ) (added : List Loaded) (ranges : List Range)
      → LoadsName w s hart ask name id root added ranges → (a : Loaded) → Contains added a → WasRead w.machine a
  new_read w s begun hart ask name id root added ranges loads a h =
      let load : Load = load_of w s hart id name loads.finds.reading in
      let walk : Walk = loads.finds.walk in
      let placed : map unplaced added ≡ records_of load (is_deepbind ask.flags) walk = loads.storage.same ∙ loads.finds.are in
      let inside : Contains (records_of load (is_deepbind ask.flags) walk) (unplaced a) = subst (λ (os : List Loaded). Contains os (unplaced a)) placed (in_map unplaced added a h) in
      let from : Came s.next walk.arrivals (unplaced a) = came_by hart (is_deepbind ask.flags) s.next walk.arrivals (found_by load walk) (unplaced a) inside in
      let read : IsRead load walk.arrivals from.1 = all_at (IsRead load walk.arrivals) walk.arrivals from.1 (law load walk loads.finds.brings) (at_in walk.arrivals from.0 from.1 from.2) in
      let gave = read_bytes w (is_noload ask.flags) s name loads.finds.reading loads.finds.read from.1.path from.1.object from.1.table read.read in
      record {
        bytes = gave.0;
        program = is_startup s && bytes_eq name from.1.path;
        is = subst (λ (o : Object). w.machine.verdict gave.0 (is_startup s && bytes_eq name from.1.path) ≡ Ok (o, a.table)) (sym from.4)
            (subst (λ (t : HashTable). w.machine.verdict gave.0 (is_startup s && bytes_eq name from.1.path) ≡ Ok (from.1.object, t)) (sym from.5) gave.1);
        first = λ test.
            let parts = and_parts (is_startup s) (bytes_eq name from.1.path) test in
            let same : name ≡ from.1.path = (bytes_eq-Decides name from.1.path).0 parts.1 in
            let unknown : with_path load.there load.name ≡ None = subst (λ (path : List ℕ). with_path load.there path ≡ None) (sym same) read.unknown in
            let begins = begins_itself load parts.0 unknown walk loads.finds.brings in
            let place : 0 ≡ from.0 = once load walk loads.finds.brings 0 from.0 begins.0 from.1 begins.1 from.2 (begins.2 ∙ same) in
            let own : a.serial ≡ s.next + from.0 = from.3 in
            let one : s.next ≡ 1 = (begun parts.0).next in
            omega (arith, own, one, place);
      }

  pub opens_read : (w : Setting) (s : State) → BeginsUntouched s → (hart : ℕ) (ask : OpenAsk) (id root : ℕ) (added : List Loaded) (ranges : List Range) (name : Option (List ℕ))
      → OpensName w s hart ask name id root added ranges → (a : Loaded) → Contains added a → WasRead w.machine a
  opens_read w s begun hart ask id root added ranges (Some name) loads a h = new_read w s begun hart ask name id root added ranges loads a h
  opens_read w s begun hart ask id root added ranges None program a h = absurd (none_in a (subst (λ (os : List Loaded). Contains os a) program.none h))

-- ---- each event

module _ (m : Machine) where
  abbrev Read : List Namespace → Type 0
  Read all = (ns : Namespace) (o : Loaded) → Contains all ns → Contains ns.objects o → WasRead m o

  read_each : (each : Loaded → Loaded) → Leaves each → (os : List Loaded) → ((q : Loaded) → Contains os q → WasRead m q) → (o : Loaded) → Contains (map each os) o → WasRead m o
  read_each each leaves os read o h =
      let at = from_map each os o h in
      let what = leaves at.0 in
      let was = read at.0 at.1 in
      subst (WasRead m) (sym what.1 ∙ at.2) (still at.0 what.0 was)
    where
      still : (q : Loaded) (d : Doing) → WasRead m q → WasRead m (record q { state = d })
      still q d r = record { bytes = r.bytes; program = r.program; is = r.is; first = r.first }

  read_lowered : (handle : ℕ) (all : List Namespace) → Read all → Read (map (lowered_in handle) all)
  read_lowered handle all read ms o there inside = each_mapped (lowered_in handle) all (λ n. Contains n.objects o → WasRead m o) (λ ns at h. read ns o at h) ms there inside

  read_dying : (hart : ℕ) (set : List ℕ) (all : List Namespace) → Read all → Read (map (dying_in hart set) all)
  read_dying hart set all read ms o there inside = each_mapped (dying_in hart set) all (λ n. Contains n.objects o → WasRead m o)
      (λ ns at h. read_each (dying_object hart set) (leaves_dying hart set) ns.objects (λ q i. read ns q at i) o h) ms there inside

  read_ready : (object : ℕ) (all : List Namespace) → Read all → Read (map (ready_in object) all)
  read_ready object all read ms o there inside = each_mapped (ready_in object) all (λ n. Contains n.objects o → WasRead m o)
      (λ ns at h. read_each (ready_object object) (leaves_ready object) ns.objects (λ q i. read ns q at i) o h) ms there inside

  read_step : ReadLaw → OnceLaw → (w : Setting) → w.machine ≡ m → (past : List Event) (s : State) (e : Event) → BeginsUntouched s → AllowedIn w past s e → Read s.namespaces → Read (step s e).namespaces
  unfolding loaded die lower unmap initialise
  read_step law once w same past s (events.Open hart ask (opens.Done id root added ranges)) begun may read = λ ns o there inside. ⊎_elim
      (λ (old : (ms : Namespace) × Contains s.namespaces ms × Contains ms.objects o). read old.0 o old.1 old.2)
      (λ (new : Contains added o). subst (λ (n : Machine). WasRead n o) same (opens_read law once w s begun hart ask id root added ranges ask.name may.name o new))
      (objects_open id added root (is_global ask.flags) s.namespaces ns o there inside)
  read_step law once w same past s (events.Open hart ask opens.Absent) begun may read = read
  read_step law once w same past s (events.Open hart ask (opens.Refused fault)) begun may read = read
  read_step law once w same past s (events.Close hart handle (closes.Done set)) begun may read = read_dying hart set (map (lowered_in handle) s.namespaces) (read_lowered handle s.namespaces read)
  read_step law once w same past s (events.Close hart handle (closes.Refused fault)) begun may read = read
  read_step law once w same past s (events.Unmapped hart set) begun may read = λ ns o there inside. each_left set s.namespaces (λ n. Contains n.objects o → WasRead m o) (λ ms at h. read ms o at (stayed set ms o h).0) ns there inside
  read_step law once w same past s (events.Grant number hart owner slot choice value) begun may read = read
  read_step law once w same past s (events.Bound number) begun may read = read
  read_step law once w same past s (events.Lost number saw) begun may read = read
  read_step law once w same past s (events.Unresolved hart owner slot choice) begun may read = read
  read_step law once w same past s (events.Sym hart ask (syms.Found serial index value)) begun may read = read
  read_step law once w same past s (events.Sym hart ask (syms.Refused fault)) begun may read = read
  read_step law once w same past s (events.Tls hart owner address) begun may read = read
  read_step law once w same past s (events.Init hart object) begun may read = read_ready object s.namespaces read
  read_step law once w same past s (events.Fini hart object) begun may read = read
  read_step law once w same past s (events.Wrote hart bytes) begun may read = read
  read_step law once w same past s (events.Told hart fault) begun may read = read
  read_step law once w same past s (events.Ended hart reason) begun may read = read

  pub objects_read : LoadLaws → ReadLaw → OnceLaw → (journal : List Event) → Lawful m journal → ObjectsAreRead m (after journal)
  objects_read loads law once journal lawful =
      let all : Read (after journal).namespaces = by_lawful m (λ s. Read s.namespaces)
      (λ ns o there inside. absurd (none_in o (subst (λ (n : Namespace). Contains n.objects o) (sym (only_in (empty_namespace 0) ns there)) inside)))
      (λ w past e same past_lawful read may. read_step law once w same past (after past) e (begins_untouched loads m past past_lawful) may read) journal lawful in
      λ ns o inside. all ns o inside.there inside.inside
