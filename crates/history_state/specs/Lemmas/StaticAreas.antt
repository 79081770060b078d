-- Each hart's static area has room for all static blocks.
use Rattle.std.proofs.Common.{◌≡◌, ⊎_elim, ℕ, ◌+◌, ◌*◌, ◌<◌, ◌≤◌, Bool, true, false, not, List, [], ◌∷◌, ◌++◌, map, Option, Some, None, refl, sym, ap, subst, ◌∙◌, arith}
use Rattle.std.specs.Prelude.{◌/◌, if◌then◌else◌, find, max}
use Rattle.std.specs.Option.{is_some, option_map_or}
use Rattle.std.specs.List.{Contains, range_with_len}
use Rattle.std.proofs.lemmas.Bool.{eq-eqb, eqb-true, true≢false}
use Rattle.std.proofs.lemmas.List.Elements.{Contains-append_cases, Contains-append_left, Contains-append_right}
use Rattle.address_space.specs.Pages.{without}
use Rattle.ld_base.specs.declared.linking.Loaded.{Loaded}
use Rattle.ld_base.specs.declared.object.TlsSeg.{TlsSeg}
use Rattle.history_event.specs.declared.event.CloseAnswer.TheVariants as closes
use Rattle.history_event.specs.declared.event.Event.{Event}
use Rattle.history_event.specs.declared.event.Event.TheVariants as events
use Rattle.history_event.specs.declared.event.OpenAnswer.TheVariants as opens
use Rattle.history_event.specs.declared.event.OpenAsk.{OpenAsk}
use Rattle.history_event.specs.declared.event.Purpose.{Purpose}
use Rattle.history_event.specs.declared.event.Purpose.TheVariants as purposes
use Rattle.history_event.specs.declared.event.Range.{Range}
use Rattle.history_event.specs.declared.event.SymAnswer.TheVariants as syms
use Rattle.scope_rule.specs.Opening.{opened}
use Rattle.scope_rule.specs.declared.namespace.Namespace.{Namespace}
use Rattle.history_state.specs.State.{State, Statics, empty_namespace}
use Rattle.history_state.specs.After.{after}
use Rattle.history_state.specs.Allowed.{AllowedIn}
use Rattle.history_state.specs.Areas.{Area, AreGiven, areas, free_pages, has_storage, object_area, stack_area, static_area, static_areas}
use Rattle.history_state.specs.Flags.{is_global}
use Rattle.history_state.specs.Laws.{HasStatic, StaticAreasHaveRoom}
use Rattle.history_state.specs.Legal.{Lawful}
use Rattle.history_state.specs.Lookup.{MayHaveBlock}
use Rattle.history_state.specs.Memory.{covers}
use Rattle.history_state.specs.Objects.{has, is_startup}
use Rattle.history_state.specs.Opening.{Opens, OpensName, wanted}
use Rattle.history_state.specs.Setting.{Machine, Setting}
use Rattle.history_state.specs.Step.{block_ranges, die, dying_in, dying_object, goes_with, initialise, loaded, lower, lowered_in, ready_in, ready_object, step, unmap, with_namespace}
use Rattle.history_state.specs.Storage.{HaveModules, is_static_area, pages_for, statics_with, tp_of}
use Rattle.history_state.specs.Lemmas.History.{by_lawful}
use Rattle.history_state.specs.Lemmas.Begun.{begins_untouched}
use Rattle.history_state.specs.Lemmas.Brought.{LoadLaws}
use Rattle.history_state.specs.Lemmas.Changed.{leaves_dying, leaves_ready}
use Rattle.history_state.specs.Lemmas.Closed.{each_left, stayed}
use Rattle.history_state.specs.Lemmas.Imaged.{objects_open}
use Rattle.history_state.specs.Lemmas.Lists.{first_or_later, found_in, from_filter, from_map, here, in_any, in_filter, in_map, later, none_in, not_found, only_in}
use Rattle.history_state.specs.Lemmas.Map.{covered}
use Rattle.history_state.specs.Lemmas.Moduled.{have_modules}
use Rattle.history_state.specs.Lemmas.Pages.{range_has}
use Rattle.history_state.specs.Lemmas.Ranges.{block_free}
use Rattle.history_state.specs.Lemmas.Static.{Static, Stay, Was, none_later, static_of, static_was, statics_apart, stay_lower, stay_map}

-- ---- what is given for what is wanted

abbrev pub For : Area → Range → Type 0
For a r = (r.pages ≡ a.pages) × (r.purpose ≡ a.purpose)

pub given_area : (free : List ℕ) (areas : List Area) (ranges : List Range) (left : List ℕ) → AreGiven free areas ranges left → (r : Range) → Contains ranges r → (a : Area) × Contains areas a × For a r
given_area free [] [] left g r h = absurd (none_in r h)
given_area free [] (q ∷ qs) left g r h = absurd g
given_area free (a ∷ more) [] left g r h = absurd g
given_area free (a ∷ more) (q ∷ qs) left g r h = ⊎_elim
    (λ (e : q ≡ r). (a, here a more, subst (For a) e (g.0.pages, g.0.purpose)))
    (λ (i : Contains qs r). let rest = given_area (without free q.address q.pages) more qs left g.1 r i in (rest.0, later a more rest.0 rest.1, rest.2))
    (first_or_later q qs r h)

given_range : (free : List ℕ) (areas : List Area) (ranges : List Range) (left : List ℕ) → AreGiven free areas ranges left → (a : Area) → Contains areas a → (r : Range) × Contains ranges r × For a r
given_range free [] ranges left g a h = absurd (none_in a h)
given_range free (b ∷ more) [] left g a h = absurd g
given_range free (b ∷ more) (q ∷ qs) left g a h = ⊎_elim
    (λ (e : b ≡ a). (q, here q qs, subst (λ (x : Area). For x q) e (g.0.pages, g.0.purpose)))
    (λ (i : Contains more a). let rest = given_range (without free q.address q.pages) more qs left g.1 a i in (rest.0, later q qs rest.0 rest.1, rest.2))
    (first_or_later b more a h)

module _ (w : Setting) (s : State) (hart : ℕ) (ask : OpenAsk) (id root : ℕ) (added : List Loaded) (ranges : List Range) where
  of_range : (name : Option (List ℕ)) → OpensName w s hart ask name id root added ranges → (r : Range) → Contains ranges r → (a : Area) × Contains (wanted w s added) a × For a r
  of_range (Some name) loads r h = given_area (free_pages s.ranges) (wanted w s added) ranges loads.placed.left loads.placed.given r h
  of_range None program r h = absurd (none_in r (subst (λ (rs : List Range). Contains rs r) program.no_pages h))

  of_area : (name : Option (List ℕ)) → OpensName w s hart ask name id root added ranges → (o : Loaded) → Contains added o → (a : Area) → Contains (wanted w s added) a → (r : Range) × Contains ranges r × For a r
  of_area (Some name) loads o new a h = given_range (free_pages s.ranges) (wanted w s added) ranges loads.placed.left loads.placed.given a h
  of_area None program o new a h = absurd (none_in o (subst (λ (os : List Loaded). Contains os o) program.none new))

-- ---- what is wanted

-- pages for a hart's static area are static areas'
static_only : (st : Statics) (harts : ℕ) (added : List Loaded) (a : Area) (hart : ℕ) → Contains (areas true st harts added) a → a.purpose ≡ purposes.StaticTls hart → a.pages ≡ pages_for (st.tp + st.size)
static_only st harts added a hart h e = ⊎_elim
    (λ (i : Contains (map object_area added) a). let at = from_map object_area added a i in let d : purposes.Object at.0.serial ≡ purposes.StaticTls hart = ap (λ (x : Area). x.purpose) at.2 ∙ e in absurd cc)
    (λ (i : Contains (map stack_area (range_with_len 0 harts) ++ static_areas st harts added) a). ⊎_elim
    (λ (j : Contains (map stack_area (range_with_len 0 harts)) a). let at = from_map stack_area (range_with_len 0 harts) a j in let d : purposes.Stack at.0 ≡ purposes.StaticTls hart = ap (λ (x : Area). x.purpose) at.2 ∙ e in absurd cc)
    (λ (j : Contains (static_areas st harts added) a). stored (has_storage added) j)
    (Contains-append_cases (map stack_area (range_with_len 0 harts)) (static_areas st harts added) a i))
    (Contains-append_cases (map object_area added) (map stack_area (range_with_len 0 harts) ++ static_areas st harts added) a h)
  where
    stored : (t : Bool) → Contains (if t then map (static_area st added) (range_with_len 0 harts) else []) a → a.pages ≡ pages_for (st.tp + st.size)
    stored true j = let at = from_map (static_area st added) (range_with_len 0 harts) a j in ap (λ (x : Area). x.pages) (sym at.2)
    stored false j = absurd (none_in a j)

-- after startup there are none
none_static : (st : Statics) (harts : ℕ) (added : List Loaded) (a : Area) (hart : ℕ) → Contains (areas false st harts added) a → a.purpose ≡ purposes.StaticTls hart → ⊥
none_static st harts added a hart h e = ⊎_elim
    (λ (i : Contains (map object_area added) a). let at = from_map object_area added a i in let d : purposes.Object at.0.serial ≡ purposes.StaticTls hart = ap (λ (x : Area). x.purpose) at.2 ∙ e in absurd cc)
    (λ (i : Contains [] a). none_in a i)
    (Contains-append_cases (map object_area added) [] a h)

static_wanted : (st : Statics) (harts : ℕ) (added : List Loaded) (o : Loaded) (seg : TlsSeg) (hart : ℕ) → Contains added o → o.object.tls ≡ Some seg → hart < harts → Contains (areas true st harts added) (static_area st added hart)
static_wanted st harts added o seg hart new storage few =
    Contains-append_right (map object_area added) _ _
    (Contains-append_right (map stack_area (range_with_len 0 harts)) _ _
    (subst (λ (t : Bool). Contains (if t then map (static_area st added) (range_with_len 0 harts) else []) (static_area st added hart))
    (sym (in_any (λ (x : Loaded). is_some x.object.tls) added o new (ap is_some storage)))
    (in_map (static_area st added) (range_with_len 0 harts) hart (range_has 0 harts hart (omega arith) (omega (arith, few))))))

-- ---- each state

record Roomy (harts : ℕ) (all : List Namespace) (ranges : List Range) (st : Statics) : Type 0 where
  pages : (r : Range) (hart : ℕ) → Contains ranges r → r.purpose ≡ purposes.StaticTls hart → r.pages ≡ pages_for (st.tp + st.size)
  there : (ns : Namespace) (o : Loaded) (offset : ℕ) (seg : TlsSeg) (hart : ℕ) → Contains all ns → Contains ns.objects o → Static o offset seg → hart < harts
      → (r : Range) × Contains ranges r × (r.purpose ≡ purposes.StaticTls hart)

abbrev RoomyIn : Machine → State → Type 0
RoomyIn m s = Roomy m.harts s.namespaces s.ranges s.statics

roomy_stay : (harts : ℕ) (all more : List Namespace) (ranges : List Range) (st : Statics) → Stay all more → Roomy harts all ranges st → Roomy harts more ranges st
roomy_stay harts all more ranges st stay roomy = record {
  pages = roomy.pages;
  there = λ ns o offset seg hart there inside b few. let was = stay ns o there inside in roomy.there was.0 was.1 offset seg hart was.2 was.3 (static_was o was.1 offset seg was.4.1 was.4.2 b) few;
}

roomy_unmap : (m : Machine) (hart : ℕ) (set : List ℕ) (s : State) → RoomyIn m s → RoomyIn m (unmap hart set s)
unfolding unmap
roomy_unmap m hart set s roomy = record {
  pages = λ r h there e. roomy.pages r h (from_filter (λ (q : Range). not (goes_with set q)) s.ranges r there).0 e;
  there = λ ms o offset seg h there inside b few.
      let was = each_left set s.namespaces (λ n. Contains n.objects o → Was s.namespaces o) (λ ns at i. (ns, o, at, (stayed set ns o i).0, (refl, refl, refl))) ms there inside in
      let r = roomy.there was.0 was.1 offset seg h was.2 was.3 (static_was o was.1 offset seg was.4.1 was.4.2 b) few in
      (r.0, in_filter (λ (q : Range). not (goes_with set q)) s.ranges r.0 r.1 (stays r.0.purpose h r.2), r.2);
}
  where
    goes_by : Purpose → Bool
    goes_by (purposes.Object serial) = has set serial
    goes_by (purposes.Stack h) = false
    goes_by (purposes.StaticTls h) = false
    goes_by (purposes.Block h serial) = has set serial

    stays : (p : Purpose) (h : ℕ) → p ≡ purposes.StaticTls h → not (goes_by p) ≡ true
    stays p h e = ap (λ (x : Purpose). not (goes_by x)) e

roomy_block : (m : Machine) (s : State) (hart serial address : ℕ) → MayHaveBlock s hart serial address → RoomyIn m s → RoomyIn m (step s (events.Tls hart serial address))
roomy_block m s hart serial address may roomy =
    let free = block_free s hart serial address may in
    record {
      pages = λ r h there e. ⊎_elim
          (λ (old : Contains s.ranges r). roomy.pages r h old e)
          (λ (i : Contains (block_ranges s hart serial address) r).
          let is : free.0 ≡ r = only_in free.0 r (subst (λ (rs : List Range). Contains rs r) free.1 i) in
          let d : purposes.Block hart serial ≡ purposes.StaticTls h = sym free.3 ∙ ap (λ (x : Range). x.purpose) is ∙ e in absurd cc)
          (Contains-append_cases s.ranges (block_ranges s hart serial address) r there);
      there = λ ns o offset seg h there inside b few.
          let r = roomy.there ns o offset seg h there inside b few in
          (r.0, Contains-append_left s.ranges (block_ranges s hart serial address) r.0 r.1, r.2);
    }

roomy_open : LoadLaws → (m : Machine) (w : Setting) (past : List Event) → w.machine ≡ m → Lawful m past → (hart : ℕ) (ask : OpenAsk) (id root : ℕ) (added : List Loaded) (ranges : List Range)
    → Opens w (after past) hart ask id root added ranges → RoomyIn m (after past) → RoomyIn m (step (after past) (events.Open hart ask (opens.Done id root added ranges)))
unfolding loaded
roomy_open laws m w past same lawful hart ask id root added ranges may roomy = by (is_startup (after past)) refl (have_modules w (after past) hart ask id root added ranges ask.name may.name)
  where
    by : (startup : Bool) → is_startup (after past) ≡ startup → HaveModules startup (after past).modules (after past).statics added
        → Roomy m.harts (with_namespace id (λ n. opened n added root (is_global ask.flags)) (after past).namespaces) ((after past).ranges ++ ranges) (if startup then statics_with added (after past).statics else (after past).statics)
    by true startup have = record {
      pages = λ r h there e. ⊎_elim
          (λ (old : Contains (after past).ranges r). absurd (none_in r (subst (λ (rs : List Range). Contains rs r) (begins_untouched laws m past lawful startup).ranges old)))
          (λ (i : Contains ranges r).
          let a = of_range w (after past) hart ask id root added ranges ask.name may.name r i in
          a.2.0 ∙ static_only (statics_with added (after past).statics) w.machine.harts added a.0 h
          (subst (λ (t : Bool). Contains (areas t (statics_with added (after past).statics) w.machine.harts added) a.0) startup a.1) (sym a.2.1 ∙ e))
          (Contains-append_cases (after past).ranges ranges r there);
      there = λ ns o offset seg h there inside b few.
          let new = is_new ns o there inside in
          let area = static_wanted (statics_with added (after past).statics) w.machine.harts added o seg h new b.storage (subst (λ (n : Machine). h < n.harts) (sym same) few) in
          let r = of_area w (after past) hart ask id root added ranges ask.name may.name o new (static_area (statics_with added (after past).statics) added h)
          (subst (λ (t : Bool). Contains (areas t (statics_with added (after past).statics) w.machine.harts added) (static_area (statics_with added (after past).statics) added h)) (sym startup) area) in
          (r.0, Contains-append_right (after past).ranges ranges r.0 r.1, r.2.1);
    }
      where
        is_new : (ns : Namespace) (o : Loaded) → Contains (with_namespace id (λ n. opened n added root (is_global ask.flags)) (after past).namespaces) ns → Contains ns.objects o → Contains added o
        is_new ns o there inside = ⊎_elim
            (λ (old : (ms : Namespace) × Contains (after past).namespaces ms × Contains ms.objects o).
            absurd (none_in o (subst (λ (n : Namespace). Contains n.objects o) (sym (only_in (empty_namespace 0) old.0 (subst (λ (xs : List Namespace). Contains xs old.0) (begins_untouched laws m past lawful startup).namespaces old.1))) old.2)))
            (λ (i : Contains added o). i)
            (objects_open id added root (is_global ask.flags) (after past).namespaces ns o there inside)
    by false startup have = record {
      pages = λ r h there e. ⊎_elim
          (λ (old : Contains (after past).ranges r). roomy.pages r h old e)
          (λ (i : Contains ranges r).
          let a = of_range w (after past) hart ask id root added ranges ask.name may.name r i in
          absurd (none_static (statics_with added (after past).statics) w.machine.harts added a.0 h
          (subst (λ (t : Bool). Contains (areas t (statics_with added (after past).statics) w.machine.harts added) a.0) startup a.1) (sym a.2.1 ∙ e)))
          (Contains-append_cases (after past).ranges ranges r there);
      there = λ ns o offset seg h there inside b few. ⊎_elim
          (λ (was : (ms : Namespace) × Contains (after past).namespaces ms × Contains ms.objects o).
          let r = roomy.there was.0 o offset seg h was.1 was.2 b few in (r.0, Contains-append_left (after past).ranges ranges r.0 r.1, r.2))
          (λ (i : Contains added o). absurd (none_later (after past).modules (after past).statics added have o i offset seg b))
          (objects_open id added root (is_global ask.flags) (after past).namespaces ns o there inside);
    }

roomy_step : LoadLaws → (m : Machine) (w : Setting) (past : List Event) (e : Event) → w.machine ≡ m → Lawful m past → AllowedIn w past (after past) e → RoomyIn m (after past) → RoomyIn m (step (after past) e)
unfolding die lower initialise
roomy_step laws m w past (events.Open hart ask (opens.Done id root added ranges)) same lawful may roomy = roomy_open laws m w past same lawful hart ask id root added ranges may roomy
roomy_step laws m w past (events.Open hart ask opens.Absent) same lawful may roomy = roomy
roomy_step laws m w past (events.Open hart ask (opens.Refused fault)) same lawful may roomy = roomy
roomy_step laws m w past (events.Close hart handle (closes.Done set)) same lawful may roomy =
    roomy_stay m.harts (map (lowered_in handle) (after past).namespaces) _ (after past).ranges (after past).statics (stay_map (dying_in hart set) (dying_object hart set) (leaves_dying hart set) (λ ns. refl) (map (lowered_in handle) (after past).namespaces))
    (roomy_stay m.harts (after past).namespaces _ (after past).ranges (after past).statics (stay_lower handle (after past).namespaces) roomy)
roomy_step laws m w past (events.Close hart handle (closes.Refused fault)) same lawful may roomy = roomy
roomy_step laws m w past (events.Unmapped hart set) same lawful may roomy = roomy_unmap m hart set (after past) roomy
roomy_step laws m w past (events.Grant number hart owner slot choice value) same lawful may roomy = roomy
roomy_step laws m w past (events.Bound number) same lawful may roomy = roomy
roomy_step laws m w past (events.Lost number saw) same lawful may roomy = roomy
roomy_step laws m w past (events.Unresolved hart owner slot choice) same lawful may roomy = roomy
roomy_step laws m w past (events.Sym hart ask (syms.Found serial index value)) same lawful may roomy = roomy
roomy_step laws m w past (events.Sym hart ask (syms.Refused fault)) same lawful may roomy = roomy
roomy_step laws m w past (events.Tls hart owner address) same lawful may roomy = roomy_block m (after past) hart owner address may roomy
roomy_step laws m w past (events.Init hart object) same lawful may roomy =
    roomy_stay m.harts (after past).namespaces _ (after past).ranges (after past).statics (stay_map (ready_in object) (ready_object object) (leaves_ready object) (λ ns. refl) (after past).namespaces) roomy
roomy_step laws m w past (events.Fini hart object) same lawful may roomy = roomy
roomy_step laws m w past (events.Wrote hart bytes) same lawful may roomy = roomy
roomy_step laws m w past (events.Told hart fault) same lawful may roomy = roomy
roomy_step laws m w past (events.Ended hart reason) same lawful may roomy = roomy

roomy_after : LoadLaws → (m : Machine) (journal : List Event) → Lawful m journal → RoomyIn m (after journal)
roomy_after laws m journal lawful = by_lawful m (RoomyIn m)
    (record {
      pages = λ r hart there e. absurd (none_in r there);
      there = λ ns o offset seg hart there inside b few. absurd (none_in o (subst (λ (n : Namespace). Contains n.objects o) (sym (only_in (empty_namespace 0) ns there)) inside));
    })
    (λ w past e same past_lawful roomy may. roomy_step laws m w past e same past_lawful may roomy) journal lawful

-- ---- the law

static_purpose : (hart : ℕ) (p : Purpose) → is_static_area hart p ≡ true → p ≡ purposes.StaticTls hart
static_purpose hart (purposes.Object serial) e = absurd (true≢false (sym e))
static_purpose hart (purposes.Stack h) e = absurd (true≢false (sym e))
static_purpose hart (purposes.StaticTls h) e = ap (λ (n : ℕ). purposes.StaticTls n) (eqb-true h hart e)
static_purpose hart (purposes.Block h serial) e = absurd (true≢false (sym e))

purpose_static : (hart : ℕ) (p : Purpose) → p ≡ purposes.StaticTls hart → is_static_area hart p ≡ true
purpose_static hart p e = ap (is_static_area hart) e ∙ eq-eqb hart hart refl

pub areas_have_room : LoadLaws → (m : Machine) (journal : List Event) → Lawful m journal → StaticAreasHaveRoom m (after journal)
unfolding tp_of
areas_have_room laws m journal lawful = record { pages = roomy.pages; there = there; covered = λ o offset seg hart b few. at o offset seg hart b few }
  where
    roomy : RoomyIn m (after journal)
    roomy = roomy_after laws m journal lawful

    there : (o : Loaded) (offset : ℕ) (seg : TlsSeg) (hart : ℕ) → HasStatic (after journal) o offset seg → hart < m.harts → (r : Range) × Contains (after journal).ranges r × (r.purpose ≡ purposes.StaticTls hart)
    there o offset seg hart b few = roomy.there b.namespace o offset seg hart b.inside.there b.inside.inside (static_of (after journal) o offset seg b) few

    room : (bytes : ℕ) → bytes ≤ 4096 * max 1 ((bytes + 4095) / 4096)
    room bytes = omega arith

    at : (o : Loaded) (offset : ℕ) (seg : TlsSeg) (hart : ℕ) → HasStatic (after journal) o offset seg → hart < m.harts
        → (r : Range) × Contains (after journal).ranges r × (r.purpose ≡ purposes.StaticTls hart) × ((a : ℕ) → tp_of (after journal) hart + offset ≤ a → a < tp_of (after journal) hart + offset + seg.memsz → covers a r ≡ true)
    at o offset seg hart b few = by (find (λ r. is_static_area hart r.purpose) (after journal).ranges) refl
      where
        one : (r : Range) × Contains (after journal).ranges r × (r.purpose ≡ purposes.StaticTls hart)
        one = there o offset seg hart b few

        by : (found : Option Range) → find (λ r. is_static_area hart r.purpose) (after journal).ranges ≡ found
            → (r : Range) × Contains (after journal).ranges r × (r.purpose ≡ purposes.StaticTls hart)
            × ((a : ℕ) → option_map_or (λ r. r.address + (after journal).statics.tp) found 0 + offset ≤ a → a < option_map_or (λ r. r.address + (after journal).statics.tp) found 0 + offset + seg.memsz → covers a r ≡ true)
        by None e = absurd (true≢false (sym (purpose_static hart one.0.purpose one.2) ∙ not_found (λ (r : Range). is_static_area hart r.purpose) (after journal).ranges one.0 e one.1))
        by (Some r) e =
            let found = found_in (λ (q : Range). is_static_area hart q.purpose) (after journal).ranges r e in
            let purpose : r.purpose ≡ purposes.StaticTls hart = static_purpose hart r.purpose found.1 in
            let pages : r.pages ≡ pages_for ((after journal).statics.tp + (after journal).statics.size) = roomy.pages r hart found.0 purpose in
            let within : offset + seg.memsz ≤ (after journal).statics.size = (statics_apart laws m journal lawful).within o offset seg b in
            let all : (after journal).statics.tp + (after journal).statics.size ≤ 4096 * pages_for ((after journal).statics.tp + (after journal).statics.size) = room ((after journal).statics.tp + (after journal).statics.size) in
            (r, found.0, purpose, λ a from to. covered a r (omega (arith, from)) (omega (arith, to, pages, within, all)))
