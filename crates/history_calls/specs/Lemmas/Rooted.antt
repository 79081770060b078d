-- What is opened has a serial other than 0.
use Rattle.std.proofs.Common.{◌≡◌, ⊎_elim, ℕ, ◌+◌, ◌-◌, ◌≤◌, Bool, true, false, eqb, List, [], ◌∷◌, ◌++◌, map, Option, Some, None, refl, sym, ap, subst, ◌∙◌, arith}
use Rattle.std.specs.Prelude.{if◌then◌else◌, Ok, Err, ◌==◌}
use Rattle.std.specs.List.{Contains, find, list_any, slice_get}
use Rattle.std.proofs.lemmas.List.Elements.{Contains-push_cases}
use Rattle.ld_base.specs.declared.fault.DlFault.TheVariants as faults
use Rattle.ld_base.specs.declared.fault.Shown.TheVariants as shown
use Rattle.ld_base.specs.declared.linking.Loaded.{Loaded}
use Rattle.ld_base.specs.declared.linking.State.{State as Doing}
use Rattle.ld_base.specs.declared.linking.State.TheVariants as states
use Rattle.history_event.specs.declared.event.Event.{Event}
use Rattle.history_event.specs.declared.event.OpenAsk.{OpenAsk}
use Rattle.history_event.specs.declared.event.Range.{Range}
use Rattle.scope_rule.specs.Finding.{Reading, here as read_here, unaccepted, absent, failed, candidates, is_path}
use Rattle.scope_rule.specs.Load.{Brings, Load, Walk, Found, IsRoot, present, fresh, nowhere, stops, refuses, waits, among, by_reading, find_opened, find_path, find_paths, finds, or_else, start, take_found, use_in, walk}
use Rattle.scope_rule.specs.Loads.{IsFound}
use Rattle.scope_rule.specs.Opening.{opened, opens_after, raised}
use Rattle.scope_rule.specs.declared.namespace.Namespace.{Namespace}
use Rattle.scope_rule.specs.declared.namespace.OpenRec.{OpenRec}
use Rattle.history_state.specs.After.{after}
use Rattle.history_state.specs.Flags.{is_global}
use Rattle.history_state.specs.Legal.{Lawful}
use Rattle.history_state.specs.Opening.{Opens, OpensName}
use Rattle.history_state.specs.Setting.{Machine, Setting, load_of}
use Rattle.history_state.specs.State.{State, empty_namespace}
use Rattle.history_state.specs.Step.{die, dying_in, initialise, loaded, lower, lowered_in, lowered_open, namespace_before, ready_in, unmap}
use Rattle.history_state.specs.Lemmas.Brought.{LoadLaws}
use Rattle.history_state.specs.Lemmas.Closed.{each_left}
use Rattle.history_state.specs.Lemmas.Good.{Good, core, each_mapped}
use Rattle.history_state.specs.Lemmas.Lists.{found_in, from_filter, from_map, none_in, only_in}
use Rattle.history_state.specs.Lemmas.Opened.{before_of, members}
use Rattle.history_state.specs.Lemmas.Steps.{Law, by_law}

-- ---- what a name finds

-- a serial that is found isn't 0
abbrev SomeFound : Found → Type 0
SomeFound (present serial) = 1 ≤ serial
SomeFound (fresh o) = Unit {0}
SomeFound nowhere = Unit {0}
SomeFound (stops why) = Unit {0}

abbrev pub AllSome : List Loaded → Type 0
AllSome there = (o : Loaded) → Contains there o → 1 ≤ o.serial

some_if : (b : Bool) (x y : Found) → SomeFound x → SomeFound y → SomeFound (if b then x else y)
some_if true x y p q = p
some_if false x y p q = q

some_used : (hart : ℕ) (o : Loaded) (doing : Doing) → 1 ≤ o.serial → SomeFound (use_in hart o doing)
some_used hart o (states.Initialising h) some = some_if (h == hart) (present o.serial) (stops (waits (shown.Initialising o.serial))) some tt
some_used hart o states.Ready some = some
some_used hart o (states.Dying h) some = some_if (h == hart) (stops (refuses (faults.ClosingHere o.path))) (stops (waits (shown.Closing o.serial))) tt tt

some_read : (path : List ℕ) (r : Reading) → SomeFound (by_reading path r)
some_read path (read_here o table) = tt
some_read path (unaccepted broken) = tt
some_read path absent = tt
some_read path failed = tt

some_among : (load : Load) (objects : List Loaded) (p : Loaded → Bool) (other : Found) → AllSome objects → SomeFound other → SomeFound (among load (find p objects) None other)
some_among load objects p other all some = by (find p objects) refl
  where
    by : (found : Option Loaded) → find p objects ≡ found → SomeFound (among load found None other)
    by (Some o) e = some_used load.hart o o.state (all o (found_in p objects o e).0)
    by None e = some

some_else : (f g : Found) → SomeFound f → SomeFound g → SomeFound (or_else f g)
some_else (present serial) g p q = p
some_else (fresh o) g p q = tt
some_else nowhere g p q = q
some_else (stops why) g p q = tt

some_path : (load : Load) (path : List ℕ) → AllSome load.there → SomeFound (find_path load [] path)
unfolding find_path
some_path load path all = some_among load load.there _ (by_reading path (load.reading path)) all (some_read path (load.reading path))

some_paths : (load : Load) (paths : List (List ℕ)) → AllSome load.there → SomeFound (find_paths load [] paths)
some_paths load [] all = tt
some_paths load (path ∷ paths) all = some_else (find_path load [] path) (find_paths load [] paths) (some_path load path all) (some_paths load paths all)

some_opened : (load : Load) (name : List ℕ) → AllSome load.there → SomeFound (find_opened load [] name)
unfolding find_opened
some_opened load name all = some_if (is_path name) _ _ (some_paths load (candidates load.folders name) all)
    (some_among load load.there _ (find_paths load [] (candidates load.folders name)) all (some_paths load (candidates load.folders name) all))

some_first : (load : Load) (name : List ℕ) → AllSome load.there → SomeFound (finds load 0 [] name)
unfolding finds
some_first load name all = some_if load.program (find_path load [] name) (find_opened load [] name) (some_path load name all) (some_opened load name all)

-- ---- a root

second : {X : Type 0} (x y : X) → x ∷ [] ≡ y ∷ [] → x ≡ y
second x y e = cc

some_taken : (load : Load) (name : List ℕ) (f : Found) (last : Walk) (root : ℕ) → 1 ≤ load.next → SomeFound f → take_found load start name f ≡ Ok last → last.found ≡ root ∷ [] → 1 ≤ root
some_taken load name (present serial) last root first some e is =
    let walks : record { found = serial ∷ []; arrivals = [] } ≡ last = cc in
    let same : serial ≡ root = second serial root (ap (λ (w : Walk). w.found) walks ∙ is) in
    omega (arith, some, same)
some_taken load name (fresh o) last root first some e is =
    let walks : record { found = (load.next + 0) ∷ []; arrivals = o ∷ [] } ≡ last = cc in
    let same : load.next + 0 ≡ root = second (load.next + 0) root (ap (λ (w : Walk). w.found) walks ∙ is) in
    omega (arith, first, same)
some_taken load name nowhere last root first some e is = absurd (let d : Err (refuses (faults.MissingLibrary name)) ≡ Ok last = e in cc)
some_taken load name (stops why) last root first some e is = absurd (let d : Err why ≡ Ok last = e in cc)

-- what the first name finds (law of loads)
abbrev pub FindLaw : Type 0
FindLaw = (load : Load) (w : Walk) → Brings load w → (place serial : ℕ) → slice_get w.found place ≡ Some serial → IsFound load w place serial

some_root : FindLaw → (load : Load) (w : Walk) (root : ℕ) → AllSome load.there → 1 ≤ load.next → Brings load w → IsRoot w root → 1 ≤ root
some_root law load w root all first brings is =
    let x : IsFound load w 0 root = law load w brings 0 root is in
    let begins : start ≡ x.before = started x.before x.walked in
    by x.before begins x.after x.name x.by_finding x.found_after
  where
    started : (b : Walk) → walk load 0 ≡ Ok b → start ≡ b
    started b e = cc

    by : (b : Walk) → start ≡ b → (last : Walk) (name : List ℕ) → take_found load b name (finds load 0 b.arrivals name) ≡ Ok last → last.found ≡ b.found ++ root ∷ [] → 1 ≤ root
    by b e last name = subst (λ (v : Walk). take_found load v name (finds load 0 v.arrivals name) ≡ Ok last → last.found ≡ v.found ++ root ∷ [] → 1 ≤ root) e
        (some_taken load name (finds load 0 [] name) last root first (some_first load name all))

pub some_opening : FindLaw → (w : Setting) (s : State) → Good (core s) → (hart : ℕ) (ask : OpenAsk) (id root : ℕ) (added : List Loaded) (ranges : List Range) → Opens w s hart ask id root added ranges → 1 ≤ root
some_opening law w s good hart ask id root added ranges opens = by ask.name opens.name
  where
    there : AllSome (namespace_before s id).objects
    there o h = ⊎_elim
        (λ (i : Contains s.namespaces (namespace_before s id)). good.some (namespace_before s id) o (i, h))
        (λ (e : namespace_before s id ≡ empty_namespace id). absurd (none_in o (subst (λ (n : Namespace). Contains n.objects o) e h)))
        (before_of s id good).was

    by : (name : Option (List ℕ)) → OpensName w s hart ask name id root added ranges → 1 ≤ root
    by (Some name) l = some_root law (load_of w s hart id name l.finds.reading) l.finds.walk root there good.positive l.finds.brings l.finds.root_is
    by None p = let is : root ≡ 1 = p.program in omega (arith, is)

-- ---- every opening

abbrev Rooted : List Namespace → Type 0
Rooted all = (ns : Namespace) (r : OpenRec) → Contains all ns → Contains ns.opens r → 1 ≤ r.root

same_opens : (change : Namespace → Namespace) → ((ns : Namespace) → (change ns).opens ≡ ns.opens) → (all : List Namespace) → Rooted all → Rooted (map change all)
same_opens change same all rooted ms r there inside = each_mapped change all (λ n. Contains n.opens r → 1 ≤ r.root)
    (λ ns at h. rooted ns r at (subst (λ (rs : List OpenRec). Contains rs r) (same ns) h)) ms there inside

lowered_root : (handle : ℕ) (r : OpenRec) (b : Bool) → 1 ≤ r.root → 1 ≤ (if b then record r { count = r.count - 1 } else r).root
lowered_root handle r true some = some
lowered_root handle r false some = some

lowered : (handle : ℕ) (all : List Namespace) → Rooted all → Rooted (map (lowered_in handle) all)
lowered handle all rooted ms r there inside = each_mapped (lowered_in handle) all (λ n. Contains n.opens r → 1 ≤ r.root)
    (λ ns at h.
    let was = from_map (lowered_open handle) ns.opens r (from_filter _ (map (lowered_open handle) ns.opens) r h).0 in
    subst (λ (q : OpenRec). 1 ≤ q.root) was.2 (lowered_root handle was.0 (eqb was.0.root handle) (rooted ns was.0 at was.1))) ms there inside

raised_root : (r : OpenRec) (b : Bool) → 1 ≤ r.root → 1 ≤ (if b then record r { count = r.count + 1 } else r).root
raised_root r true some = some
raised_root r false some = some

opened_root : (root : ℕ) (opens : List OpenRec) → 1 ≤ root → ((r : OpenRec) → Contains opens r → 1 ≤ r.root) → (r : OpenRec) → Contains (opens_after root opens) r → 1 ≤ r.root
opened_root root opens some rooted r h = by (list_any (λ (q : OpenRec). eqb q.root root) opens) h
  where
    by : (t : Bool) → Contains (if t then map (raised root) opens else opens ++ record { root = root; count = 1 } ∷ []) r → 1 ≤ r.root
    by true i =
        let at = from_map (raised root) opens r i in
        subst (λ (q : OpenRec). 1 ≤ q.root) at.2 (raised_root at.0 (eqb at.0.root root) (rooted at.0 at.1))
    by false i = ⊎_elim
        (λ (old : Contains opens r). rooted r old)
        (λ (e : record { root = root; count = 1 } ≡ r). subst (λ (q : OpenRec). 1 ≤ q.root) e some)
        (Contains-push_cases opens (record { root = root; count = 1 }) r i)

root_law : FindLaw → Law (λ c. Rooted c.namespaces)
unfolding loaded die lower unmap initialise
root_law law = record {
  starts = λ ns r there inside. absurd (none_in r (subst (λ (n : Namespace). Contains n.opens r) (sym (only_in (empty_namespace 0) ns there)) inside));
  opens = λ w s hart ask id root added ranges good rooted may came ns r there inside. ⊎_elim
      (λ (is : ns ≡ opened (namespace_before s id) added root (is_global ask.flags)).
      opened_root root (namespace_before s id).opens (some_opening law w s good hart ask id root added ranges may) (before s id good rooted) r (subst (λ (n : Namespace). Contains n.opens r) is inside))
      (λ (old : Contains s.namespaces ns × (ns.id ≡ id → ⊥)). rooted ns r old.0 inside)
      (members s.namespaces id (namespace_before s id) (before_of s id good) (λ n. opened n added root (is_global ask.flags)) ns there);
  closes = λ s hart handle set good rooted closes. same_opens (dying_in hart set) (λ ns. refl) (map (lowered_in handle) s.namespaces) (lowered handle s.namespaces rooted);
  unmaps = λ s hart set good rooted may ms r there inside. each_left set s.namespaces (λ n. Contains n.opens r → 1 ≤ r.root) (λ ns at h. rooted ns r at h) ms there inside;
  grants = λ s number hart owner slot choice value good rooted may. rooted;
  settles = λ s number standing good rooted shut. rooted;
  initialises = λ s object good rooted. same_opens (ready_in object) (λ ns. refl) s.namespaces rooted;
}
  where
    before : (s : State) (id : ℕ) → Good (core s) → Rooted s.namespaces → (r : OpenRec) → Contains (namespace_before s id).opens r → 1 ≤ r.root
    before s id good rooted r h = ⊎_elim
        (λ (there : Contains s.namespaces (namespace_before s id)). rooted (namespace_before s id) r there h)
        (λ (is : namespace_before s id ≡ empty_namespace id). absurd (none_in r (subst (λ (n : Namespace). Contains n.opens r) is h)))
        (before_of s id good).was

pub rooted_after : LoadLaws → FindLaw → (m : Machine) (events : List Event) → Lawful m events → (ns : Namespace) (r : OpenRec) → Contains (after events).namespaces ns → Contains ns.opens r → 1 ≤ r.root
rooted_after laws law m events lawful = (by_law laws (λ c. Rooted c.namespaces) (root_law law) m events lawful).1
