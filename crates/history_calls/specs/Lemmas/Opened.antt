-- What an opening gives is settled by the state, where the files are told and no read fails.
use Rattle.std.proofs.Common.{◌≡◌, ⊎_elim, ℕ, ◌+◌, ◌<◌, ◌≤◌, Bool, true, false, List, [], ◌∷◌, ◌++◌, map, Option, Some, None, refl, sym, ap, subst, ◌∙◌, arith}
use Rattle.std.specs.Prelude.{fold, max, ◌||◌, if◌then◌else◌}
use Rattle.std.specs.Option.{is_some, option_map_or}
use Rattle.std.specs.List.{range_with_len, slice_get}
use Rattle.std.proofs.lemmas.Bool.{cases_lt, true≢false}
use Rattle.ld_base.specs.declared.fault.DlFault.{DlFault}
use Rattle.ld_base.specs.declared.fault.DlFault.TheVariants as faults
use Rattle.ld_base.specs.declared.fault.Shown.{Shown}
use Rattle.ld_base.specs.declared.linking.File.{File}
use Rattle.ld_base.specs.declared.linking.Loaded.{Loaded}
use Rattle.history_event.specs.declared.event.Event.{Event}
use Rattle.history_event.specs.declared.event.Event.TheVariants as events
use Rattle.history_event.specs.declared.event.OpenAnswer.TheVariants as openings
use Rattle.history_event.specs.declared.event.OpenAsk.{OpenAsk}
use Rattle.history_event.specs.declared.event.Range.{Range}
use Rattle.scope_rule.specs.Finding.{Reading, absent}
use Rattle.scope_rule.specs.Load.{Brings, IsRoot, Load, Stop, Stops, Walk, find_opened, find_path, finds, nowhere, records_of, refuses, start, step, take_found, waits}
use Rattle.scope_rule.specs.Needed.{version_fault}
use Rattle.history_event.specs.declared.event.Purpose.TheVariants as purposes
use Rattle.history_state.specs.Areas.{Area, AreBased, AreGiven, LacksRoom, anywhere, areas, free_pages, has_storage, object_area, other_areas, stack_area, static_areas, storage_align}
use Rattle.history_state.specs.Asking.{AreNamespacesFull, IsAsked, IsBadNamespace, IsFreeNumber, IsNamespace, MayAsk}
use Rattle.history_state.specs.Flags.{is_deepbind, is_noload}
use Rattle.history_state.specs.Objects.{is_startup}
use Rattle.history_state.specs.Opening.{ArePlaced, Finds, HaveStorage, IsAbsent, IsNamed, IsNowhere, Opens, OpensName, Refuses, refused as relocation_refused, there, wanted}
use Rattle.history_state.specs.Opening.Refuses.{name_too_long, bad_flags, bad_namespace, namespaces_full, stopped, lacks_version, has_no_pages, unrelocated}
use Rattle.history_state.specs.Setting.{Readings, ReadingsBy, Setting, load_of}
use Rattle.history_state.specs.State.{State, Statics}
use Rattle.history_state.specs.Storage.{pages_for, statics_with, statics_with_one}
use Rattle.history_calls.specs.Answer.{Answer, returns, loading, refused, again}
use Rattle.history_calls.specs.Laws.{RefusesAsk, is_chance, is_read_fault}
use Rattle.history_calls.specs.Laws.RefusesAsk.{long, flags, space, full}
use Rattle.history_calls.specs.Waiting.{Waits}
use Rattle.history_calls.specs.Lemmas.Readings.{Near, brings_near, near_told, reading_told, stops_near}
use Rattle.history_calls.specs.Lemmas.Stored.{same_added, same_given, same_modules, same_room, unbased, given_or_lacking}
use Rattle.history_calls.specs.Lemmas.Unique.{both_found, not_both}

-- what a load comes to is one thing (laws of loads)
pub record OutcomeLaws : Type 0 where
  pub one_walk : (load : Load) (first second : Walk) → Brings load first → Brings load second → first ≡ second
  pub one_stop : (load : Load) (first second : Stop) → Stops load first → Stops load second → first ≡ second
  pub not_both : (load : Load) (w : Walk) (why : Stop) → Brings load w → Stops load why → ⊥

-- ---- what is asked

same_number : (s : State) (a b : ℕ) → IsFreeNumber s a → IsFreeNumber s b → a ≡ b
same_number s a b x y = ⊎_elim
    (λ (lt : a < b). absurd (true≢false (sym (y.least a lt) ∙ x.free)))
    (λ (ge : b ≤ a). ⊎_elim (λ (lt : b < a). absurd (true≢false (sym (x.least b lt) ∙ y.free))) (λ (le : a ≤ b). omega (arith, ge, le)) (cases_lt b a))
    (cases_lt a b)

same_namespace : (s : State) (ns : Option ℕ) (name : Option (List ℕ)) (a b : ℕ) → IsNamespace s ns name a → IsNamespace s ns name b → a ≡ b
same_namespace s (Some n) (Some name) a b x y = x.0 ∙ sym y.0
same_namespace s (Some n) None a b x y = x.0 ∙ sym y.0
same_namespace s None (Some name) a b x y = same_number s a b x y
same_namespace s None None a b x y = absurd x

good_or_bad : (s : State) (ns : Option ℕ) (name : Option (List ℕ)) (id bad : ℕ) → IsNamespace s ns name id → IsBadNamespace s ns name bad → ⊥
good_or_bad s (Some n) (Some name) id bad x y = true≢false (sym x.1 ∙ y.1)
good_or_bad s (Some n) None id bad x y = y.1 x.1
good_or_bad s None (Some name) id bad x y = y
good_or_bad s None None id bad x y = x

pub good_or_full : (s : State) (ns : Option ℕ) (name : Option (List ℕ)) (id : ℕ) → IsNamespace s ns name id → AreNamespacesFull s ns name → ⊥
good_or_full s (Some n) name id x y = y
good_or_full s None (Some name) id x y = true≢false (sym (y id x.below) ∙ x.free)
good_or_full s None None id x y = y

bad_or_full : (s : State) (ns : Option ℕ) (name : Option (List ℕ)) (bad : ℕ) → IsBadNamespace s ns name bad → AreNamespacesFull s ns name → ⊥
bad_or_full s (Some n) name bad x y = y
bad_or_full s None (Some name) bad x y = x
bad_or_full s None None bad x y = y

same_bad : (s : State) (ns : Option ℕ) (name : Option (List ℕ)) (a b : ℕ) → IsBadNamespace s ns name a → IsBadNamespace s ns name b → a ≡ b
same_bad s (Some n) (Some name) a b x y = x.0 ∙ sym y.0
same_bad s (Some n) None a b x y = x.0 ∙ sym y.0
same_bad s None (Some name) a b x y = absurd x
same_bad s None None a b x y = x ∙ sym y

-- ---- what an opening comes to

-- objects, absence, a refusal, or an object to wait for
pub data End : Type 0 where
  opened : (id root : ℕ) → List Loaded → List Range → End
  missing : End
  not_opened : DlFault → End
  waiting : Shown → End

abbrev pub is_read_end : End → Bool
is_read_end (opened id root added ranges) = false
is_read_end missing = false
is_read_end (not_opened fault) = is_read_fault fault
is_read_end (waiting for) = false

-- ---- a refusal before anything is looked for

clash : {b : Bool} → b ≡ true → b ≡ false → ⊥
clash t f = true≢false (sym t ∙ f)

early_not_asked : (s : State) (ask : OpenAsk) (id : ℕ) {fault : DlFault} → RefusesAsk s ask fault → IsAsked s ask id → ⊥
early_not_asked s ask id (long is) asked = clash is asked.short
early_not_asked s ask id (flags short bad) asked = clash asked.flags bad
early_not_asked s ask id (space number short good bad) asked = good_or_bad s ask.ns ask.name id number asked.namespace bad
early_not_asked s ask id (full short good none) asked = good_or_full s ask.ns ask.name id asked.namespace none

same_early : (s : State) (ask : OpenAsk) {fault other : DlFault} → RefusesAsk s ask fault → RefusesAsk s ask other → fault ≡ other
same_early s ask (long is) (long also) = refl
same_early s ask (long is) (flags short bad) = absurd (clash is short)
same_early s ask (long is) (space number short good bad) = absurd (clash is short)
same_early s ask (long is) (full short good none) = absurd (clash is short)
same_early s ask (flags short bad) (long is) = absurd (clash is short)
same_early s ask (flags short bad) (flags brief wrong) = refl
same_early s ask (flags short bad) (space number brief good wrong) = absurd (clash good bad)
same_early s ask (flags short bad) (full brief good none) = absurd (clash good bad)
same_early s ask (space number short good bad) (long is) = absurd (clash is short)
same_early s ask (space number short good bad) (flags brief wrong) = absurd (clash good wrong)
same_early s ask (space number short good bad) (space other brief well wrong) = ap faults.BadNamespace (same_bad s ask.ns ask.name number other bad wrong)
same_early s ask (space number short good bad) (full brief well none) = absurd (bad_or_full s ask.ns ask.name number bad none)
same_early s ask (full short good none) (long is) = absurd (clash is short)
same_early s ask (full short good none) (flags brief wrong) = absurd (clash good wrong)
same_early s ask (full short good none) (space number brief well bad) = absurd (bad_or_full s ask.ns ask.name number bad none)
same_early s ask (full short good none) (full brief well also) = refl

-- ---- what was found is placed

-- the end by the first relocation that is refused
abbrev end_of : ℕ → ℕ → List Loaded → List Range → Option DlFault → End
end_of id root added ranges (Some fault) = not_opened fault
end_of id root added ranges None = opened id root added ranges

pub record Placed (w : Setting) (s : State) (hart : ℕ) (ask : OpenAsk) (id root : ℕ) (news : List Loaded) (end : End) : Type 0 where
  pub versions : version_fault (there s id) news ≡ None
  pub added : List Loaded
  pub storage : HaveStorage s news added
  pub ranges : List Range
  pub placed : ArePlaced w s added ranges
  pub is : end ≡ end_of id root added ranges (relocation_refused s hart ask id root added ranges)

pub record Full (w : Setting) (s : State) (id : ℕ) (news : List Loaded) (pages : ℕ) : Type 0 where
  pub versions : version_fault (there s id) news ≡ None
  pub added : List Loaded
  pub storage : HaveStorage s news added
  pub lacks : LacksRoom (free_pages s.ranges) (wanted w s added) pages

pub data Places (w : Setting) (s : State) (hart : ℕ) (ask : OpenAsk) (id root : ℕ) (news : List Loaded) : End → Type 0 where
  no_version : (fault : DlFault) → version_fault (there s id) news ≡ Some fault → Places w s hart ask id root news (not_opened fault)
  no_pages : (pages : ℕ) → Full w s id news pages → Places w s hart ask id root news (not_opened (faults.AddressSpaceFull pages))
  has_pages : (end : End) → Placed w s hart ask id root news end → Places w s hart ask id root news end

same_stored : (s : State) (news added other : List Loaded) → HaveStorage s news added → HaveStorage s news other → map unbased added ≡ map unbased other
same_stored s news added other a b = same_modules (is_startup s) s.modules s.statics added other (a.same ∙ sym b.same) a.modules b.modules

-- what is wanted doesn't ask for bases
object_areas : (added : List Loaded) → map object_area added ≡ map object_area (map unbased added)
object_areas [] = refl
object_areas (o ∷ rest) = ap (λ (xs : List Area). object_area o ∷ xs) (object_areas rest)

statics_same : (added : List Loaded) (st : Statics) → statics_with added st ≡ statics_with (map unbased added) st
statics_same [] st = refl
statics_same (o ∷ rest) st = statics_same rest (statics_with_one st o.serial o.object.tls o.«module»)

abbrev with_align : ℕ → Loaded → ℕ
with_align align o = option_map_or (λ seg. max align seg.align) o.object.tls align

aligns_same : (added : List Loaded) (n : ℕ) → fold with_align n added ≡ fold with_align n (map unbased added)
aligns_same [] n = refl
aligns_same (o ∷ rest) n = aligns_same rest (with_align n o)

storage_same : (added : List Loaded) → has_storage added ≡ has_storage (map unbased added)
storage_same [] = refl
storage_same (o ∷ rest) = ap (λ (b : Bool). is_some o.object.tls || b) (storage_same rest)

abbrev static_at : Statics → ℕ → ℕ → Area
static_at st align hart = record { pages = pages_for (st.tp + st.size); place = anywhere align; purpose = purposes.StaticTls hart }

abbrev statics_at : Statics → ℕ → Bool → ℕ → List Area
statics_at st harts b align = if b then map (static_at st align) (range_with_len 0 harts) else []

static_areas_same : (st : Statics) (harts : ℕ) (added : List Loaded) → static_areas st harts added ≡ static_areas st harts (map unbased added)
static_areas_same st harts added =
    ap (λ (b : Bool). statics_at st harts b (storage_align added)) (storage_same added)
    ∙ ap (statics_at st harts (has_storage (map unbased added))) (aligns_same added 4096)

others_same : (b : Bool) (st : Statics) (harts : ℕ) (added : List Loaded) → other_areas b st harts added ≡ other_areas b st harts (map unbased added)
others_same true st harts added = ap (λ (xs : List Area). map stack_area (range_with_len 0 harts) ++ xs) (static_areas_same st harts added)
others_same false st harts added = refl

by_unbased : (w : Setting) (s : State) (added : List Loaded) → wanted w s added ≡ wanted w s (map unbased added)
by_unbased w s added =
    ap (λ (st : Statics). areas (is_startup s) st w.machine.harts added) (statics_same added s.statics)
    ∙ ap (λ (xs : List Area). xs ++ other_areas (is_startup s) (statics_with (map unbased added) s.statics) w.machine.harts added) (object_areas added)
    ∙ ap (λ (xs : List Area). map object_area (map unbased added) ++ xs) (others_same (is_startup s) (statics_with (map unbased added) s.statics) w.machine.harts added)

pub same_wanted : (w : Setting) (s : State) (added other : List Loaded) → map unbased added ≡ map unbased other → wanted w s added ≡ wanted w s other
same_wanted w s added other same = by_unbased w s added ∙ ap (wanted w s) same ∙ sym (by_unbased w s other)

full_or_placed : (w : Setting) (s : State) (hart : ℕ) (ask : OpenAsk) (id root : ℕ) (news : List Loaded) (pages : ℕ) (end : End) → Full w s id news pages → Placed w s hart ask id root news end → ⊥
full_or_placed w s hart ask id root news pages end a b =
    let same : wanted w s a.added ≡ wanted w s b.added = same_wanted w s a.added b.added (same_stored s news a.added b.added a.storage b.storage) in
    given_or_lacking (free_pages s.ranges) a.lacks.before a.lacks.area a.lacks.rest b.ranges a.lacks.ranges b.placed.left a.lacks.left a.lacks.given a.lacks.none
    (subst (λ (areas : List Area). AreGiven (free_pages s.ranges) areas b.ranges b.placed.left) (sym same ∙ a.lacks.are) b.placed.given)

same_placed : (w : Setting) (s : State) (hart : ℕ) (ask : OpenAsk) (id root : ℕ) (news : List Loaded) (end other : End) → Placed w s hart ask id root news end → Placed w s hart ask id root news other → end ≡ other
same_placed w s hart ask id root news end other a b =
    let stored : map unbased a.added ≡ map unbased b.added = same_stored s news a.added b.added a.storage b.storage in
    let given = same_given (free_pages s.ranges) (wanted w s b.added) a.ranges b.ranges a.placed.left b.placed.left
    (subst (λ (areas : List Area). AreGiven (free_pages s.ranges) areas a.ranges a.placed.left) (same_wanted w s a.added b.added stored) a.placed.given) b.placed.given in
    let objects : a.added ≡ b.added = same_added a.added b.added b.ranges stored (subst (AreBased a.added) given.0 a.placed.based) b.placed.based in
    a.is ∙ ap (λ (news : List Loaded). end_of id root news a.ranges (relocation_refused s hart ask id root news a.ranges)) objects
    ∙ ap (λ (rs : List Range). end_of id root b.added rs (relocation_refused s hart ask id root b.added rs)) given.0 ∙ sym b.is

same_places : (w : Setting) (s : State) (hart : ℕ) (ask : OpenAsk) (id root : ℕ) (news : List Loaded) {end other : End} → Places w s hart ask id root news end → Places w s hart ask id root news other → end ≡ other
same_places w s hart ask id root news (no_version fault a) (no_version other b) = ap not_opened (both_found (version_fault (there s id) news) fault other a b)
same_places w s hart ask id root news (no_version fault a) (no_pages pages b) = absurd (not_both (version_fault (there s id) news) fault b.versions a)
same_places w s hart ask id root news (no_version fault a) (has_pages end b) = absurd (not_both (version_fault (there s id) news) fault b.versions a)
same_places w s hart ask id root news (no_pages pages a) (no_version other b) = absurd (not_both (version_fault (there s id) news) other a.versions b)
same_places w s hart ask id root news (no_pages pages a) (no_pages other b) =
    ap (λ (n : ℕ). not_opened (faults.AddressSpaceFull n)) (same_room (free_pages s.ranges) (wanted w s b.added) pages other
    (subst (λ (areas : List Area). LacksRoom (free_pages s.ranges) areas pages) (same_wanted w s a.added b.added (same_stored s news a.added b.added a.storage b.storage)) a.lacks) b.lacks)
same_places w s hart ask id root news (no_pages pages a) (has_pages end b) = absurd (full_or_placed w s hart ask id root news pages end a b)
same_places w s hart ask id root news (has_pages end a) (no_version other b) = absurd (not_both (version_fault (there s id) news) other a.versions b)
same_places w s hart ask id root news (has_pages end a) (no_pages pages b) = absurd (full_or_placed w s hart ask id root news pages end b a)
same_places w s hart ask id root news (has_pages end a) (has_pages other b) = same_placed w s hart ask id root news end other a b

-- ---- an opening by a name, over one load

pub data Comes (w : Setting) (s : State) (hart : ℕ) (ask : OpenAsk) (name : List ℕ) (id : ℕ) (load : Load) : End → Type 0 where
  stops_so : (fault : DlFault) → Stops load (refuses fault) → ¬ (IsNowhere w s hart ask name id) → Comes w s hart ask name id load (not_opened fault)
  waits_so : (for : Shown) → Stops load (waits for) → Comes w s hart ask name id load (waiting for)
  nowhere_so : Stops load (refuses (faults.MissingLibrary name)) → IsNowhere w s hart ask name id → Comes w s hart ask name id load missing
  brings_so : (brought : Walk) (root : ℕ) (end : End) → Brings load brought → IsRoot brought root → Places w s hart ask id root (records_of load (is_deepbind ask.flags) brought) end
      → Comes w s hart ask name id load end

refusal_of : Stop → DlFault
refusal_of (refuses fault) = fault
refusal_of (waits for) = faults.NameTooLong

wait_of : Shown → Stop → Shown
wait_of other (refuses fault) = other
wait_of other (waits for) = for

is_wait : Stop → Bool
is_wait (refuses fault) = false
is_wait (waits for) = true

module _ (laws : OutcomeLaws) where
  same_comes : (w : Setting) (s : State) (hart : ℕ) (ask : OpenAsk) (name : List ℕ) (id : ℕ) (load : Load) {end other : End} → Comes w s hart ask name id load end
      → Comes w s hart ask name id load other → end ≡ other
  unfolding refusal_of wait_of is_wait
  same_comes w s hart ask name id load (stops_so fault a n) (stops_so other b k) = ap (λ (x : Stop). not_opened (refusal_of x)) (laws.one_stop load (refuses fault) (refuses other) a b)
  same_comes w s hart ask name id load (stops_so fault a n) (waits_so for b) = absurd (true≢false (sym (ap is_wait (laws.one_stop load (refuses fault) (waits for) a b))))
  same_comes w s hart ask name id load (stops_so fault a n) (nowhere_so b k) = absurd (n k)
  same_comes w s hart ask name id load (stops_so fault a n) (brings_so brought root end b r p) = absurd (laws.not_both load brought (refuses fault) b a)
  same_comes w s hart ask name id load (waits_so for a) (stops_so other b k) = absurd (true≢false (ap is_wait (laws.one_stop load (waits for) (refuses other) a b)))
  same_comes w s hart ask name id load (waits_so for a) (waits_so other b) = ap (λ (x : Stop). waiting (wait_of for x)) (laws.one_stop load (waits for) (waits other) a b)
  same_comes w s hart ask name id load (waits_so for a) (nowhere_so b k) = absurd (true≢false (ap is_wait (laws.one_stop load (waits for) (refuses (faults.MissingLibrary name)) a b)))
  same_comes w s hart ask name id load (waits_so for a) (brings_so brought root end b r p) = absurd (laws.not_both load brought (waits for) b a)
  same_comes w s hart ask name id load (nowhere_so a n) (stops_so other b k) = absurd (k n)
  same_comes w s hart ask name id load (nowhere_so a n) (waits_so for b) = absurd (true≢false (sym (ap is_wait (laws.one_stop load (refuses (faults.MissingLibrary name)) (waits for) a b))))
  same_comes w s hart ask name id load (nowhere_so a n) (nowhere_so b k) = refl
  same_comes w s hart ask name id load (nowhere_so a n) (brings_so brought root end b r p) = absurd (laws.not_both load brought (refuses (faults.MissingLibrary name)) b a)
  same_comes w s hart ask name id load (brings_so brought root end a q p) (stops_so other b k) = absurd (laws.not_both load brought (refuses other) a b)
  same_comes w s hart ask name id load (brings_so brought root end a q p) (waits_so for b) = absurd (laws.not_both load brought (waits for) a b)
  same_comes w s hart ask name id load (brings_so brought root end a q p) (nowhere_so b k) = absurd (laws.not_both load brought (refuses (faults.MissingLibrary name)) a b)
  same_comes w s hart ask name id load (brings_so brought root end a q p) (brings_so other at last b r z) =
      let walks : brought ≡ other = laws.one_walk load brought other a b in
      let roots : root ≡ at = both_found (slice_get other.found 0) root at (subst (λ (x : Walk). IsRoot x root) walks q) r in
      same_places w s hart ask id at (records_of load (is_deepbind ask.flags) other)
      (subst (λ (x : Walk). Places w s hart ask id at (records_of load (is_deepbind ask.flags) x) end) walks
      (subst (λ (n : ℕ). Places w s hart ask id n (records_of load (is_deepbind ask.flags) brought) end) roots p)) z

-- ---- every opening

-- an opening by a name, whatever reading explains it
pub record ByName (w : Setting) (s : State) (hart : ℕ) (ask : OpenAsk) (end : End) : Type 0 where
  pub name : List ℕ
  pub id : ℕ
  pub named : IsNamed s ask name id
  pub reading : List ℕ → Reading
  pub read : Readings w s ask name reading
  pub comes : Comes w s hart ask name id (load_of w s hart id name reading) end

pub record OfProgram (s : State) (ask : OpenAsk) (end : End) : Type 0 where
  pub null : ask.name ≡ None
  pub asked : IsAsked s ask 0
  pub is : end ≡ opened 0 1 [] []

pub data Ends (w : Setting) (s : State) (hart : ℕ) (ask : OpenAsk) : End → Type 0 where
  early : (fault : DlFault) → RefusesAsk s ask fault → Ends w s hart ask (not_opened fault)
  by_name : (end : End) → ByName w s hart ask end → Ends w s hart ask end
  of_program : (end : End) → OfProgram s ask end → Ends w s hart ask end

refused_read : (fault : DlFault) (path : List ℕ) → is_read_fault fault ≡ false → refuses fault ≡ refuses (faults.ReadFault path) → ⊥
unfolding refusal_of
refused_read fault path sound e = clash (ap (λ (x : Stop). is_read_fault (refusal_of x)) e) sound

waits_read : (path : List ℕ) (for : Shown) → waits for ≡ refuses (faults.ReadFault path) → ⊥
unfolding is_wait
waits_read path for e = true≢false (ap is_wait e)

-- over a reading that agrees but for failures an opening comes to the same, unless a read failed
comes_near : (w : Setting) (s : State) (hart : ℕ) (ask : OpenAsk) (name : List ℕ) (id : ℕ) (reading base : List ℕ → Reading) → Near reading base → {end : End} → is_read_end end ≡ false
    → Comes w s hart ask name id (load_of w s hart id name reading) end → Comes w s hart ask name id (load_of w s hart id name base) end
comes_near w s hart ask name id reading base near sound (stops_so fault a n) =
    stops_so fault (stops_near (load_of w s hart id name reading) base near (refuses fault) (λ path e. refused_read fault path sound e) a) n
comes_near w s hart ask name id reading base near sound (waits_so for a) =
    waits_so for (stops_near (load_of w s hart id name reading) base near (waits for) (λ path e. waits_read path for e) a)
comes_near w s hart ask name id reading base near sound (nowhere_so a n) =
    nowhere_so (stops_near (load_of w s hart id name reading) base near (refuses (faults.MissingLibrary name)) (λ path e. refused_read (faults.MissingLibrary name) path refl e) a) n
comes_near w s hart ask name id reading base near sound (brings_so brought root end b r p) = brings_so brought root end (brings_near (load_of w s hart id name reading) base near brought b) r p

named_none : (name : List ℕ) (asked : Option (List ℕ)) → asked ≡ Some name → asked ≡ None → ⊥
named_none name asked a b = not_both asked name b a

module _ (laws : OutcomeLaws) where
  same_by_name : (w : Setting) (s : State) (hart : ℕ) (ask : OpenAsk) (files : List File) → w.files ≡ Some files → (end other : End) → is_read_end end ≡ false → is_read_end other ≡ false
      → ByName w s hart ask end → ByName w s hart ask other → end ≡ other
  same_by_name w s hart ask files told end other sound also a b =
      let names : a.name ≡ b.name = both_found ask.name a.name b.name a.named.named b.named.named in
      let ids : a.id ≡ b.id = same_namespace s ask.ns ask.name a.id b.id a.named.asked.namespace b.named.asked.namespace in
      let first : Comes w s hart ask a.name a.id (load_of w s hart a.id a.name (reading_told w files s ask a.name)) end =
      comes_near w s hart ask a.name a.id a.reading (reading_told w files s ask a.name) (near_told w files s ask a.name a.reading told a.read) sound a.comes in
      let second : Comes w s hart ask b.name b.id (load_of w s hart b.id b.name (reading_told w files s ask b.name)) other =
      comes_near w s hart ask b.name b.id b.reading (reading_told w files s ask b.name) (near_told w files s ask b.name b.reading told b.read) also b.comes in
      same_comes laws w s hart ask b.name b.id (load_of w s hart b.id b.name (reading_told w files s ask b.name))
      (subst (λ (n : ℕ). Comes w s hart ask b.name n (load_of w s hart n b.name (reading_told w files s ask b.name)) end) ids
      (subst (λ (n : List ℕ). Comes w s hart ask n a.id (load_of w s hart a.id n (reading_told w files s ask n)) end) names first)) second

  pub same_end : (w : Setting) (s : State) (hart : ℕ) (ask : OpenAsk) (files : List File) → w.files ≡ Some files → (end other : End) → is_read_end end ≡ false → is_read_end other ≡ false
      → Ends w s hart ask end → Ends w s hart ask other → end ≡ other
  same_end w s hart ask files told _ _ sound also (early fault a) (early other b) = ap not_opened (same_early s ask a b)
  same_end w s hart ask files told _ _ sound also (early fault a) (by_name end b) = absurd (early_not_asked s ask b.id a b.named.asked)
  same_end w s hart ask files told _ _ sound also (early fault a) (of_program end b) = absurd (early_not_asked s ask 0 a b.asked)
  same_end w s hart ask files told _ _ sound also (by_name end a) (early other b) = absurd (early_not_asked s ask a.id b a.named.asked)
  same_end w s hart ask files told _ _ sound also (by_name end a) (by_name other b) = same_by_name w s hart ask files told end other sound also a b
  same_end w s hart ask files told _ _ sound also (by_name end a) (of_program other b) = absurd (named_none a.name ask.name a.named.named b.null)
  same_end w s hart ask files told _ _ sound also (of_program end a) (early other b) = absurd (early_not_asked s ask 0 b a.asked)
  same_end w s hart ask files told _ _ sound also (of_program end a) (by_name other b) = absurd (named_none b.name ask.name b.named.named a.null)
  same_end w s hart ask files told _ _ sound also (of_program end a) (of_program other b) = a.is ∙ sym b.is

-- ---- what the rules allow comes to such an end

abbrev pub end_answer : End → Answer
end_answer (opened id root [] ranges) = returns root
end_answer (opened id root (first ∷ rest) ranges) = loading root (first ∷ rest)
end_answer missing = returns 0
end_answer (not_opened fault) = refused fault
end_answer (waiting for) = again for

abbrev pub end_events : ℕ → OpenAsk → End → List Event
end_events h ask (opened id root added ranges) = events.Open h ask (openings.Done id root added ranges) ∷ []
end_events h ask missing = events.Open h ask openings.Absent ∷ []
end_events h ask (not_opened fault) = events.Open h ask (openings.Refused fault) ∷ []
end_events h ask (waiting for) = []

pub record ComesTo (w : Setting) (s : State) (h : ℕ) (ask : OpenAsk) (given : List Event) (answer : Answer) : Type 0 where
  pub end : End
  pub ends : Ends w s h ask end
  pub events_are : given ≡ end_events h ask end
  pub answer_is : answer ≡ end_answer end

abbrev placed_end : (w : Setting) (s : State) (hart : ℕ) (ask : OpenAsk) (id root : ℕ) (added : List Loaded) (ranges : List Range) (news : List Loaded) → version_fault (there s id) news ≡ None
    → HaveStorage s news added → ArePlaced w s added ranges → (fault : Option DlFault) → relocation_refused s hart ask id root added ranges ≡ fault
    → Places w s hart ask id root news (end_of id root added ranges fault)
placed_end w s hart ask id root added ranges news versions storage placed fault is = has_pages (end_of id root added ranges fault) (record {
  versions = versions;
  added = added;
  storage = storage;
  ranges = ranges;
  placed = placed;
  is = sym (ap (end_of id root added ranges) is);
})

pub from_opens : (w : Setting) (s : State) (hart : ℕ) (ask : OpenAsk) (id root : ℕ) (added : List Loaded) (ranges : List Range) → Opens w s hart ask id root added ranges
    → Ends w s hart ask (opened id root added ranges)
from_opens w s hart ask id root added ranges opens = by ask.name refl opens.name
  where
    base : (ns : Option ℕ) → IsNamespace s ns None id → id ≡ 0
    base (Some n) x = x.0 ∙ x.1
    base None x = absurd x

    by : (name : Option (List ℕ)) → ask.name ≡ name → OpensName w s hart ask name id root added ranges → Ends w s hart ask (opened id root added ranges)
    by (Some name) e l = by_name _ (record {
      name = name;
      id = id;
      named = record { asked = opens.asked; named = e };
      reading = l.finds.reading;
      read = l.finds.read;
      comes = brings_so l.finds.walk root (opened id root added ranges) l.finds.brings l.finds.root_is
          (subst (λ (news : List Loaded). Places w s hart ask id root news (opened id root added ranges)) l.finds.are
          (placed_end w s hart ask id root added ranges l.news l.versions l.storage l.placed None l.relocated));
    })
    by None e p =
        let is : id ≡ 0 = base ask.ns (subst (λ n. IsNamespace s ask.ns n id) e opens.asked.namespace) in
        of_program _ (record {
          null = e;
          asked = subst (λ (n : ℕ). IsAsked s ask n) is opens.asked;
          is = ap (λ (n : ℕ). opened n root added ranges) is ∙ ap (λ (n : ℕ). opened 0 n added ranges) p.program ∙ ap (λ (os : List Loaded). opened 0 1 os ranges) p.none ∙ ap (opened 0 1 []) p.no_pages;
        })

-- over what was found
found_end : (w : Setting) (s : State) (hart : ℕ) (ask : OpenAsk) (name : List ℕ) (id root : ℕ) (news : List Loaded) (end : End) → IsNamed s ask name id → Finds w s hart ask name id root news
    → Places w s hart ask id root news end → Ends w s hart ask end
found_end w s hart ask name id root news end named finds places = by_name end (record {
  name = name;
  id = id;
  named = named;
  reading = finds.reading;
  read = finds.read;
  comes = brings_so finds.walk root end finds.brings finds.root_is (subst (λ (ns : List Loaded). Places w s hart ask id root ns end) finds.are places);
})

pub from_refuses : (w : Setting) (s : State) (hart : ℕ) (ask : OpenAsk) (fault : DlFault) → Refuses w s hart ask fault → Ends w s hart ask (not_opened fault)
from_refuses w s hart ask _ (name_too_long name e count is) = early faults.NameTooLong (long is)
from_refuses w s hart ask _ (bad_flags short bad) = early (faults.BadFlags ask.flags) (flags short bad)
from_refuses w s hart ask _ (bad_namespace number short good bad) = early (faults.BadNamespace number) (space number short good bad)
from_refuses w s hart ask _ (namespaces_full short good none) = early faults.NamespacesFull (full short good none)
from_refuses w s hart ask _ (stopped name id fault x) = by_name (not_opened fault) (record {
  name = name;
  id = id;
  named = x.named;
  reading = x.reading;
  read = x.read;
  comes = stops_so fault x.stops x.loads;
})
from_refuses w s hart ask _ (lacks_version name id fault x) = found_end w s hart ask name id x.root x.news (not_opened fault) x.named x.finds (no_version fault x.lacks)
from_refuses w s hart ask _ (has_no_pages name id pages x) = found_end w s hart ask name id x.root x.news (not_opened (faults.AddressSpaceFull pages)) x.named x.finds
    (no_pages pages (record { versions = x.versions; added = x.added; storage = x.storage; lacks = x.lacks }))
from_refuses w s hart ask _ (unrelocated name id fault x) = found_end w s hart ask name id x.root x.news (not_opened fault) x.named x.finds
    (placed_end w s hart ask id x.root x.added x.ranges x.news x.versions x.storage x.placed (Some fault) x.is)

-- with RTLD_NOLOAD a program is no more started
started : (s : State) (hart : ℕ) (ask : OpenAsk) → MayAsk s hart ask → is_noload ask.flags ≡ true → is_startup s ≡ false
started s hart ask may noload = by (is_startup s) refl
  where
    by : (b : Bool) → is_startup s ≡ b → is_startup s ≡ false
    by true e = ⊎_elim
        (λ (is : ask.flags ≡ 0x101). absurd (true≢false (sym noload ∙ ap is_noload is)))
        (λ (is : ask.flags ≡ 0x102). absurd (true≢false (sym noload ∙ ap is_noload is)))
        (may e).flags
    by false e = e

nowhere_stops : (load : Load) (name : List ℕ) → load.name ≡ name → load.program ≡ false → find_opened load [] name ≡ nowhere → Stops load (refuses (faults.MissingLibrary name))
unfolding step finds
nowhere_stops load name is program none = record {
  steps = 1;
  is = ap (λ (n : List ℕ). take_found load start n (if load.program then find_path load [] n else find_opened load [] n)) is
      ∙ ap (λ (b : Bool). take_found load start name (if b then find_path load [] name else find_opened load [] name)) program ∙ ap (take_found load start name) none;
}

pub from_absent : (w : Setting) (s : State) (hart : ℕ) (ask : OpenAsk) → IsAbsent w s hart ask → Ends w s hart ask missing
from_absent w s hart ask x = by_name missing (record {
  name = x.name;
  id = x.id;
  named = record { asked = x.asked; named = x.named };
  reading = λ path. absent;
  read = subst (λ (b : Bool). ReadingsBy b w s x.name (λ path. absent)) (sym x.nowhere.noload) (λ path. refl);
  comes = nowhere_so (nowhere_stops (load_of w s hart x.id x.name (λ path. absent)) x.name refl (started s hart ask x.may x.nowhere.noload) x.nowhere.none) x.nowhere;
})

pub from_waits : (w : Setting) (s : State) (hart : ℕ) (ask : OpenAsk) (for : Shown) → Waits w s hart ask for → Ends w s hart ask (waiting for)
from_waits w s hart ask for x = by_name (waiting for) (record { name = x.name; id = x.id; named = x.named; reading = x.reading; read = x.read; comes = waits_so for x.stops })

sound_end : (end : End) → is_chance (end_answer end) ≡ is_read_end end
sound_end (opened id root [] ranges) = refl
sound_end (opened id root (first ∷ rest) ranges) = refl
sound_end missing = refl
sound_end (not_opened fault) = refl
sound_end (waiting for) = refl

pub sound_by : (answer : Answer) (end : End) → answer ≡ end_answer end → is_chance answer ≡ false → is_read_end end ≡ false
sound_by answer end is ample = sym (sound_end end) ∙ sym (ap is_chance is) ∙ ample

pub same_opening : OutcomeLaws → (w : Setting) (s : State) (h : ℕ) (ask : OpenAsk) (files : List File) (given others : List Event) (answer other : Answer) → w.files ≡ Some files
    → is_chance answer ≡ false → is_chance other ≡ false → ComesTo w s h ask given answer → ComesTo w s h ask others other → (given ≡ others) × (answer ≡ other)
same_opening laws w s h ask files given others answer other tells ample also a b =
    let ends : a.end ≡ b.end = same_end laws w s h ask files tells a.end b.end (sound_by answer a.end a.answer_is ample) (sound_by other b.end b.answer_is also) a.ends b.ends in
    (a.events_are ∙ ap (end_events h ask) ends ∙ sym b.events_are, a.answer_is ∙ ap end_answer ends ∙ sym b.answer_is)

-- ---- refusals in their order

asked_only : (w : Setting) (s : State) (hart : ℕ) (ask : OpenAsk) {fault : DlFault} {end : End} → RefusesAsk s ask fault → Ends w s hart ask end → end ≡ not_opened fault
asked_only w s hart ask stands (early other b) = ap not_opened (same_early s ask b stands)
asked_only w s hart ask stands (by_name end b) = absurd (early_not_asked s ask b.id stands b.named.asked)
asked_only w s hart ask stands (of_program end b) = absurd (early_not_asked s ask 0 stands b.asked)

pub refused_asked : (w : Setting) (s : State) (h : ℕ) (ask : OpenAsk) (given : List Event) (answer : Answer) (fault : DlFault) → RefusesAsk s ask fault → ComesTo w s h ask given answer → answer ≡ refused fault
refused_asked w s h ask given answer fault stands a = a.answer_is ∙ ap end_answer (asked_only w s h ask stands a.ends)

pub refused_first : OutcomeLaws → (w : Setting) (s : State) (h : ℕ) (ask : OpenAsk) (files : List File) (given : List Event) (answer : Answer) (fault : DlFault) → w.files ≡ Some files
    → is_read_fault fault ≡ false → Refuses w s h ask fault → is_chance answer ≡ false → ComesTo w s h ask given answer → answer ≡ refused fault
refused_first laws w s h ask files given answer fault tells sound stands ample a =
    a.answer_is ∙ ap end_answer (same_end laws w s h ask files tells a.end (not_opened fault) (sound_by answer a.end a.answer_is ample) sound a.ends (from_refuses w s h ask fault stands))

pub passed_opens : OutcomeLaws → (w : Setting) (s : State) (h : ℕ) (ask : OpenAsk) (files : List File) (id root : ℕ) (added : List Loaded) (ranges : List Range) (given : List Event) (answer : Answer)
    → w.files ≡ Some files → Opens w s h ask id root added ranges → is_chance answer ≡ false → ComesTo w s h ask given answer → given ≡ events.Open h ask (openings.Done id root added ranges) ∷ []
passed_opens laws w s h ask files id root added ranges given answer tells opens ample a =
    a.events_are ∙ ap (end_events h ask) (same_end laws w s h ask files tells a.end (opened id root added ranges) (sound_by answer a.end a.answer_is ample) refl a.ends
    (from_opens w s h ask id root added ranges opens))
