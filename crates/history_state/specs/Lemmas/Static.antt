-- Static blocks stand one after another behind tp.
use Rattle.std.proofs.Common.{◌≡◌, ◌≢◌, ◌⊎◌, inl, inr, ⊎_elim, ℕ, ◌+◌, ◌≤◌, Bool, true, false, List, [], ◌∷◌, map, Option, Some, None, refl, sym, ap, subst, ◌∙◌, arith}
use Rattle.std.specs.Prelude.{if◌then◌else◌}
use Rattle.std.specs.List.{Contains}
use Rattle.ld_base.specs.declared.linking.Loaded.{Loaded}
use Rattle.ld_base.specs.declared.linking.TlsPlace.{TlsPlace}
use Rattle.ld_base.specs.declared.object.TlsSeg.{TlsSeg}
use Rattle.history_event.specs.declared.event.CloseAnswer.TheVariants as closes
use Rattle.history_event.specs.declared.event.Event.{Event}
use Rattle.history_event.specs.declared.event.Event.TheVariants as events
use Rattle.history_event.specs.declared.event.OpenAnswer.TheVariants as opens
use Rattle.history_event.specs.declared.event.OpenAsk.{OpenAsk}
use Rattle.history_event.specs.declared.event.Range.{Range}
use Rattle.history_event.specs.declared.event.SymAnswer.TheVariants as syms
use Rattle.history_event.specs.declared.state.Module.{Module}
use Rattle.ld_base.specs.declared.object.Object.{Object}
use Rattle.scope_rule.specs.Opening.{opened}
use Rattle.scope_rule.specs.declared.namespace.Namespace.{Namespace}
use Rattle.history_state.specs.State.{State, Statics, empty_namespace}
use Rattle.history_state.specs.After.{after}
use Rattle.history_state.specs.Allowed.{AllowedIn}
use Rattle.history_state.specs.Flags.{is_global}
use Rattle.history_state.specs.Laws.{HasStatic, StaticsAreApart}
use Rattle.history_state.specs.Legal.{Lawful}
use Rattle.history_state.specs.Objects.{has, is_startup}
use Rattle.history_state.specs.Opening.{Opens}
use Rattle.history_state.specs.Setting.{Machine, Setting}
use Rattle.history_state.specs.Step.{die, dying_in, dying_object, initialise, loaded, lower, lowered_in, ready_in, ready_object, step, unmap, with_namespace}
use Rattle.history_state.specs.Storage.{HaveModules, IsPlaceOf, IsStaticOffset, statics_more, statics_with, statics_with_one, with_place}
use Rattle.history_state.specs.Lemmas.History.{by_lawful}
use Rattle.history_state.specs.Lemmas.Begun.{begins_untouched}
use Rattle.history_state.specs.Lemmas.Brought.{LoadLaws}
use Rattle.history_state.specs.Lemmas.Changed.{Leaves, leaves_dying, leaves_ready}
use Rattle.history_state.specs.Lemmas.Closed.{each_left, stayed}
use Rattle.history_state.specs.Lemmas.Good.{each_mapped}
use Rattle.history_state.specs.Lemmas.Imaged.{objects_open}
use Rattle.history_state.specs.Lemmas.Lists.{first_or_later, from_map, none_in, only_in}
use Rattle.history_state.specs.Lemmas.Moduled.{have_modules}

-- an object's block
pub record Static (o : Loaded) (offset : ℕ) (seg : TlsSeg) : Type 0 where
  pub place : TlsPlace
  pub of : o.«module» ≡ Some place
  pub at : place.offset ≡ Some offset
  pub storage : o.object.tls ≡ Some seg

pub static_of : (s : State) (o : Loaded) (offset : ℕ) (seg : TlsSeg) → HasStatic s o offset seg → Static o offset seg
static_of s o offset seg has = record { place = has.place; of = has.of; at = has.at; storage = has.storage }

-- ---- startup's objects, in their order

-- the first block stands behind those before it, and the blocks end with it
abbrev Next : Statics → Statics → ℕ → TlsSeg → Type 0
Next st more offset seg = (st.size ≤ offset) × (more.size ≡ offset + seg.memsz)

stands_next : (st : Statics) (serial offset : ℕ) (seg : TlsSeg) (number : ℕ) (where_at : Option ℕ) → where_at ≡ Some offset → IsStaticOffset true st serial seg where_at
    → Next st (statics_more st serial seg (record { number = number; offset = where_at })) offset seg
stands_next st serial offset seg number None e stands = absurd stands
stands_next st serial offset seg number (Some x) e stands =
    let same : x ≡ offset = cc in
    let behind : st.size ≤ x = stands.stands.behind in
    (omega (arith, same, behind), omega (arith, same))

first_block : (modules : List Module) (st : Statics) (o : Loaded) → IsPlaceOf true modules st o.serial o.object.tls o.«module» → (offset : ℕ) (seg : TlsSeg) → Static o offset seg
    → Next st (statics_with_one st o.serial o.object.tls o.«module») offset seg
first_block modules st o may offset seg b = by o.object.tls b.storage o.«module» b.of may
  where
    by : (tls : Option TlsSeg) → tls ≡ Some seg → (m : Option TlsPlace) → m ≡ Some b.place → IsPlaceOf true modules st o.serial tls m → Next st (statics_with_one st o.serial tls m) offset seg
    by None e m f place = absurd (let d : None ≡ Some seg = e in cc)
    by (Some q) e None f place = absurd (let d : None ≡ Some b.place = f in cc)
    by (Some q) e (Some p) f place =
        let seg_is : q ≡ seg = cc in
        let place_is : p ≡ b.place = cc in
        subst (λ (x : TlsSeg). Next st (statics_more st o.serial q p) offset x) seg_is
        (stands_next st o.serial offset q p.number p.offset (ap (λ (x : TlsPlace). x.offset) place_is ∙ b.at) place.1)

-- blocks end no earlier with one more
grows_one : (modules : List Module) (st : Statics) (o : Loaded) → IsPlaceOf true modules st o.serial o.object.tls o.«module» → st.size ≤ (statics_with_one st o.serial o.object.tls o.«module»).size
grows_one modules st o may = by o.object.tls o.«module» may
  where
    more : (seg : TlsSeg) (number : ℕ) (offset : Option ℕ) → IsStaticOffset true st o.serial seg offset → st.size ≤ (statics_more st o.serial seg (record { number = number; offset = offset })).size
    more seg number None stands = absurd stands
    more seg number (Some x) stands = let behind : st.size ≤ x = stands.stands.behind in omega (arith, behind)

    by : (tls : Option TlsSeg) (m : Option TlsPlace) → IsPlaceOf true modules st o.serial tls m → st.size ≤ (statics_with_one st o.serial tls m).size
    by None m place = omega arith
    by (Some q) None place = omega arith
    by (Some q) (Some p) place = more q p.number p.offset place.1

grows : (modules : List Module) (st : Statics) (added : List Loaded) → HaveModules true modules st added → st.size ≤ (statics_with added st).size
grows modules st [] have = omega arith
grows modules st (o ∷ rest) have =
    let one = grows_one modules st o have.0 in
    let more = grows (with_place o modules) (statics_with_one st o.serial o.object.tls o.«module») rest have.1 in
    omega (arith, one, more)

-- each new block stands behind those before, and ends where all do or earlier
blocks_lie : (modules : List Module) (st : Statics) (added : List Loaded) → HaveModules true modules st added → (o : Loaded) → Contains added o → (offset : ℕ) (seg : TlsSeg) → Static o offset seg
    → (st.size ≤ offset) × (offset + seg.memsz ≤ (statics_with added st).size)
blocks_lie modules st [] have o new offset seg b = absurd (none_in o new)
blocks_lie modules st (q ∷ rest) have o new offset seg b = at (first_or_later q rest o new)
    (grows (with_place q modules) (statics_with_one st q.serial q.object.tls q.«module») rest have.1) (grows_one modules st q have.0)
    (λ i. blocks_lie (with_place q modules) (statics_with_one st q.serial q.object.tls q.«module») rest have.1 o i offset seg b)
  where
    more : Statics
    more = statics_with_one st q.serial q.object.tls q.«module»

    at : (q ≡ o) ⊎ Contains rest o → more.size ≤ (statics_with rest more).size → st.size ≤ more.size → (Contains rest o → (more.size ≤ offset) × (offset + seg.memsz ≤ (statics_with rest more).size))
        → (st.size ≤ offset) × (offset + seg.memsz ≤ (statics_with rest more).size)
    at (inl same) all one deeper =
        let first : Next st more offset seg = first_block modules st q have.0 offset seg (subst (λ (x : Loaded). Static x offset seg) (sym same) b) in
        let behind : st.size ≤ offset = first.0 in
        let ends : more.size ≡ offset + seg.memsz = first.1 in
        (behind, omega (arith, ends, all))
    at (inr i) all one deeper =
        let lies = deeper i in
        let behind : more.size ≤ offset = lies.0 in
        (omega (arith, behind, one), lies.1)

abbrev Apart : ℕ → TlsSeg → ℕ → TlsSeg → Type 0
Apart x seg y other = (x + seg.memsz ≤ y) ⊎ (y + other.memsz ≤ x)

blocks_part : (modules : List Module) (st : Statics) (added : List Loaded) → HaveModules true modules st added → (o p : Loaded) → Contains added o → Contains added p → (x y : ℕ) (seg other : TlsSeg) → Static o x seg → Static p y other
    → o.serial ≢ p.serial → Apart x seg y other
blocks_part modules st [] have o p first second x y seg other b c apart = absurd (none_in o first)
blocks_part modules st (q ∷ rest) have o p first second x y seg other b c apart = at (first_or_later q rest o first) (first_or_later q rest p second)
    (λ i j. blocks_part (with_place q modules) (statics_with_one st q.serial q.object.tls q.«module») rest have.1 o p i j x y seg other b c apart)
  where
    more : Statics
    more = statics_with_one st q.serial q.object.tls q.«module»

    -- the first one's block ends before those of the rest
    before : (z : Loaded) (u v : ℕ) (s t : TlsSeg) → Static q u s → Contains rest z → Static z v t → u + s.memsz ≤ v
    before z u v s t d i e =
        let one : Next st more u s = first_block modules st q have.0 u s d in
        let ends : more.size ≡ u + s.memsz = one.1 in
        let behind : more.size ≤ v = (blocks_lie (with_place q modules) more rest have.1 z i v t e).0 in
        omega (arith, ends, behind)

    at : (q ≡ o) ⊎ Contains rest o → (q ≡ p) ⊎ Contains rest p → (Contains rest o → Contains rest p → Apart x seg y other) → Apart x seg y other
    at (inl e) (inl f) deeper = absurd (apart (ap (λ (z : Loaded). z.serial) (sym e ∙ f)))
    at (inl e) (inr j) deeper = inl (before p x y seg other (subst (λ (z : Loaded). Static z x seg) (sym e) b) j c)
    at (inr i) (inl f) deeper = inr (before o y x other seg (subst (λ (z : Loaded). Static z y other) (sym f) c) i b)
    at (inr i) (inr j) deeper = deeper i j

-- later objects have none
pub none_later : (modules : List Module) (st : Statics) (added : List Loaded) → HaveModules false modules st added → (o : Loaded) → Contains added o → (offset : ℕ) (seg : TlsSeg) → Static o offset seg → ⊥
none_later modules st [] have o new offset seg b = none_in o new
none_later modules st (q ∷ rest) have o new offset seg b = ⊎_elim
    (λ (same : q ≡ o). late q.object.tls q.«module» (ap (λ (x : Loaded). x.object.tls) same ∙ b.storage) (ap (λ (x : Loaded). x.«module») same ∙ b.of) have.0)
    (λ (i : Contains rest o). none_later (with_place q modules) (statics_with_one st q.serial q.object.tls q.«module») rest have.1 o i offset seg b)
    (first_or_later q rest o new)
  where
    late : (tls : Option TlsSeg) (m : Option TlsPlace) → tls ≡ Some seg → m ≡ Some b.place → IsPlaceOf false modules st q.serial tls m → ⊥
    late None m e f place = let d : None ≡ Some seg = e in absurd cc
    late (Some g) None e f place = let d : None ≡ Some b.place = f in absurd cc
    late (Some g) (Some h) e f place =
        let same : h ≡ b.place = cc in
        let none : h.offset ≡ None = place.1 in
        let d : None ≡ Some offset = sym none ∙ ap (λ (x : TlsPlace). x.offset) same ∙ b.at in absurd cc

-- ---- each state

record Laid (all : List Namespace) (st : Statics) : Type 0 where
  within : (ns : Namespace) (o : Loaded) (offset : ℕ) (seg : TlsSeg) → Contains all ns → Contains ns.objects o → Static o offset seg → offset + seg.memsz ≤ st.size
  apart : (ns ms : Namespace) (o p : Loaded) (x y : ℕ) (seg other : TlsSeg) → Contains all ns → Contains ns.objects o → Contains all ms → Contains ms.objects p → Static o x seg → Static p y other
      → o.serial ≢ p.serial → Apart x seg y other

-- an object that was there, as it was but for what it is doing
abbrev pub Was : List Namespace → Loaded → Type 0
Was all o = (ns : Namespace) × (q : Loaded) × Contains all ns × Contains ns.objects q × ((q.serial ≡ o.serial) × (q.object ≡ o.object) × (q.«module» ≡ o.«module»))

abbrev pub Stay : List Namespace → List Namespace → Type 0
Stay all more = (ms : Namespace) (o : Loaded) → Contains more ms → Contains ms.objects o → Was all o

pub static_was : (o q : Loaded) (offset : ℕ) (seg : TlsSeg) → q.object ≡ o.object → q.«module» ≡ o.«module» → Static o offset seg → Static q offset seg
static_was o q offset seg object place b = record { place = b.place; of = place ∙ b.of; at = b.at; storage = ap (λ (x : Object). x.tls) object ∙ b.storage }

laid_stay : (all more : List Namespace) (st : Statics) → Stay all more → Laid all st → Laid more st
laid_stay all more st stay laid = record {
  within = λ ns o offset seg there inside b. let was = stay ns o there inside in laid.within was.0 was.1 offset seg was.2 was.3 (static_was o was.1 offset seg was.4.1 was.4.2 b);
  apart = λ ns ms o p x y seg other there inside there_p inside_p b c d.
      let a = stay ns o there inside in
      let e = stay ms p there_p inside_p in
      laid.apart a.0 e.0 a.1 e.1 x y seg other a.2 a.3 e.2 e.3 (static_was o a.1 x seg a.4.1 a.4.2 b) (static_was p e.1 y other e.4.1 e.4.2 c) (λ same. d (sym a.4.0 ∙ same ∙ e.4.0));
}

pub stay_map : (change : Namespace → Namespace) (each : Loaded → Loaded) → Leaves each → ((ns : Namespace) → (change ns).objects ≡ map each ns.objects) → (all : List Namespace) → Stay all (map change all)
stay_map change each leaves is all ms o there inside = each_mapped change all (λ n. Contains n.objects o → Was all o)
    (λ ns at h.
    let q = from_map each ns.objects o (subst (λ (os : List Loaded). Contains os o) (is ns) h) in
    let e = sym (leaves q.0).1 ∙ q.2 in
    (ns, q.0, at, q.1, (ap (λ (x : Loaded). x.serial) e, ap (λ (x : Loaded). x.object) e, ap (λ (x : Loaded). x.«module») e)))
    ms there inside

pub stay_lower : (handle : ℕ) (all : List Namespace) → Stay all (map (lowered_in handle) all)
stay_lower handle all ms o there inside = each_mapped (lowered_in handle) all (λ n. Contains n.objects o → Was all o) (λ ns at h. (ns, o, at, h, (refl, refl, refl))) ms there inside

laid_unmap : (hart : ℕ) (set : List ℕ) (s : State) → Laid s.namespaces s.statics → Laid (unmap hart set s).namespaces (unmap hart set s).statics
unfolding unmap
laid_unmap hart set s laid = laid_stay s.namespaces _ s.statics
    (λ ms o there inside. each_left set s.namespaces (λ n. Contains n.objects o → Was s.namespaces o) (λ ns at h. (ns, o, at, (stayed set ns o h).0, (refl, refl, refl))) ms there inside) laid

laid_open : LoadLaws → (m : Machine) (w : Setting) (past : List Event) → Lawful m past → (hart : ℕ) (ask : OpenAsk) (id root : ℕ) (added : List Loaded) (ranges : List Range) → Opens w (after past) hart ask id root added ranges
    → Laid (after past).namespaces (after past).statics
    → (let t : State = step (after past) (events.Open hart ask (opens.Done id root added ranges)) in Laid t.namespaces t.statics)
unfolding loaded
laid_open laws m w past lawful hart ask id root added ranges may laid = by (is_startup (after past)) refl (have_modules w (after past) hart ask id root added ranges ask.name may.name)
  where
    by : (startup : Bool) → is_startup (after past) ≡ startup → HaveModules startup (after past).modules (after past).statics added
        → Laid (with_namespace id (λ n. opened n added root (is_global ask.flags)) (after past).namespaces) (if startup then statics_with added (after past).statics else (after past).statics)
    by true startup have = record {
      within = λ ns o offset seg there inside b. (blocks_lie (after past).modules (after past).statics added have o (new ns o there inside) offset seg b).1;
      apart = λ ns ms o p x y seg other there inside there_p inside_p b c apart.
          blocks_part (after past).modules (after past).statics added have o p (new ns o there inside) (new ms p there_p inside_p) x y seg other b c apart;
    }
      where
        -- nothing was there before
        new : (ns : Namespace) (o : Loaded) → Contains (with_namespace id (λ n. opened n added root (is_global ask.flags)) (after past).namespaces) ns → Contains ns.objects o → Contains added o
        new ns o there inside = ⊎_elim
            (λ (old : (ms : Namespace) × Contains (after past).namespaces ms × Contains ms.objects o).
            absurd (none_in o (subst (λ (n : Namespace). Contains n.objects o) (sym (only_in (empty_namespace 0) old.0 (subst (λ (xs : List Namespace). Contains xs old.0) (begins_untouched laws m past lawful startup).namespaces old.1))) old.2)))
            (λ (i : Contains added o). i)
            (objects_open id added root (is_global ask.flags) (after past).namespaces ns o there inside)
    by false startup have = record {
      within = λ ns o offset seg there inside b. let at = old ns o offset seg there inside b in laid.within at.0 o offset seg at.1 at.2 b;
      apart = λ ns ms o p x y seg other there inside there_p inside_p b c apart.
          let f = old ns o x seg there inside b in
          let g = old ms p y other there_p inside_p c in
          laid.apart f.0 g.0 o p x y seg other f.1 f.2 g.1 g.2 b c apart;
    }
      where
        -- no new object has a static block
        old : (ns : Namespace) (o : Loaded) (offset : ℕ) (seg : TlsSeg) → Contains (with_namespace id (λ n. opened n added root (is_global ask.flags)) (after past).namespaces) ns → Contains ns.objects o → Static o offset seg
            → (ms : Namespace) × Contains (after past).namespaces ms × Contains ms.objects o
        old ns o offset seg there inside b = ⊎_elim
            (λ (was : (ms : Namespace) × Contains (after past).namespaces ms × Contains ms.objects o). was)
            (λ (i : Contains added o). absurd (none_later (after past).modules (after past).statics added have o i offset seg b))
            (objects_open id added root (is_global ask.flags) (after past).namespaces ns o there inside)

abbrev LaidIn : State → Type 0
LaidIn s = Laid s.namespaces s.statics

laid_step : LoadLaws → (m : Machine) (w : Setting) (past : List Event) (e : Event) → Lawful m past → AllowedIn w past (after past) e → LaidIn (after past) → LaidIn (step (after past) e)
unfolding die lower initialise
laid_step laws m w past (events.Open hart ask (opens.Done id root added ranges)) lawful may laid = laid_open laws m w past lawful hart ask id root added ranges may laid
laid_step laws m w past (events.Open hart ask opens.Absent) lawful may laid = laid
laid_step laws m w past (events.Open hart ask (opens.Refused fault)) lawful may laid = laid
laid_step laws m w past (events.Close hart handle (closes.Done set)) lawful may laid =
    laid_stay (map (lowered_in handle) (after past).namespaces) _ (after past).statics (stay_map (dying_in hart set) (dying_object hart set) (leaves_dying hart set) (λ ns. refl) (map (lowered_in handle) (after past).namespaces))
    (laid_stay (after past).namespaces _ (after past).statics (stay_lower handle (after past).namespaces) laid)
laid_step laws m w past (events.Close hart handle (closes.Refused fault)) lawful may laid = laid
laid_step laws m w past (events.Unmapped hart set) lawful may laid = laid_unmap hart set (after past) laid
laid_step laws m w past (events.Grant number hart owner slot choice value) lawful may laid = laid
laid_step laws m w past (events.Bound number) lawful may laid = laid
laid_step laws m w past (events.Lost number saw) lawful may laid = laid
laid_step laws m w past (events.Unresolved hart owner slot choice) lawful may laid = laid
laid_step laws m w past (events.Sym hart ask (syms.Found serial index value)) lawful may laid = laid
laid_step laws m w past (events.Sym hart ask (syms.Refused fault)) lawful may laid = laid
laid_step laws m w past (events.Tls hart owner address) lawful may laid = laid
laid_step laws m w past (events.Init hart object) lawful may laid = laid_stay (after past).namespaces _ (after past).statics (stay_map (ready_in object) (ready_object object) (leaves_ready object) (λ ns. refl) (after past).namespaces) laid
laid_step laws m w past (events.Fini hart object) lawful may laid = laid
laid_step laws m w past (events.Wrote hart bytes) lawful may laid = laid
laid_step laws m w past (events.Told hart fault) lawful may laid = laid
laid_step laws m w past (events.Ended hart reason) lawful may laid = laid

pub statics_apart : LoadLaws → (m : Machine) (journal : List Event) → Lawful m journal → StaticsAreApart (after journal)
statics_apart laws m journal lawful =
    let laid : LaidIn (after journal) = by_lawful m LaidIn
    (record {
      within = λ ns o offset seg there inside b. absurd (empty ns o there inside);
      apart = λ ns ms o p x y seg other there inside there_p inside_p b c d. absurd (empty ns o there inside);
    })
    (λ w past e same past_lawful laid may. laid_step laws m w past e past_lawful may laid) journal lawful in
    record {
      within = λ o offset seg b. laid.within b.namespace o offset seg b.inside.there b.inside.inside (static_of (after journal) o offset seg b);
      apart = λ o p x y seg other b c d.
          laid.apart b.namespace c.namespace o p x y seg other b.inside.there b.inside.inside c.inside.there c.inside.inside (static_of (after journal) o x seg b) (static_of (after journal) p y other c) d;
    }
  where
    empty : (ns : Namespace) (o : Loaded) → Contains (empty_namespace 0 ∷ []) ns → Contains ns.objects o → ⊥
    empty ns o there inside = none_in o (subst (λ (n : Namespace). Contains n.objects o) (sym (only_in (empty_namespace 0) ns there)) inside)
