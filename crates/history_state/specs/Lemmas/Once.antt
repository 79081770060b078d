-- The objects of a closing that isn't unmapped yet are mapped and dying by its hart, and of no other closing.
use Rattle.std.proofs.Common.{◌≡◌, ⊎_elim, ℕ, Bool, true, false, not, ◌||◌, eqb, List, [], ◌∷◌, ◌++◌, map, refl, sym, ap, subst, ◌∙◌}
use Rattle.std.specs.Prelude.{if◌then◌else◌}
use Rattle.std.specs.List.{Contains, filter, list_any}
use Rattle.std.specs.Str.{bytes_eq}
use Rattle.std.proofs.lemmas.Bool.{and_from, and_parts, eq-eqb, not-true, true≢false}
use Rattle.std.proofs.lemmas.Slice.Eq.{bytes_eq-Decides}
use Rattle.std.proofs.lemmas.List.Elements.{Contains-append_cases, Contains-append_left}
use Rattle.ld_base.specs.declared.linking.Loaded.{Loaded}
use Rattle.ld_base.specs.declared.linking.State.{State as Doing}
use Rattle.ld_base.specs.declared.linking.State.TheVariants as states
use Rattle.history_event.specs.declared.event.Event.{Event}
use Rattle.history_event.specs.declared.event.OpenAsk.{OpenAsk}
use Rattle.history_event.specs.declared.event.Range.{Range}
use Rattle.history_event.specs.declared.state.Closing.{Closing}
use Rattle.scope_rule.specs.Loading.{is_dying}
use Rattle.scope_rule.specs.Opening.{opened}
use Rattle.scope_rule.specs.declared.namespace.Namespace.{Namespace}
use Rattle.history_state.specs.State.{State, empty_namespace, empty_state}
use Rattle.history_state.specs.Objects.{has, has_id, is_ready}
use Rattle.history_state.specs.Flags.{is_global}
use Rattle.history_state.specs.Links.{Needed, stays}
use Rattle.history_state.specs.Step.{changed_at, closing_of, die, dying_in, dying_object, gone_in, initialise, is_closing, is_left, loaded, lower, lowered_in, namespace_before, open_done, ready_in, ready_object, ready_state, unmap, with_namespace}
use Rattle.history_state.specs.After.{after}
use Rattle.history_state.specs.Laws.{EachDiesOnce}
use Rattle.history_state.specs.Legal.{Lawful}
use Rattle.history_state.specs.Setting.{Machine}
use Rattle.history_state.specs.Lemmas.Lists.{from_filter, from_map, has_in, in_filter, in_has, in_map, none_in, only_in}
use Rattle.history_state.specs.Lemmas.Good.{Core, Good, core, each_mapped, closing_by, closing_cases, closing_there}
use Rattle.history_state.specs.Lemmas.Dying.{staying_root}
use Rattle.history_state.specs.Lemmas.Closed.{Dies, closes_dies, dies_node, each_left, fewer_closings, good_lower, stayed}
use Rattle.history_state.specs.Lemmas.Opened.{before_of, members}
use Rattle.history_state.specs.Lemmas.Arrived.{Arrived}
use Rattle.history_state.specs.Lemmas.Brought.{LoadLaws}
use Rattle.history_state.specs.Lemmas.Steps.{Law, by_law}
use Rattle.history_state.specs.Lemmas.Dangling.{left_nonempty}

-- ---- closings by hart and set

is_closing_itself : (k : Closing) → is_closing k.hart k.set k ≡ true
is_closing_itself k = and_from (eqb k.hart k.hart) (bytes_eq k.set k.set) (eq-eqb k.hart k.hart refl) ((bytes_eq-Decides k.set k.set).1 refl)

is_closing_set : (hart : ℕ) (set : List ℕ) (k : Closing) → is_closing hart set k ≡ true → k.set ≡ set
is_closing_set hart set k e = (bytes_eq-Decides k.set set).0 (and_parts (eqb k.hart hart) (bytes_eq k.set set) e).1

-- ---- an object that is dying stays so

-- a mapped object with the serial, that is dying by the hart
abbrev Dead : List Namespace → ℕ → ℕ → Type 0
Dead all d hart = (ns : Namespace) × (o : Loaded) × Contains all ns × Contains ns.objects o × (o.serial ≡ d) × (o.state ≡ states.Dying hart)

-- a change of namespaces that leaves an object as it is
dead_by : (change : Namespace → Namespace) (all : List Namespace) (d hart : ℕ) → (dead : Dead all d hart) → Contains (change dead.0).objects dead.1 → Dead (map change all) d hart
dead_by change all d hart dead h = (change dead.0, dead.1, in_map change all dead.0 dead.2, h, dead.4, dead.5)

dead_open : (id : ℕ) (added : List Loaded) (root : ℕ) (g : Bool) (all : List Namespace) (d hart : ℕ) → Dead all d hart → Dead (with_namespace id (λ n. opened n added root g) all) d hart
dead_open id added root g all d hart dead = by (list_any (has_id id) all)
  where
    still : (t : Bool) → Contains (if t then opened dead.0 added root g else dead.0).objects dead.1
    still true = Contains-append_left dead.0.objects added dead.1 dead.3
    still false = dead.3

    by : (t : Bool) → Dead (if t then map (changed_at id (λ n. opened n added root g)) all else all ++ opened (empty_namespace id) added root g ∷ []) d hart
    by true = dead_by (changed_at id (λ n. opened n added root g)) all d hart dead (still (has_id id dead.0))
    by false = (dead.0, dead.1, Contains-append_left all (opened (empty_namespace id) added root g ∷ []) dead.0 dead.2, dead.3, dead.4, dead.5)

dying_kept : (hart : ℕ) (set : List ℕ) (o : Loaded) (t : Bool) → has set o.serial ≡ t → (Contains set o.serial → ⊥) → (if t then record o { state = states.Dying hart } else o) ≡ o
dying_kept hart set o true e out = absurd (out (has_in set o.serial e))
dying_kept hart set o false e out = refl

ready_kept : (o : Loaded) (hart : ℕ) → o.state ≡ states.Dying hart → ready_state o ≡ o
ready_kept o hart e = ap (λ (d : Doing). elim d [ states.Initialising k ↦ record o { state = states.Ready } | other ↦ o ]) e

ready_if : (o : Loaded) (hart : ℕ) (t : Bool) → o.state ≡ states.Dying hart → (if t then ready_state o else o) ≡ o
ready_if o hart true e = ready_kept o hart e
ready_if o hart false e = refl

-- ---- dying objects are needed

dying_stays : (o : Loaded) (hart : ℕ) → o.state ≡ states.Dying hart → stays o ≡ true
dying_stays o hart e = or_true o.object.flags.nodelete (not (is_ready o)) (ap (λ (d : Doing). not (elim d [ states.Ready ↦ true | _ ↦ false ])) e)
  where
    or_true : (x y : Bool) → y ≡ true → (x || y) ≡ true
    or_true true y h = refl
    or_true false y h = h

dying_needed : (s : State) (ns : Namespace) (o : Loaded) (hart : ℕ) → Contains s.namespaces ns → Contains ns.objects o → o.state ≡ states.Dying hart → Needed s o.serial
dying_needed s ns o hart there inside e = staying_root s ns o (there, inside) (dying_stays o hart e)

-- ---- the law

pub record OnceIn (all : List Namespace) (closings : List Closing) : Type 0 where
  pub dead : (k : Closing) (d : ℕ) → Contains closings k → Contains k.set d → Dead all d k.hart
  pub once : (k l : Closing) (d : ℕ) → Contains closings k → Contains closings l → Contains k.set d → Contains l.set d → k ≡ l
  pub only : (ns : Namespace) (o : Loaded) (hart : ℕ) → Contains all ns → Contains ns.objects o → o.state ≡ states.Dying hart
      → (k : Closing) × Contains closings k × (k.hart ≡ hart) × Contains k.set o.serial

abbrev pub Once : Core → Type 0
Once c = OnceIn c.namespaces c.closings

alive_not : (o : Loaded) (hart : ℕ) → is_dying o ≡ false → o.state ≡ states.Dying hart → ⊥
alive_not o hart alive e = true≢false (sym (ap (λ (d : Doing). elim d [ states.Dying k ↦ true | _ ↦ false ]) e) ∙ alive)

-- the step of each event

once_start : (all : List Namespace) → ((ns : Namespace) (o : Loaded) → Contains all ns → Contains ns.objects o → ⊥) → (c : Core) → c.namespaces ≡ all → c.closings ≡ [] → Once c
once_start all none c same no_closings = record {
  dead = λ k d there. absurd (none_in k (subst (λ (ks : List Closing). Contains ks k) no_closings there));
  once = λ k l d there. absurd (none_in k (subst (λ (ks : List Closing). Contains ks k) no_closings there));
  only = λ ns o hart there inside. absurd (none ns o (subst (λ (ns' : List Namespace). Contains ns' ns) same there) inside);
}

once_open : (s : State) (hart : ℕ) (ask : OpenAsk) (id root : ℕ) (added : List Loaded) (ranges : List Range) → Good (core s) → Once (core s)
    → Arrived (core s) (namespace_before s id) added root → Once (core (open_done s hart ask id root added ranges))
unfolding loaded
once_open s hart ask id root added ranges good once came = record {
  dead = λ k d there set. dead_open id added root (is_global ask.flags) s.namespaces d k.hart (once.dead k d there set);
  once = once.once;
  only = λ ns o h there inside e. ⊎_elim
      (λ (is : ns ≡ opened (namespace_before s id) added root (is_global ask.flags)). ⊎_elim
      (λ (i : Contains (namespace_before s id).objects o). once.only (namespace_before s id) o h (old_there o i) i e)
      (λ (i : Contains added o). absurd (alive_not o h (came.alive o i) e))
      (Contains-append_cases (namespace_before s id).objects added o (subst (λ (n : Namespace). Contains n.objects o) is inside)))
      (λ (old : Contains s.namespaces ns × (ns.id ≡ id → ⊥)). once.only ns o h old.0 inside e)
      (members s.namespaces id (namespace_before s id) (before_of s id good) (λ n. opened n added root (is_global ask.flags)) ns there);
}
  where
    old_there : (o : Loaded) → Contains (namespace_before s id).objects o → Contains s.namespaces (namespace_before s id)
    old_there o i = ⊎_elim
        (λ (h : Contains s.namespaces (namespace_before s id)). h)
        (λ (is : namespace_before s id ≡ empty_namespace id). absurd (none_in o (subst (λ (n : Namespace). Contains n.objects o) is i)))
        (before_of s id good).was

once_lower : (s : State) (handle : ℕ) → Once (core s) → Once (core (lower handle s))
unfolding lower
once_lower s handle once = record {
  dead = λ k d there set. let old = once.dead k d there set in dead_by (lowered_in handle) s.namespaces d k.hart old old.3;
  once = once.once;
  only = λ ms o hart there inside e. each_mapped (lowered_in handle) s.namespaces
      (λ n. Contains n.objects o → (k : Closing) × Contains s.closings k × (k.hart ≡ hart) × Contains k.set o.serial)
      (λ ns at h. once.only ns o hart at h e) ms there inside;
}

once_die : (s : State) (hart : ℕ) (ns : Namespace) (set : List ℕ) → Good (core s) → Once (core s) → Dies s ns set → Once (core (die hart set s))
unfolding die
once_die s hart ns set good once dies = record {
  dead = λ k d there h. ⊎_elim
      (λ (old : Contains s.closings k). was_dead k d old h)
      (λ (e : closing_by hart set ≡ k). subst (λ (q : Closing). Contains q.set d → Dead (map (dying_in hart set) s.namespaces) d q.hart) e (now_dead d) h)
      (closing_cases s.closings hart set k there);
  once = λ k l d there there' h h'. ⊎_elim
      (λ (old : Contains s.closings k). ⊎_elim
      (λ (old' : Contains s.closings l). once.once k l d old old' h h')
      (λ (e : closing_by hart set ≡ l). absurd (not_both k d old h (subst (λ (q : Closing). Contains q.set d) (sym e) h')))
      (closing_cases s.closings hart set l there'))
      (λ (e : closing_by hart set ≡ k). ⊎_elim
      (λ (old' : Contains s.closings l). absurd (not_both l d old' h' (subst (λ (q : Closing). Contains q.set d) (sym e) h)))
      (λ (e' : closing_by hart set ≡ l). sym e ∙ e')
      (closing_cases s.closings hart set l there'))
      (closing_cases s.closings hart set k there);
  only = λ ms o h there inside e. each_mapped (dying_in hart set) s.namespaces
      (λ n. Contains n.objects o → (k : Closing) × Contains (s.closings ++ closing_of hart set) k × (k.hart ≡ h) × Contains k.set o.serial)
      (λ ls at i. let was = from_map (dying_object hart set) ls.objects o i in whose ls was.0 o h at was.1 was.2 e (has set was.0.serial) refl) ms there inside;
}
  where
    -- an object that was dying isn't of the set
    not_both : (k : Closing) (d : ℕ) → Contains s.closings k → Contains k.set d → Contains set d → ⊥
    not_both k d there h h' =
        let dead = once.dead k d there h in
        (dies_node s ns set dies d h').1 (subst (Needed s) dead.4 (dying_needed s dead.0 dead.1 k.hart dead.2 dead.3 dead.5))

    was_dead : (k : Closing) (d : ℕ) → Contains s.closings k → Contains k.set d → Dead (map (dying_in hart set) s.namespaces) d k.hart
    was_dead k d there h =
        let dead = once.dead k d there h in
        let same = dying_kept hart set dead.1 (has set dead.1.serial) refl (λ (i : Contains set dead.1.serial). not_both k d there h (subst (Contains set) dead.4 i)) in
        dead_by (dying_in hart set) s.namespaces d k.hart dead
        (subst (λ (q : Loaded). Contains (map (dying_object hart set) dead.0.objects) q) same (in_map (dying_object hart set) dead.0.objects dead.1 dead.3))

    now_dead : (d : ℕ) → Contains set d → Dead (map (dying_in hart set) s.namespaces) d hart
    now_dead d h =
        let node = (dies_node s ns set dies d h).0 in
        let in_set : has set node.0.serial ≡ true = in_has set node.0.serial (subst (Contains set) (sym node.2) h) in
        let is : dying_object hart set node.0 ≡ record node.0 { state = states.Dying hart } = ap (λ (t : Bool). if t then record node.0 { state = states.Dying hart } else node.0) in_set in (
          dying_in hart set ns,
          record node.0 { state = states.Dying hart },
          in_map (dying_in hart set) s.namespaces ns dies.there,
          subst (λ (q : Loaded). Contains (map (dying_object hart set) ns.objects) q) is (in_map (dying_object hart set) ns.objects node.0 node.1),
          node.2,
          refl,
        )

    whose : (ls : Namespace) (was o : Loaded) (h : ℕ) → Contains s.namespaces ls → Contains ls.objects was → dying_object hart set was ≡ o → o.state ≡ states.Dying h
        → (t : Bool) → has set was.serial ≡ t → (k : Closing) × Contains (s.closings ++ closing_of hart set) k × (k.hart ≡ h) × Contains k.set o.serial
    whose ls was o h at i same e true in_set =
        let is : record was { state = states.Dying hart } ≡ o = sym (ap (λ (t : Bool). if t then record was { state = states.Dying hart } else was) in_set) ∙ same in
        let by : states.Dying hart ≡ states.Dying h = ap (λ (q : Loaded). q.state) is ∙ e in
        let same_hart : hart ≡ h = cc in
        (closing_by hart set, closing_there s.closings hart set was.serial (has_in set was.serial in_set), same_hart, subst (Contains set) (ap (λ (q : Loaded). q.serial) is) (has_in set was.serial in_set))
    whose ls was o h at i same e false in_set =
        let is : was ≡ o = sym (ap (λ (t : Bool). if t then record was { state = states.Dying hart } else was) in_set) ∙ same in
        let old = once.only ls was h at i (ap (λ (q : Loaded). q.state) is ∙ e) in
        (old.0, Contains-append_left s.closings (closing_of hart set) old.0 old.1, old.2, subst (Contains old.0.set) (ap (λ (q : Loaded). q.serial) is) old.3)

once_unmap : (s : State) (hart : ℕ) (set : List ℕ) (l : Closing) → Contains s.closings l → l.hart ≡ hart → l.set ≡ set → Once (core s) → Once (core (unmap hart set s))
unfolding unmap
once_unmap s hart set l there_l by whole once = record {
  dead = λ k d there h.
      let old = fewer_closings s.closings hart set k there in
      let dead = once.dead k d old h in
      let out : Contains set dead.1.serial → ⊥ = λ i. other k d there h (subst (Contains set) dead.4 i) in
      let kept : Contains (gone_in set dead.0).objects dead.1 = in_filter (λ (o : Loaded). not (has set o.serial)) dead.0.objects dead.1 dead.3 (ap not (has_none dead.1.serial out (has set dead.1.serial) refl)) in (
        gone_in set dead.0,
        dead.1,
        in_filter is_left (map (gone_in set) s.namespaces) (gone_in set dead.0) (in_map (gone_in set) s.namespaces dead.0 dead.2) (left_nonempty (gone_in set dead.0) dead.1.serial (dead.1, kept, refl)),
        kept,
        dead.4,
        dead.5,
      );
  once = λ k m d there there'. once.once k m d (fewer_closings s.closings hart set k there) (fewer_closings s.closings hart set m there');
  only = λ ms o h there inside e. each_left set s.namespaces
      (λ n. Contains n.objects o → (k : Closing) × Contains (filter (λ c. not (is_closing hart set c)) s.closings) k × (k.hart ≡ h) × Contains k.set o.serial)
      (λ ns at i.
      let was = stayed set ns o i in
      let old = once.only ns o h at was.0 e in
      (old.0, in_filter (λ c. not (is_closing hart set c)) s.closings old.0 old.1 (ap not (is_other old.0 o old.3 was.1 (is_closing hart set old.0) refl)), old.2, old.3))
      ms there inside;
}
  where
    has_none : (d : ℕ) → (Contains set d → ⊥) → (t : Bool) → has set d ≡ t → has set d ≡ false
    has_none d out true e = absurd (out (has_in set d e))
    has_none d out false e = e

    is_other : (k : Closing) (o : Loaded) → Contains k.set o.serial → (Contains set o.serial → ⊥) → (t : Bool) → is_closing hart set k ≡ t → is_closing hart set k ≡ false
    is_other k o h out true e = absurd (out (subst (λ (xs : List ℕ). Contains xs o.serial) (is_closing_set hart set k e) h))
    is_other k o h out false e = e

    other : (k : Closing) (d : ℕ) → Contains (filter (λ c. not (is_closing hart set c)) s.closings) k → Contains k.set d → Contains set d → ⊥
    other k d there h i =
        let kept = from_filter (λ c. not (is_closing hart set c)) s.closings k there in
        let same : k ≡ l = once.once k l d kept.0 there_l h (subst (λ (xs : List ℕ). Contains xs d) (sym whole) i) in
        let itself : is_closing hart set l ≡ true = subst (λ (n : ℕ). is_closing n set l ≡ true) by (subst (λ (xs : List ℕ). is_closing l.hart xs l ≡ true) whole (is_closing_itself l)) in
        true≢false (sym (ap (is_closing hart set) same ∙ itself) ∙ not-true (is_closing hart set k) kept.1)

once_initialise : (s : State) (object : ℕ) → Once (core s) → Once (core (initialise object s))
unfolding initialise
once_initialise s object once = record {
  dead = λ k d there h.
      let dead = once.dead k d there h in
      let same = ready_if dead.1 k.hart (eqb dead.1.serial object) dead.5 in
      dead_by (ready_in object) s.namespaces d k.hart dead
      (subst (λ (q : Loaded). Contains (map (ready_object object) dead.0.objects) q) same (in_map (ready_object object) dead.0.objects dead.1 dead.3));
  once = once.once;
  only = λ ms o hart there inside e. each_mapped (ready_in object) s.namespaces
      (λ n. Contains n.objects o → (k : Closing) × Contains s.closings k × (k.hart ≡ hart) × Contains k.set o.serial)
      (λ ns at i. let was = from_map (ready_object object) ns.objects o i in
      let same = was_it was.0 o hart (eqb was.0.serial object) was.2 e in
      subst (λ (q : Loaded). (k : Closing) × Contains s.closings k × (k.hart ≡ hart) × Contains k.set q.serial) same
      (once.only ns was.0 hart at was.1 (ap (λ (q : Loaded). q.state) same ∙ e)))
      ms there inside;
}
  where
    by_doing : (was o : Loaded) (hart : ℕ) (doing : Doing) → elim doing [ states.Initialising k ↦ record was { state = states.Ready } | other ↦ was ] ≡ o → o.state ≡ states.Dying hart → was ≡ o
    by_doing was o hart (states.Initialising k) same e = absurd (let d : states.Ready ≡ states.Dying hart = ap (λ (q : Loaded). q.state) same ∙ e in cc)
    by_doing was o hart states.Ready same e = same
    by_doing was o hart (states.Dying k) same e = same

    was_it : (was o : Loaded) (hart : ℕ) (t : Bool) → (if t then ready_state was else was) ≡ o → o.state ≡ states.Dying hart → was ≡ o
    was_it was o hart true same e = by_doing was o hart was.state same e
    was_it was o hart false same e = same

once_law : Law Once
once_law = record {
  starts = once_start (empty_namespace 0 ∷ []) (λ ns o there inside. none_in o (subst (λ (n : Namespace). Contains n.objects o) (sym (only_in (empty_namespace 0) ns there)) inside)) (core empty_state) refl refl;
  opens = λ w s hart ask id root added ranges good once opens came. once_open s hart ask id root added ranges good once came;
  closes = λ s hart handle set good once closes.
      once_die (lower handle s) hart (lowered_in handle closes.namespace) set (good_lower s handle good) (once_lower s handle once) (closes_dies s handle set closes);
  unmaps = λ s hart set good once may. once_unmap s hart set may.closing may.there may.by may.whole once;
  grants = λ s number hart owner slot choice value good once may. once;
  settles = λ s number standing good once shut. once;
  initialises = λ s object good once. once_initialise s object once;
}

are_once : (s : State) → Once (core s) → EachDiesOnce s
are_once s once = record {
  dying = λ k d there h. let dead = once.dead k d there h in
      record { namespace = dead.0; object = dead.1; inside = record { there = dead.2; inside = dead.3 }; is = dead.4; dying = dead.5 };
  once = once.once;
  only = λ ns o hart inside e. once.only ns o hart inside.there inside.inside e;
}

pub dies_once : LoadLaws → (m : Machine) (journal : List Event) → Lawful m journal → EachDiesOnce (after journal)
dies_once laws m journal lawful = are_once (after journal) (by_law laws Once once_law m journal lawful).1

pub once_after : LoadLaws → (m : Machine) (journal : List Event) → Lawful m journal → Good (core (after journal)) × Once (core (after journal))
once_after laws m journal lawful = by_law laws Once once_law m journal lawful
