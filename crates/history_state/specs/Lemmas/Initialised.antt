-- Objects are being initialised from their loading until their constructors have run, and are initialised once.
use Rattle.std.proofs.Common.{◌≡◌, ⊎_elim, ℕ, ◌<◌, ◌≤◌, Bool, true, false, not, eqb, List, [], ◌∷◌, ◌++◌, map, length, Option, Some, None, refl, sym, ap, subst, ◌∙◌, arith, ◌+◌}
use Rattle.std.specs.Prelude.{if◌then◌else◌}
use Rattle.std.specs.List.{Contains, filter, slice_get}
use Rattle.std.proofs.lemmas.Bool.{eq-eqb, eqb-true, or_right, true≢false}
use Rattle.std.proofs.lemmas.List.Elements.{Contains-append_cases, Contains-append_left, Contains-append_right, Contains-push_cases}
use Rattle.ld_base.specs.declared.linking.Loaded.{Loaded}
use Rattle.ld_base.specs.declared.linking.State.{State as Doing}
use Rattle.ld_base.specs.declared.linking.State.TheVariants as states
use Rattle.history_event.specs.declared.event.CloseAnswer.TheVariants as closes
use Rattle.history_event.specs.declared.event.Event.{Event}
use Rattle.history_event.specs.declared.event.Event.TheVariants as events
use Rattle.history_event.specs.declared.event.OpenAnswer.TheVariants as opens
use Rattle.history_event.specs.declared.event.OpenAsk.{OpenAsk}
use Rattle.history_event.specs.declared.event.Range.{Range}
use Rattle.history_event.specs.declared.event.SymAnswer.TheVariants as syms
use Rattle.history_event.specs.declared.state.Loading.{Loading}
use Rattle.scope_rule.specs.declared.arrival.Arrival.{Arrival}
use Rattle.scope_rule.specs.Load.{found_by, record_of, records, records_of}
use Rattle.scope_rule.specs.declared.namespace.Namespace.{Namespace}
use Rattle.history_state.specs.State.{State, empty_namespace}
use Rattle.history_state.specs.After.{after}
use Rattle.history_state.specs.Allowed.{AllowedIn, Closes, MayInitialise}
use Rattle.history_state.specs.Flags.{is_deepbind, is_global}
use Rattle.history_state.specs.Laws.{InitialisedOnce}
use Rattle.history_state.specs.Legal.{Lawful}
use Rattle.history_state.specs.Links.{stays}
use Rattle.history_state.specs.Objects.{has, is_ready, serial_of}
use Rattle.history_state.specs.Opening.{Opens, OpensName, unplaced}
use Rattle.history_state.specs.Setting.{Machine, Setting, load_of}
use Rattle.history_state.specs.Step.{die, dying_in, dying_object, gone_in, initialise, is_left, loaded, loading_of, lower, lowered_in, namespace_before, ready_in, ready_object, ready_state, step, unmap}
use Rattle.history_state.specs.Lemmas.History.{by_lawful}
use Rattle.history_state.specs.Lemmas.Lists.{at_in, first_or_later, from_filter, from_map, has_in, here, in_map, none_in, only_in}
use Rattle.history_state.specs.Lemmas.Arrived.{Arrived}
use Rattle.history_state.specs.Lemmas.Brought.{LoadLaws, arrived_by}
use Rattle.history_state.specs.Lemmas.Closed.{Dies, closes_dies, dies_node, each_left, stayed}
use Rattle.history_state.specs.Lemmas.Dying.{staying_root}
use Rattle.history_state.specs.Lemmas.Good.{core, each_mapped}
use Rattle.history_state.specs.Lemmas.Imaged.{objects_open}
use Rattle.history_state.specs.Lemmas.Serials.{in_order_after}
use Rattle.history_state.specs.Lemmas.Steps.{good_after}
use Rattle.history_state.specs.Lemmas.Tidy.{get_push}

-- ---- what a loading makes

-- new objects are being initialised by the hart that loads them
records_doing : (hart : ℕ) (deep : Bool) (serial : ℕ) (os : List Arrival) (founds : List (List ℕ)) (o : Loaded) → Contains (records hart deep serial os founds) o → o.state ≡ states.Initialising hart
records_doing hart deep serial [] founds o h = absurd (none_in o h)
records_doing hart deep serial (a ∷ os) [] o h = absurd (none_in o h)
records_doing hart deep serial (a ∷ os) (found ∷ founds) o h = ⊎_elim
    (λ (e : record_of hart deep serial a found ≡ o). sym (ap (λ (q : Loaded). q.state) e))
    (λ (i : Contains (records hart deep (serial + 1) os founds) o). records_doing hart deep (serial + 1) os founds o i)
    (first_or_later (record_of hart deep serial a found) (records hart deep (serial + 1) os founds) o h)

pub new_doing : (w : Setting) (s : State) (hart : ℕ) (ask : OpenAsk) (id root : ℕ) (added : List Loaded) (ranges : List Range) (name : Option (List ℕ)) → OpensName w s hart ask name id root added ranges
    → (a : Loaded) → Contains added a → a.state ≡ states.Initialising hart
new_doing w s hart ask id root added ranges (Some name) loads a h =
    let load = load_of w s hart id name loads.finds.reading in
    let placed : map unplaced added ≡ records_of load (is_deepbind ask.flags) loads.finds.walk = loads.storage.same ∙ loads.finds.are in
    records_doing hart (is_deepbind ask.flags) s.next loads.finds.walk.arrivals (found_by load loads.finds.walk) (unplaced a)
    (subst (λ (os : List Loaded). Contains os (unplaced a)) placed (in_map unplaced added a h))
new_doing w s hart ask id root added ranges None program a h = absurd (none_in a (subst (λ (os : List Loaded). Contains os a) program.none h))

loading_new : (hart : ℕ) (added : List Loaded) (a : Loaded) → Contains added a → (l : Loading) × Contains (loading_of hart added) l × (l.hart ≡ hart) × Contains l.serials a.serial
loading_new hart [] a h = absurd (none_in a h)
loading_new hart (o ∷ rest) a h = (_, here _ [], refl, in_map serial_of (o ∷ rest) a h)

-- ---- the invariant

abbrev Loads : List Loading → ℕ → ℕ → Type 0
Loads loadings hart d = (l : Loading) × Contains loadings l × (l.hart ≡ hart) × Contains l.serials d

record DoneIn (all : List Namespace) (loadings : List Loading) (inits : List ℕ) (next : ℕ) : Type 0 where
  doing : (ns : Namespace) (o : Loaded) (hart : ℕ) → Contains all ns → Contains ns.objects o → o.state ≡ states.Initialising hart → Loads loadings hart o.serial × (Contains inits o.serial → ⊥)
  undone : (ns : Namespace) (o : Loaded) → Contains all ns → Contains ns.objects o → (Contains inits o.serial → ⊥) → (hart : ℕ) × (o.state ≡ states.Initialising hart)
  once : (i j d : ℕ) → slice_get inits i ≡ Some d → slice_get inits j ≡ Some d → i ≡ j
  low : (d : ℕ) → Contains inits d → d < next

abbrev DoneState : State → Type 0
DoneState s = DoneIn s.namespaces s.loadings s.inits s.next

done_lower : (handle : ℕ) (all : List Namespace) (loadings : List Loading) (inits : List ℕ) (next : ℕ) → DoneIn all loadings inits next → DoneIn (map (lowered_in handle) all) loadings inits next
done_lower handle all loadings inits next done = record {
  doing = λ ms o hart there inside e. each_mapped (lowered_in handle) all (λ n. Contains n.objects o → Loads loadings hart o.serial × (Contains inits o.serial → ⊥)) (λ ns at h. done.doing ns o hart at h e) ms there inside;
  undone = λ ms o there inside out. each_mapped (lowered_in handle) all (λ n. Contains n.objects o → (hart : ℕ) × (o.state ≡ states.Initialising hart)) (λ ns at h. done.undone ns o at h out) ms there inside;
  once = done.once;
  low = done.low;
}

-- a closing takes no object that is being initialised
done_die : (s : State) (hart : ℕ) (ns : Namespace) (set : List ℕ) → Dies s ns set → DoneState s → DoneIn (map (dying_in hart set) s.namespaces) s.loadings s.inits s.next
done_die s hart home set dies done = record {
  doing = λ ms o h there inside e. each_mapped (dying_in hart set) s.namespaces (λ n. Contains n.objects o → Loads s.loadings h o.serial × (Contains s.inits o.serial → ⊥))
      (λ ns at i. let q = from_map (dying_object hart set) ns.objects o i in
      let same : q.0 ≡ o = alive q.0 o h (has set q.0.serial) q.2 e in
      subst (λ (p : Loaded). Loads s.loadings h p.serial × (Contains s.inits p.serial → ⊥)) same (done.doing ns q.0 h at q.1 (ap (λ (p : Loaded). p.state) same ∙ e)))
      ms there inside;
  undone = λ ms o there inside out. each_mapped (dying_in hart set) s.namespaces (λ n. Contains n.objects o → (h : ℕ) × (o.state ≡ states.Initialising h))
      (λ ns at i. let q = from_map (dying_object hart set) ns.objects o i in
      let serial : q.0.serial ≡ o.serial = sym (kept_serial q.0 (has set q.0.serial)) ∙ ap serial_of q.2 in
      let was = done.undone ns q.0 at q.1 (λ (h : Contains s.inits q.0.serial). out (subst (Contains s.inits) serial h)) in
      (was.0, undone_at ns q.0 o at q.1 (has set q.0.serial) refl q.2 was.0 was.1))
      ms there inside;
  once = done.once;
  low = done.low;
}
  where
    alive : (q o : Loaded) (h : ℕ) (t : Bool) → (if t then record q { state = states.Dying hart } else q) ≡ o → o.state ≡ states.Initialising h → q ≡ o
    alive q o h true is e = absurd (let d : states.Dying hart ≡ states.Initialising h = ap (λ (p : Loaded). p.state) is ∙ e in cc)
    alive q o h false is e = is

    kept_serial : (q : Loaded) (t : Bool) → (if t then record q { state = states.Dying hart } else q).serial ≡ q.serial
    kept_serial q true = refl
    kept_serial q false = refl

    busy : (q : Loaded) (h : ℕ) → q.state ≡ states.Initialising h → stays q ≡ true
    busy q h e = or_right q.object.flags.nodelete (not (is_ready q)) (ap (λ (d : Doing). not (elim d [ states.Ready ↦ true | _ ↦ false ])) e)

    undone_at : (ns : Namespace) (q o : Loaded) → Contains s.namespaces ns → Contains ns.objects q → (t : Bool) → has set q.serial ≡ t → (if t then record q { state = states.Dying hart } else q) ≡ o
        → (h : ℕ) → q.state ≡ states.Initialising h → o.state ≡ states.Initialising h
    undone_at ns q o at inside true of is h e = absurd ((dies_node s home set dies q.serial (has_in set q.serial of)).1 (staying_root s ns q (at, inside) (busy q h e)))
    undone_at ns q o at inside false of is h e = sym (ap (λ (p : Loaded). p.state) is) ∙ e

done_unmap : (set : List ℕ) (all : List Namespace) (loadings : List Loading) (inits : List ℕ) (next : ℕ) → DoneIn all loadings inits next → DoneIn (filter is_left (map (gone_in set) all)) loadings inits next
done_unmap set all loadings inits next done = record {
  doing = λ ms o hart there inside e. each_left set all (λ n. Contains n.objects o → Loads loadings hart o.serial × (Contains inits o.serial → ⊥)) (λ ns at h. done.doing ns o hart at (stayed set ns o h).0 e) ms there inside;
  undone = λ ms o there inside out. each_left set all (λ n. Contains n.objects o → (hart : ℕ) × (o.state ≡ states.Initialising hart)) (λ ns at h. done.undone ns o at (stayed set ns o h).0 out) ms there inside;
  once = done.once;
  low = done.low;
}

-- ---- a constructor

abbrev made : Loaded → Doing → Loaded
made q doing = elim doing [ states.Initialising k ↦ record q { state = states.Ready } | other ↦ q ]

done_initialise : (s : State) (object : ℕ) → object < s.next → (Contains s.inits object → ⊥) → DoneState s → DoneIn (map (ready_in object) s.namespaces) s.loadings (s.inits ++ object ∷ []) s.next
done_initialise s object small fresh done = record {
  doing = λ ms o h there inside e. each_mapped (ready_in object) s.namespaces (λ n. Contains n.objects o → Loads s.loadings h o.serial × (Contains (s.inits ++ object ∷ []) o.serial → ⊥))
      (λ ns at i. let q = from_map (ready_object object) ns.objects o i in
      doing_at q.0 o h (eqb q.0.serial object) refl q.2 e (λ (same : q.0.state ≡ states.Initialising h). done.doing ns q.0 h at q.1 same))
      ms there inside;
  undone = λ ms o there inside out. each_mapped (ready_in object) s.namespaces (λ n. Contains n.objects o → (h : ℕ) × (o.state ≡ states.Initialising h))
      (λ ns at i. let q = from_map (ready_object object) ns.objects o i in
      let serial : q.0.serial ≡ o.serial = sym (ready_serial q.0 (eqb q.0.serial object)) ∙ ap serial_of q.2 in
      let was = done.undone ns q.0 at q.1 (λ (h : Contains s.inits q.0.serial). out (Contains-append_left s.inits (object ∷ []) o.serial (subst (Contains s.inits) serial h))) in
      (was.0, undone_at q.0 o (eqb q.0.serial object) refl q.2 was.0 was.1 (λ (same : q.0.serial ≡ object). out (Contains-append_right s.inits (object ∷ []) o.serial (subst (λ (d : ℕ). Contains (object ∷ []) d) (sym same ∙ serial) (here object []))))))
      ms there inside;
  once = λ i j d first second. ⊎_elim
      (λ (a : slice_get s.inits i ≡ Some d). ⊎_elim
      (λ (b : slice_get s.inits j ≡ Some d). done.once i j d a b)
      (λ (b : (j ≡ length s.inits) × (object ≡ d)). absurd (fresh (subst (Contains s.inits) (sym b.1) (at_in s.inits i d a))))
      (get_push s.inits object j d second))
      (λ (a : (i ≡ length s.inits) × (object ≡ d)). ⊎_elim
      (λ (b : slice_get s.inits j ≡ Some d). absurd (fresh (subst (Contains s.inits) (sym a.1) (at_in s.inits j d b))))
      (λ (b : (j ≡ length s.inits) × (object ≡ d)). a.0 ∙ sym b.0)
      (get_push s.inits object j d second))
      (get_push s.inits object i d first);
  low = λ d h. ⊎_elim (λ (i : Contains s.inits d). done.low d i) (λ (e : object ≡ d). subst (λ (n : ℕ). n < s.next) e small) (Contains-push_cases s.inits object d h);
}
  where
    made_serial : (q : Loaded) (doing : Doing) → (made q doing).serial ≡ q.serial
    made_serial q (states.Initialising k) = refl
    made_serial q states.Ready = refl
    made_serial q (states.Dying k) = refl

    ready_serial : (q : Loaded) (t : Bool) → (if t then ready_state q else q).serial ≡ q.serial
    ready_serial q true = made_serial q q.state
    ready_serial q false = refl

    not_made : (q o : Loaded) (h : ℕ) (doing : Doing) → q.state ≡ doing → made q doing ≡ o → o.state ≡ states.Initialising h → ⊥
    not_made q o h (states.Initialising k) of is e = let d : states.Ready ≡ states.Initialising h = ap (λ (p : Loaded). p.state) is ∙ e in cc
    not_made q o h states.Ready of is e = let d : states.Ready ≡ states.Initialising h = sym of ∙ ap (λ (p : Loaded). p.state) is ∙ e in cc
    not_made q o h (states.Dying k) of is e = let d : states.Dying k ≡ states.Initialising h = sym of ∙ ap (λ (p : Loaded). p.state) is ∙ e in cc

    doing_at : (q o : Loaded) (h : ℕ) (t : Bool) → eqb q.serial object ≡ t → (if t then ready_state q else q) ≡ o → o.state ≡ states.Initialising h
        → (q.state ≡ states.Initialising h → Loads s.loadings h q.serial × (Contains s.inits q.serial → ⊥)) → Loads s.loadings h o.serial × (Contains (s.inits ++ object ∷ []) o.serial → ⊥)
    doing_at q o h true of is e was = absurd (not_made q o h q.state refl is e)
    doing_at q o h false of is e was =
        let old = was (ap (λ (p : Loaded). p.state) is ∙ e) in
        let other : q.serial ≡ object → ⊥ = λ (same : q.serial ≡ object). true≢false (sym (eq-eqb q.serial object same) ∙ of) in
        subst (λ (p : Loaded). Loads s.loadings h p.serial × (Contains (s.inits ++ object ∷ []) p.serial → ⊥)) is
        (old.0, λ (i : Contains (s.inits ++ object ∷ []) q.serial). ⊎_elim (λ (a : Contains s.inits q.serial). old.1 a) (λ (b : object ≡ q.serial). other (sym b)) (Contains-push_cases s.inits object q.serial i))

    undone_at : (q o : Loaded) (t : Bool) → eqb q.serial object ≡ t → (if t then ready_state q else q) ≡ o → (h : ℕ) → q.state ≡ states.Initialising h → (q.serial ≡ object → ⊥) → o.state ≡ states.Initialising h
    undone_at q o true of is h e other = absurd (other (eqb-true q.serial object of))
    undone_at q o false of is h e other = sym (ap (λ (p : Loaded). p.state) is) ∙ e

-- ---- an opening

done_open : LoadLaws → (m : Machine) (w : Setting) (past : List Event) → Lawful m past → (hart : ℕ) (ask : OpenAsk) (id root : ℕ) (added : List Loaded) (ranges : List Range)
    → Opens w (after past) hart ask id root added ranges → DoneState (after past) → DoneState (step (after past) (events.Open hart ask (opens.Done id root added ranges)))
unfolding loaded
done_open loads m w past lawful hart ask id root added ranges may done =
    let s : State = after past in
    let came : Arrived (core (after past)) (namespace_before (after past) id) added root = arrived_by loads w (after past) (good_after loads m past lawful) hart ask id root added ranges may in
    record {
      doing = λ ns o h there inside e. ⊎_elim
          (λ (old : (ms : Namespace) × Contains (after past).namespaces ms × Contains ms.objects o).
          let was = done.doing old.0 o h old.1 old.2 e in
          ((was.0.0, Contains-append_left (after past).loadings (loading_of hart added) was.0.0 was.0.1, was.0.2, was.0.3), was.1))
          (λ (new : Contains added o).
          let l = loading_new hart added o new in
          let is : states.Initialising hart ≡ states.Initialising h = sym (new_doing w (after past) hart ask id root added ranges ask.name may.name o new) ∙ e in
          let same : hart ≡ h = cc in (
            (l.0, Contains-append_right (after past).loadings (loading_of hart added) l.0 l.1, l.2 ∙ same, l.3),
            λ (i : Contains (after past).inits o.serial). let low : o.serial < (after past).next = done.low o.serial i in let high : (after past).next ≤ o.serial = (came.fresh o new).0 in omega (arith, low, high),
          ))
          (objects_open id added root (is_global ask.flags) (after past).namespaces ns o there inside);
      undone = λ ns o there inside out. ⊎_elim
          (λ (old : (ms : Namespace) × Contains (after past).namespaces ms × Contains ms.objects o). done.undone old.0 o old.1 old.2 out)
          (λ (new : Contains added o). (hart, new_doing w (after past) hart ask id root added ranges ask.name may.name o new))
          (objects_open id added root (is_global ask.flags) (after past).namespaces ns o there inside);
      once = done.once;
      low = λ d h. let under : d < (after past).next = done.low d h in omega (arith, under);
    }

-- an object that is next is one of its loading
pub of_loading : (s : State) (hart object : ℕ) → (may : MayInitialise s hart object) → Contains may.loading.serials object
of_loading s hart object may = ⊎_elim
    (λ (a : Contains (filter (λ o. not (eqb o 1)) may.loading.serials) object). (from_filter (λ o. not (eqb o 1)) may.loading.serials object a).0)
    (λ (b : Contains (filter (λ o. eqb o 1) may.loading.serials) object). (from_filter (λ o. eqb o 1) may.loading.serials object b).0)
    (Contains-append_cases (filter (λ o. not (eqb o 1)) may.loading.serials) (filter (λ o. eqb o 1) may.loading.serials) object (at_in _ may.next.place object may.next.stands))

next_low : LoadLaws → (m : Machine) (past : List Event) → Lawful m past → (hart object : ℕ) → MayInitialise (after past) hart object → object < (after past).next
next_low loads m past lawful hart object may = (in_order_after loads m past lawful).low may.loading object may.there (of_loading (after past) hart object may)

lowered_done : (s : State) (handle : ℕ) → DoneState s → DoneState (lower handle s)
unfolding lower
lowered_done s handle done = done_lower handle s.namespaces s.loadings s.inits s.next done

again : {all : List Namespace} {loadings : List Loading} {inits : List ℕ} {next : ℕ} → DoneIn all loadings inits next → DoneIn all loadings inits next
again done = record { doing = done.doing; undone = done.undone; once = done.once; low = done.low }

closed_done : (s : State) (hart handle : ℕ) (set : List ℕ) → Closes s handle set → DoneState s → DoneState (die hart set (lower handle s))
unfolding die
closed_done s hart handle set closes done = done_die (lower handle s) hart (lowered_in handle closes.namespace) set (closes_dies s handle set closes) (lowered_done s handle done)

done_step : LoadLaws → (m : Machine) (w : Setting) (past : List Event) (e : Event) → Lawful m past → AllowedIn w past (after past) e → DoneState (after past) → DoneState (step (after past) e)
unfolding unmap initialise die
done_step loads m w past (events.Open hart ask (opens.Done id root added ranges)) lawful may done = done_open loads m w past lawful hart ask id root added ranges may done
done_step loads m w past (events.Open hart ask opens.Absent) lawful may done = done
done_step loads m w past (events.Open hart ask (opens.Refused fault)) lawful may done = again done
done_step loads m w past (events.Close hart handle (closes.Done set)) lawful may done = closed_done (after past) hart handle set may done
done_step loads m w past (events.Close hart handle (closes.Refused fault)) lawful may done = again done
done_step loads m w past (events.Unmapped hart set) lawful may done = done_unmap set (after past).namespaces (after past).loadings (after past).inits (after past).next done
done_step loads m w past (events.Grant number hart owner slot choice value) lawful may done = again done
done_step loads m w past (events.Bound number) lawful may done = again done
done_step loads m w past (events.Lost number saw) lawful may done = again done
done_step loads m w past (events.Unresolved hart owner slot choice) lawful may done = done
done_step loads m w past (events.Sym hart ask (syms.Found serial index value)) lawful may done = done
done_step loads m w past (events.Sym hart ask (syms.Refused fault)) lawful may done = again done
done_step loads m w past (events.Tls hart owner address) lawful may done = again done
done_step loads m w past (events.Init hart object) lawful may done = done_initialise (after past) object (next_low loads m past lawful hart object may) may.next.may.undone done
done_step loads m w past (events.Fini hart object) lawful may done = again done
done_step loads m w past (events.Wrote hart bytes) lawful may done = done
done_step loads m w past (events.Told hart fault) lawful may done = again done
done_step loads m w past (events.Ended hart reason) lawful may done = again done

pub initialised_once : LoadLaws → (m : Machine) (journal : List Event) → Lawful m journal → InitialisedOnce (after journal)
initialised_once loads m journal lawful =
    let done : DoneState (after journal) = by_lawful m DoneState
    (record {
      doing = λ ns o hart there inside. absurd (none_in o (subst (λ (n : Namespace). Contains n.objects o) (sym (only_in (empty_namespace 0) ns there)) inside));
      undone = λ ns o there inside. absurd (none_in o (subst (λ (n : Namespace). Contains n.objects o) (sym (only_in (empty_namespace 0) ns there)) inside));
      once = λ i j d at. absurd (let none : None ≡ Some d = at in cc);
      low = λ d h. absurd (none_in d h);
    })
    (λ w past e same past_lawful done may. done_step loads m w past e past_lawful may done) journal lawful in
    record {
      doing = λ ns o hart inside e. let at = done.doing ns o hart inside.there inside.inside e in record { loading = at.0.0; there = at.0.1; by = at.0.2; inside = at.0.3; undone = at.1 };
      undone = λ ns o inside out. done.undone ns o inside.there inside.inside out;
      once = done.once;
    }
