-- Which objects of a loading are left to be initialised, event by event.
use Rattle.std.proofs.Common.{◌≡◌, ◌⊎◌, inl, inr, ⊎_elim, ℕ, suc, ◌<◌, ◌≤◌, not, eqb, List, [], ◌∷◌, ◌++◌, map, take, Some, refl, sym, ap, subst, ◌∙◌, arith}
use Rattle.std.specs.List.{Contains, filter, flat_map}
use Rattle.std.proofs.lemmas.List.Elements.{Contains-append_cases, Contains-append_left, Contains-append_right, Contains-push, Contains-push_cases}
use Rattle.ld_base.specs.declared.linking.Loaded.{Loaded}
use Rattle.history_event.specs.declared.event.CloseAnswer.TheVariants as closes
use Rattle.history_event.specs.declared.event.Event.{Event}
use Rattle.history_event.specs.declared.event.Event.TheVariants as events
use Rattle.history_event.specs.declared.event.OpenAnswer.TheVariants as opens
use Rattle.history_event.specs.declared.event.OpenAsk.{OpenAsk}
use Rattle.history_event.specs.declared.event.Range.{Range}
use Rattle.history_event.specs.declared.event.SymAnswer.TheVariants as syms
use Rattle.history_event.specs.declared.handed.Function.{Function}
use Rattle.history_event.specs.declared.state.Loading.{Loading}
use Rattle.history_graph.specs.declared.graph.Edge.{Edge}
use Rattle.history_graph.specs.Initialised.{InitNext, IsStrictDependency, program_last}
use Rattle.history_graph.specs.Reached.{Reached}
use Rattle.scope_rule.specs.declared.namespace.Namespace.{Namespace}
use Rattle.history_state.specs.State.{State}
use Rattle.history_state.specs.After.{after}
use Rattle.history_state.specs.Allowed.{Allowed, AllowedIn}
use Rattle.history_state.specs.Flags.{is_global}
use Rattle.history_state.specs.Laws.{IsIn, LeadsTo, NothingDangles}
use Rattle.history_state.specs.Legal.{Lawful}
use Rattle.history_state.specs.Links.{found_edges}
use Rattle.history_state.specs.Objects.{mapped, serial_of}
use Rattle.history_state.specs.Setting.{Machine, Setting}
use Rattle.history_state.specs.Step.{die, dying_in, dying_object, initialise, loaded, loading_of, lower, lowered_in, namespace_before, ready_in, ready_object, step, unmap}
use Rattle.history_state.specs.Lemmas.Alone.{apart}
use Rattle.history_state.specs.Lemmas.Arrived.{Arrived}
use Rattle.history_state.specs.Lemmas.Brought.{LoadLaws, arrived_by}
use Rattle.history_state.specs.Lemmas.Changed.{Leaves, leaves_dying, leaves_ready}
use Rattle.history_state.specs.Lemmas.Closed.{each_left, stayed}
use Rattle.history_state.specs.Lemmas.Dangling.{dangles}
use Rattle.history_state.specs.Lemmas.Good.{core, each_mapped}
use Rattle.history_state.specs.Lemmas.History.{after_push, lawful_push}
use Rattle.history_state.specs.Lemmas.Imaged.{objects_open}
use Rattle.history_state.specs.Lemmas.Lists.{at_in, first_or_later, from_filter, from_flat, from_map, here, in_flat, in_map, later, only_in}
use Rattle.history_state.specs.Lemmas.Positive.{all_given}
use Rattle.history_state.specs.Lemmas.Serials.{serials_in_order}
use Rattle.history_state.specs.Lemmas.Steps.{good_after}
use Rattle.history_state.specs.Lemmas.Uninitialised.{uninitialised_stay}
use Rattle.history_calls.specs.Functions.{AreConstructors, AreLeft, object_of}

abbrev edges_of : State → List Edge
edges_of s = flat_map found_edges (mapped s)

-- ---- two states in which objects of one serial found the same

record Like (s t : State) : Type 0 where
  low : (ns : Namespace) (o : Loaded) → IsIn s ns o → 1 ≤ o.serial
  low_there : (ns : Namespace) (o : Loaded) → IsIn t ns o → 1 ≤ o.serial
  one : (ns ms : Namespace) (o p : Loaded) → IsIn s ns o → IsIn s ms p → o.serial ≡ p.serial → o ≡ p
  one_there : (ns ms : Namespace) (o p : Loaded) → IsIn t ns o → IsIn t ms p → o.serial ≡ p.serial → o ≡ p
  stands : NothingDangles s
  stands_there : NothingDangles t
  found : (ns ms : Namespace) (o p : Loaded) → IsIn s ns o → IsIn t ms p → o.serial ≡ p.serial → o.found ≡ p.found

flipped : (s t : State) → Like s t → Like t s
flipped s t like = record {
  low = like.low_there;
  low_there = like.low;
  one = like.one_there;
  one_there = like.one;
  stands = like.stands_there;
  stands_there = like.stands;
  found = λ ns ms o p a b e. sym (like.found ms ns p o b a (sym e));
}

-- an object of both states, or the linker's own
record Both (s t : State) (x : ℕ) : Type 0 where
  ns : Namespace
  o : Loaded
  inside : IsIn s ns o
  is : o.serial ≡ x
  ms : Namespace
  p : Loaded
  there : IsIn t ms p
  also : p.serial ≡ x

abbrev Known : State → State → ℕ → Type 0
Known s t x = (x ≡ 0) ⊎ Both s t x

known_back : (s t : State) (x : ℕ) → Known s t x → Known t s x
known_back s t x (inl zero_is) = inl zero_is
known_back s t x (inr b) = inr (record { ns = b.ms; o = b.p; inside = b.there; is = b.also; ms = b.ns; p = b.o; there = b.inside; also = b.is })

module _ (s t : State) (like : Like s t) where
  -- what it found is in both, too
  known_on : (x : ℕ) → Both s t x → (d : ℕ) → (ns : Namespace) (o : Loaded) → IsIn s ns o → o.serial ≡ x → Contains o.found d → Known s t d
  known_on x b d ns o inside is h =
      let same : o ≡ b.o = like.one ns b.ns o b.o inside b.inside (is ∙ sym b.is) in
      let first : Contains b.o.found d = subst (λ (q : Loaded). Contains q.found d) same h in
      let second : Contains b.p.found d = subst (λ (ds : List ℕ). Contains ds d) (like.found b.ns b.ms b.o b.p b.inside b.there (b.is ∙ sym b.also)) first in
      ⊎_elim
      (λ (zero_is : d ≡ 0). inl zero_is)
      (λ (one : (q : Loaded) × Contains b.ns.objects q × (q.serial ≡ d)). ⊎_elim
      (λ (zero_is : d ≡ 0). inl zero_is)
      (λ (two : (q : Loaded) × Contains b.ms.objects q × (q.serial ≡ d)). inr (record {
        ns = b.ns;
        o = one.0;
        inside = record { there = b.inside.there; inside = one.1 };
        is = one.2;
        ms = b.ms;
        p = two.0;
        there = record { there = b.there.there; inside = two.1 };
        also = two.2;
      }))
      (like.stands_there b.ms b.p d b.there (LeadsTo.found second)))
      (like.stands b.ns b.o d b.inside (LeadsTo.found first))

  -- an edge of the one state from an object of both is one of the other
  edge_moves : (e : Edge) → Contains (edges_of s) e → Known s t e.source → Contains (edges_of t) e × Known s t e.target
  edge_moves e there known =
      let by = from_flat found_edges (mapped s) e there in
      let home = from_flat (λ (ns : Namespace). ns.objects) s.namespaces by.0 by.1 in
      let at = from_map (λ (d : ℕ). let edge : Edge = record { source = by.0.serial; target = d } in edge) by.0.found e by.2 in
      let source : by.0.serial ≡ e.source = ap (λ (x : Edge). x.source) at.2 in
      let target : at.0 ≡ e.target = ap (λ (x : Edge). x.target) at.2 in
      let inside : IsIn s home.0 by.0 = record { there = home.1; inside = home.2 } in
      ⊎_elim
      (λ (zero_is : e.source ≡ 0). let low : 1 ≤ by.0.serial = like.low home.0 by.0 inside in absurd (omega (arith, zero_is, source, low)))
      (λ (b : Both s t e.source).
      let same : by.0 ≡ b.o = like.one home.0 b.ns by.0 b.o inside b.inside (source ∙ sym b.is) in
      let found : Contains b.p.found at.0 =
      subst (λ (ds : List ℕ). Contains ds at.0) (like.found b.ns b.ms b.o b.p b.inside b.there (b.is ∙ sym b.also)) (subst (λ (q : Loaded). Contains q.found at.0) same at.1) in
      let edge : Contains (found_edges b.p) (record { source = b.p.serial; target = at.0 }) = in_map (λ (d : ℕ). record { source = b.p.serial; target = d }) b.p.found at.0 found in
      let is_e : record { source = b.p.serial; target = at.0 } ≡ e = ap (λ (n : ℕ). record { source = n; target = at.0 }) (b.also ∙ sym source) ∙ at.2 in (
        subst (Contains (edges_of t)) is_e
            (in_flat found_edges (mapped t) b.p _ (in_flat (λ (ns : Namespace). ns.objects) t.namespaces b.ms b.p b.there.there b.there.inside) edge),
        subst (Known s t) target (known_on e.source b at.0 home.0 by.0 inside source at.1),
      ))
      known

  reach : (x : ℕ) → Known s t x → (y : ℕ) → Reached (edges_of s) (x ∷ []) y → Known s t y × Reached (edges_of t) (x ∷ []) y
  reach x known y (Reached.root h) = (subst (Known s t) (only_in x y h) known, Reached.root h)
  reach x known y (Reached.on e there r) =
      let before = reach x known e.source r in
      let moved = edge_moves e there before.0 in
      (moved.1, Reached.on e moved.0 before.1)

-- what an object has to wait for is the same in both
strict : (s t : State) → Like s t → (o d : ℕ) → Known s t o → IsStrictDependency (edges_of s) o d → IsStrictDependency (edges_of t) o d
strict s t like o d known waits =
    let to = reach s t like o known d waits.0 in
    (to.1, λ back. waits.1 (reach t s (flipped s t like) d (known_back s t d to.0) o back).1)

module _ (s t : State) (like : Like s t) (new done other : List ℕ) (forth : (d : ℕ) → Contains new d → Contains done d → Contains other d)
    (back : (d : ℕ) → Contains new d → Contains other d → Contains done d) (known : (d : ℕ) → Contains new d → (Contains done d → ⊥) → Known s t d) where
  next_moves : (o : ℕ) → InitNext (edges_of s) new done o → InitNext (edges_of t) new other o
  next_moves o next =
      let member : Contains new o = at_in new next.place o next.stands in
      record {
        place = next.place;
        stands = next.stands;
        may = record {
          undone = λ h. next.may.undone (back o member h);
          ready = λ d inside waits. forth d inside
              (next.may.ready d inside (strict t s (flipped s t like) o d (known_back s t o (known o member next.may.undone)) waits));
        };
        first = λ earlier e below at may.
            let one : Contains new e = at_in new earlier e at in
            let undone : Contains done e → ⊥ = λ h. may.undone (forth e one h) in
            next.first earlier e below at (record {
              undone = undone;
              ready = λ d inside waits. back d inside (may.ready d inside (strict s t like e d (known e one undone) waits));
            });
      }

-- ---- one event

-- an object after an event was there, or has a serial that none had
abbrev IsOld : State → Loaded → Type 0
IsOld s p = (ns : Namespace) × (o : Loaded) × IsIn s ns o × (o.serial ≡ p.serial) × (o.found ≡ p.found)

old_each : (s : State) (each : Loaded → Loaded) → Leaves each → (ns : Namespace) → Contains s.namespaces ns → (p : Loaded) → Contains (map each ns.objects) p → IsOld s p
old_each s each leaves ns there p h =
    let at = from_map each ns.objects p h in
    let what = leaves at.0 in
    let same = sym what.1 ∙ at.2 in
    (ns, at.0, record { there = there; inside = at.1 }, ap (λ (q : Loaded). q.serial) same, ap (λ (q : Loaded). q.found) same)

itself : (s : State) (ns : Namespace) (p : Loaded) → Contains s.namespaces ns → Contains ns.objects p → IsOld s p
itself s ns p there inside = (ns, p, record { there = there; inside = inside }, refl, refl)

lowered_old : (handle : ℕ) (s : State) (ns : Namespace) (p : Loaded) → Contains (map (lowered_in handle) s.namespaces) ns → Contains ns.objects p → IsOld s p
lowered_old handle s ns p there inside = each_mapped (lowered_in handle) s.namespaces (λ n. Contains n.objects p → IsOld s p) (λ ms at h. itself s ms p at h) ns there inside

old_or_new : LoadLaws → (m : Machine) (w : Setting) (past : List Event) (e : Event) → Lawful m past → AllowedIn w past (after past) e → (ms : Namespace) (p : Loaded) → Contains (step (after past) e).namespaces ms
    → Contains ms.objects p → IsOld (after past) p ⊎ ((after past).next ≤ p.serial)
unfolding loaded die lower unmap initialise
old_or_new laws m w past (events.Open hart ask (opens.Done id root added ranges)) lawful may ms p there inside = ⊎_elim
    (λ (old : (ns : Namespace) × Contains (after past).namespaces ns × Contains ns.objects p). inl (itself (after past) old.0 p old.1 old.2))
    (λ (new : Contains added p). inr (came.fresh p new).0)
    (objects_open id added root (is_global ask.flags) (after past).namespaces ms p there inside)
  where
    came : Arrived (core (after past)) (namespace_before (after past) id) added root
    came = arrived_by laws w (after past) (good_after laws m past lawful) hart ask id root added ranges may
old_or_new laws m w past (events.Open hart ask opens.Absent) lawful may ms p there inside = inl (itself (after past) ms p there inside)
old_or_new laws m w past (events.Open hart ask (opens.Refused fault)) lawful may ms p there inside = inl (itself (after past) ms p there inside)
old_or_new laws m w past (events.Close hart handle (closes.Done set)) lawful may ms p there inside =
    inl (each_mapped (dying_in hart set) (map (lowered_in handle) (after past).namespaces) (λ n. Contains n.objects p → IsOld (after past) p)
    (λ ns at h.
    let from = from_map (dying_object hart set) ns.objects p h in
    let what = leaves_dying hart set from.0 in
    let same = sym what.1 ∙ from.2 in
    let old = lowered_old handle (after past) ns from.0 at from.1 in
    (old.0, old.1, old.2, old.3 ∙ ap (λ (q : Loaded). q.serial) same, old.4 ∙ ap (λ (q : Loaded). q.found) same))
    ms there inside)
old_or_new laws m w past (events.Close hart handle (closes.Refused fault)) lawful may ms p there inside = inl (itself (after past) ms p there inside)
old_or_new laws m w past (events.Unmapped hart set) lawful may ms p there inside =
    inl (each_left set (after past).namespaces (λ n. Contains n.objects p → IsOld (after past) p) (λ ns at h. itself (after past) ns p at (stayed set ns p h).0) ms there inside)
old_or_new laws m w past (events.Grant number hart owner slot choice value) lawful may ms p there inside = inl (itself (after past) ms p there inside)
old_or_new laws m w past (events.Bound number) lawful may ms p there inside = inl (itself (after past) ms p there inside)
old_or_new laws m w past (events.Lost number saw) lawful may ms p there inside = inl (itself (after past) ms p there inside)
old_or_new laws m w past (events.Unresolved hart owner slot choice) lawful may ms p there inside = inl (itself (after past) ms p there inside)
old_or_new laws m w past (events.Sym hart ask (syms.Found serial index value)) lawful may ms p there inside = inl (itself (after past) ms p there inside)
old_or_new laws m w past (events.Sym hart ask (syms.Refused fault)) lawful may ms p there inside = inl (itself (after past) ms p there inside)
old_or_new laws m w past (events.Tls hart owner address) lawful may ms p there inside = inl (itself (after past) ms p there inside)
old_or_new laws m w past (events.Init hart object) lawful may ms p there inside =
    inl (each_mapped (ready_in object) (after past).namespaces (λ n. Contains n.objects p → IsOld (after past) p) (λ ns at h. old_each (after past) (ready_object object) (leaves_ready object) ns at p h) ms there inside)
old_or_new laws m w past (events.Fini hart object) lawful may ms p there inside = inl (itself (after past) ms p there inside)
old_or_new laws m w past (events.Wrote hart bytes) lawful may ms p there inside = inl (itself (after past) ms p there inside)
old_or_new laws m w past (events.Told hart fault) lawful may ms p there inside = inl (itself (after past) ms p there inside)
old_or_new laws m w past (events.Ended hart reason) lawful may ms p there inside = inl (itself (after past) ms p there inside)

-- loadings stay
loading_stays : (s : State) (e : Event) (l : Loading) → Contains s.loadings l → Contains (step s e).loadings l
unfolding loaded die lower unmap initialise
loading_stays s (events.Open hart ask (opens.Done id root added ranges)) l h = Contains-append_left s.loadings (loading_of hart added) l h
loading_stays s (events.Open hart ask opens.Absent) l h = h
loading_stays s (events.Open hart ask (opens.Refused fault)) l h = h
loading_stays s (events.Close hart handle (closes.Done set)) l h = h
loading_stays s (events.Close hart handle (closes.Refused fault)) l h = h
loading_stays s (events.Unmapped hart set) l h = h
loading_stays s (events.Grant number hart owner slot choice value) l h = h
loading_stays s (events.Bound number) l h = h
loading_stays s (events.Lost number saw) l h = h
loading_stays s (events.Unresolved hart owner slot choice) l h = h
loading_stays s (events.Sym hart ask (syms.Found serial index value)) l h = h
loading_stays s (events.Sym hart ask (syms.Refused fault)) l h = h
loading_stays s (events.Tls hart owner address) l h = h
loading_stays s (events.Init hart object) l h = h
loading_stays s (events.Fini hart object) l h = h
loading_stays s (events.Wrote hart bytes) l h = h
loading_stays s (events.Told hart fault) l h = h
loading_stays s (events.Ended hart reason) l h = h

-- what is initialised after an event was before, or is the event's object
abbrev InitsGrow : State → Event → Type 0
InitsGrow s e = ((d : ℕ) → Contains s.inits d → Contains (step s e).inits d) × ((d : ℕ) → Contains (step s e).inits d → Contains s.inits d ⊎ ((h : ℕ) × (e ≡ events.Init h d)))

same_inits : (s : State) (e : Event) → (step s e).inits ≡ s.inits → InitsGrow s e
same_inits s e same = (λ d h. subst (λ (xs : List ℕ). Contains xs d) (sym same) h, λ d h. inl (subst (λ (xs : List ℕ). Contains xs d) same h))

inits_grow : (s : State) (e : Event) → InitsGrow s e
unfolding loaded die lower unmap initialise
inits_grow s (events.Open hart ask (opens.Done id root added ranges)) = same_inits s _ refl
inits_grow s (events.Open hart ask opens.Absent) = same_inits s _ refl
inits_grow s (events.Open hart ask (opens.Refused fault)) = same_inits s _ refl
inits_grow s (events.Close hart handle (closes.Done set)) = same_inits s _ refl
inits_grow s (events.Close hart handle (closes.Refused fault)) = same_inits s _ refl
inits_grow s (events.Unmapped hart set) = same_inits s _ refl
inits_grow s (events.Grant number hart owner slot choice value) = same_inits s _ refl
inits_grow s (events.Bound number) = same_inits s _ refl
inits_grow s (events.Lost number saw) = same_inits s _ refl
inits_grow s (events.Unresolved hart owner slot choice) = same_inits s _ refl
inits_grow s (events.Sym hart ask (syms.Found serial index value)) = same_inits s _ refl
inits_grow s (events.Sym hart ask (syms.Refused fault)) = same_inits s _ refl
inits_grow s (events.Tls hart owner address) = same_inits s _ refl
inits_grow s (events.Init hart object) = (
  λ d h. Contains-append_left s.inits (object ∷ []) d h,
  λ d h. ⊎_elim (λ (i : Contains s.inits d). inl i) (λ (is : object ≡ d). inr (hart, ap (λ (n : ℕ). events.Init hart n) is)) (Contains-push_cases s.inits object d h),
)
inits_grow s (events.Fini hart object) = same_inits s _ refl
inits_grow s (events.Wrote hart bytes) = same_inits s _ refl
inits_grow s (events.Told hart fault) = same_inits s _ refl
inits_grow s (events.Ended hart reason) = same_inits s _ refl

initialised_in : (s : State) (h o : ℕ) → Contains (step s (events.Init h o)).inits o
unfolding initialise
initialised_in s h o = Contains-push s.inits o

loaded_in : (s : State) (h id root : ℕ) (ask : OpenAsk) (first : Loaded) (rest : List Loaded) (ranges : List Range)
    → Contains (step s (events.Open h ask (opens.Done id root (first ∷ rest) ranges))).loadings (record { hart = h; serials = map serial_of (first ∷ rest) })
unfolding loaded
loaded_in s h id root ask first rest ranges = Contains-append_right s.loadings (loading_of h (first ∷ rest)) _ (here _ [])

its_object : (h o k d : ℕ) → events.Init h o ≡ events.Init k d → o ≡ d
its_object h o k d same = cc

-- ---- laws

module _ (laws : LoadLaws) (m : Machine) where
  like_itself : (past : List Event) → Lawful m past → Like (after past) (after past)
  like_itself past lawful =
      let order = serials_in_order laws m past lawful in
      let alone = apart laws m past lawful in
      record {
        low = order.from;
        low_there = order.from;
        one = alone.records;
        one_there = alone.records;
        stands = dangles laws m past lawful;
        stands_there = dangles laws m past lawful;
        found = λ ns ms o p a b e. ap (λ (q : Loaded). q.found) (alone.records ns ms o p a b e);
      }

  like_after : (w : Setting) (past : List Event) (e : Event) → w.machine ≡ m → Lawful m past → Allowed w past e → Like (after past) (after (past ++ e ∷ []))
  like_after w past e same lawful may =
      let more = lawful_push m w past e same lawful may in
      let order = serials_in_order laws m past lawful in
      let alone = apart laws m past lawful in
      record {
        low = order.from;
        low_there = (serials_in_order laws m (past ++ e ∷ []) more).from;
        one = alone.records;
        one_there = (apart laws m (past ++ e ∷ []) more).records;
        stands = dangles laws m past lawful;
        stands_there = dangles laws m (past ++ e ∷ []) more;
        found = λ ns ms o p inside there is. ⊎_elim
            (λ (old : IsOld (after past) p). ap (λ (q : Loaded). q.found) (alone.records ns old.0 o old.1 inside old.2 (is ∙ sym old.3)) ∙ old.4)
            (λ (new : (after past).next ≤ p.serial). let low : o.serial < (after past).next = order.below ns o inside in absurd (omega (arith, low, new, is)))
            (old_or_new laws m w past e lawful may ms p
            (subst (λ (s : State). Contains s.namespaces ms) (after_push past e) there.there) there.inside);
      }

  -- members of a loading in the order in which they are looked at
  of_loading : (serials : List ℕ) (d : ℕ) → Contains (program_last (Some 1) serials) d → Contains serials d
  of_loading serials d h = ⊎_elim
      (λ (a : Contains (filter (λ o. not (eqb o 1)) serials) d). (from_filter (λ o. not (eqb o 1)) serials d a).0)
      (λ (b : Contains (filter (λ o. eqb o 1) serials) d). (from_filter (λ o. eqb o 1) serials d b).0)
      (Contains-append_cases (filter (λ o. not (eqb o 1)) serials) (filter (λ o. eqb o 1) serials) d h)

  -- what is initialised in neither state is mapped in both
  unready : (w : Setting) (past : List Event) (e : Event) → w.machine ≡ m → Lawful m past → Allowed w past e → (l : Loading) → Contains (after past).loadings l → (d : ℕ) → Contains l.serials d
      → (Contains (after past).inits d → ⊥) → (Contains (after (past ++ e ∷ [])).inits d → ⊥) → Known (after past) (after (past ++ e ∷ [])) d
  unready w past e same lawful may l there d inside out out_there =
      let more = lawful_push m w past e same lawful may in
      let before = uninitialised_stay laws m past lawful l d there inside out in
      let behind = uninitialised_stay laws m (past ++ e ∷ []) more l d (subst (λ (s : State). Contains s.loadings l) (sym (after_push past e)) (loading_stays (after past) e l there)) inside out_there in
      inr (record { ns = before.namespace; o = before.object; inside = before.inside; is = before.is; ms = behind.namespace; p = behind.object; there = behind.inside; also = behind.is })

  pub starts_stay : (w : Setting) (past : List Event) (e : Event) (l : Loading) (rest : List ℕ) → w.machine ≡ m → Lawful m past → Allowed w past e → Contains (after past).loadings l
      → ((h d : ℕ) → e ≡ events.Init h d → Contains l.serials d → ⊥) → AreLeft (after past) l rest → AreLeft (after (past ++ e ∷ [])) l rest
  starts_stay w past e l rest same lawful may there other left = record {
    each = λ k o at. next_moves (after past) (after (past ++ e ∷ [])) (like_after w past e same lawful may) (program_last (Some 1) l.serials)
        ((after past).inits ++ take k rest) ((after (past ++ e ∷ [])).inits ++ take k rest)
        (λ d inside h. ⊎_elim
        (λ (i : Contains (after past).inits d). Contains-append_left (after (past ++ e ∷ [])).inits (take k rest) d (grown d i))
        (λ (i : Contains (take k rest) d). Contains-append_right (after (past ++ e ∷ [])).inits (take k rest) d i)
        (Contains-append_cases (after past).inits (take k rest) d h))
        (λ d inside h. ⊎_elim
        (λ (i : Contains (after (past ++ e ∷ [])).inits d). Contains-append_left (after past).inits (take k rest) d (was d inside i))
        (λ (i : Contains (take k rest) d). Contains-append_right (after past).inits (take k rest) d i)
        (Contains-append_cases (after (past ++ e ∷ [])).inits (take k rest) d h))
        (λ d inside out. unready w past e same lawful may l there d (of_loading l.serials d inside) (λ i. out (Contains-append_left (after past).inits (take k rest) d i))
        (λ i. out (Contains-append_left (after past).inits (take k rest) d (was d inside i))))
        o (left.each k o at);
    all = λ d inside. ⊎_elim (λ (i : Contains (after past).inits d). inl (grown d i)) (λ (i : Contains rest d). inr i) (left.all d inside);
  }
    where
      grown : (d : ℕ) → Contains (after past).inits d → Contains (after (past ++ e ∷ [])).inits d
      grown d i = subst (λ (s : State). Contains s.inits d) (sym (after_push past e)) ((inits_grow (after past) e).0 d i)

      was : (d : ℕ) → Contains (program_last (Some 1) l.serials) d → Contains (after (past ++ e ∷ [])).inits d → Contains (after past).inits d
      was d inside i = ⊎_elim
          (λ (old : Contains (after past).inits d). old)
          (λ (new : (h : ℕ) × (e ≡ events.Init h d)). absurd (other new.0 d new.1 (of_loading l.serials d inside)))
          ((inits_grow (after past) e).1 d (subst (λ (s : State). Contains s.inits d) (after_push past e) i))

  may_start : (w : Setting) (past : List Event) (l : Loading) (o : ℕ) (rest : List ℕ) → Contains (after past).loadings l → AreLeft (after past) l (o ∷ rest) → Allowed w past (events.Init l.hart o)
  may_start w past l o rest there left = record {
    loading = l;
    there = there;
    by = refl;
    next = subst (λ (done : List ℕ). InitNext (edges_of (after past)) (program_last (Some 1) l.serials) done o) (plain (after past).inits) (left.each 0 o refl);
  }
    where
      plain : (xs : List ℕ) → xs ++ [] ≡ xs
      plain [] = refl
      plain (x ∷ xs) = ap (λ ys. x ∷ ys) (plain xs)

  pub next_starts : (w : Setting) (past : List Event) (l : Loading) (o : ℕ) (rest : List ℕ) → w.machine ≡ m → Lawful m past → Contains (after past).loadings l → AreLeft (after past) l (o ∷ rest)
      → Allowed w past (events.Init l.hart o) × AreLeft (after (past ++ events.Init l.hart o ∷ [])) l rest
  next_starts w past l o rest same lawful there left = (
    may,
    record {
      each = λ k x at. next_moves (after past) (after (past ++ e ∷ [])) (like_after w past e same lawful may) (program_last (Some 1) l.serials)
          ((after past).inits ++ o ∷ take k rest) ((after (past ++ e ∷ [])).inits ++ take k rest) (λ d inside h. forth k d h) (λ d inside h. back k d h)
          (λ d inside out. unready w past e same lawful may l there d (of_loading l.serials d inside) (λ i. out (Contains-append_left (after past).inits (o ∷ take k rest) d i))
          (λ i. out (back k d (Contains-append_left (after (past ++ e ∷ [])).inits (take k rest) d i))))
          x (left.each (suc k) x at);
      all = λ d inside. ⊎_elim
          (λ (i : Contains (after past).inits d). inl (grown d i))
          (λ (i : Contains (o ∷ rest) d). ⊎_elim (λ (is : o ≡ d). inl (subst (Contains (after (past ++ e ∷ [])).inits) is own)) (λ (j : Contains rest d). inr j) (first_or_later o rest d i))
          (left.all d inside);
    },
  )
    where
      e : Event
      e = events.Init l.hart o

      may : Allowed w past (events.Init l.hart o)
      may = may_start w past l o rest there left

      grown : (d : ℕ) → Contains (after past).inits d → Contains (after (past ++ events.Init l.hart o ∷ [])).inits d
      grown d i = subst (λ (s : State). Contains s.inits d) (sym (after_push past (events.Init l.hart o))) ((inits_grow (after past) (events.Init l.hart o)).0 d i)

      own : Contains (after (past ++ events.Init l.hart o ∷ [])).inits o
      own = subst (λ (s : State). Contains s.inits o) (sym (after_push past (events.Init l.hart o))) (initialised_in (after past) l.hart o)

      forth : (k d : ℕ) → Contains ((after past).inits ++ o ∷ take k rest) d → Contains ((after (past ++ events.Init l.hart o ∷ [])).inits ++ take k rest) d
      forth k d h = ⊎_elim
          (λ (i : Contains (after past).inits d). Contains-append_left (after (past ++ events.Init l.hart o ∷ [])).inits (take k rest) d (grown d i))
          (λ (i : Contains (o ∷ take k rest) d). ⊎_elim
          (λ (is : o ≡ d). Contains-append_left (after (past ++ events.Init l.hart o ∷ [])).inits (take k rest) d (subst (Contains (after (past ++ events.Init l.hart o ∷ [])).inits) is own))
          (λ (j : Contains (take k rest) d). Contains-append_right (after (past ++ events.Init l.hart o ∷ [])).inits (take k rest) d j)
          (first_or_later o (take k rest) d i))
          (Contains-append_cases (after past).inits (o ∷ take k rest) d h)

      back : (k d : ℕ) → Contains ((after (past ++ events.Init l.hart o ∷ [])).inits ++ take k rest) d → Contains ((after past).inits ++ o ∷ take k rest) d
      back k d h = ⊎_elim
          (λ (i : Contains (after (past ++ events.Init l.hart o ∷ [])).inits d). ⊎_elim
          (λ (old : Contains (after past).inits d). Contains-append_left (after past).inits (o ∷ take k rest) d old)
          (λ (new : (h : ℕ) × (events.Init l.hart o ≡ events.Init h d)).
          Contains-append_right (after past).inits (o ∷ take k rest) d (subst (Contains (o ∷ take k rest)) (its_object l.hart o new.0 d new.1) (here o (take k rest))))
          ((inits_grow (after past) (events.Init l.hart o)).1 d (subst (λ (s : State). Contains s.inits d) (after_push past (events.Init l.hart o)) i)))
          (λ (i : Contains (take k rest) d). Contains-append_right (after past).inits (o ∷ take k rest) d (later o (take k rest) d i))
          (Contains-append_cases (after (past ++ events.Init l.hart o ∷ [])).inits (take k rest) d h)

  pub opening_begins : (w : Setting) (past : List Event) (h id root : ℕ) (ask : OpenAsk) (first : Loaded) (rest : List Loaded) (ranges : List Range) (functions : List Function) → w.machine ≡ m → Lawful m past
      → Allowed w past (events.Open h ask (opens.Done id root (first ∷ rest) ranges))
      → AreConstructors (after (past ++ events.Open h ask (opens.Done id root (first ∷ rest) ranges) ∷ [])) (map serial_of (first ∷ rest)) functions
      → AreLeft (after (past ++ events.Open h ask (opens.Done id root (first ∷ rest) ranges) ∷ [])) (record { hart = h; serials = map serial_of (first ∷ rest) }) (map object_of functions)
  opening_begins w past h id root ask first rest ranges functions same lawful may are =
      let e : Event = events.Open h ask (opens.Done id root (first ∷ rest) ranges) in
      let more = lawful_push m w past e same lawful may in
      record {
        each = λ k o at. next_moves (after (past ++ e ∷ [])) (after (past ++ e ∷ [])) (like_itself (past ++ e ∷ []) more) (program_last (Some 1) (map serial_of (first ∷ rest)))
            (take k (map object_of functions)) ((after (past ++ e ∷ [])).inits ++ take k (map object_of functions))
            (λ d inside i. Contains-append_right (after (past ++ e ∷ [])).inits (take k (map object_of functions)) d i)
            (λ d inside i. ⊎_elim
            (λ (old : Contains (after (past ++ e ∷ [])).inits d). absurd (fresh d inside old))
            (λ (j : Contains (take k (map object_of functions)) d). j)
            (Contains-append_cases (after (past ++ e ∷ [])).inits (take k (map object_of functions)) d i))
            (λ d inside out. there (past ++ e ∷ []) more (record { hart = h; serials = map serial_of (first ∷ rest) }) (subst (λ (s : State). Contains s.loadings (record { hart = h; serials = map serial_of (first ∷ rest) })) (sym (after_push past e)) (loaded_in (after past) h id root ask first rest ranges)) d (of_loading (map serial_of (first ∷ rest)) d inside) (λ i. fresh d inside i))
            o (are.order.each k o at);
        all = λ d inside. inr (are.order.all d inside);
      }
    where
      fresh : (d : ℕ) → Contains (program_last (Some 1) (map serial_of (first ∷ rest))) d → Contains (after (past ++ events.Open h ask (opens.Done id root (first ∷ rest) ranges) ∷ [])).inits d → ⊥
      fresh d inside i =
          let e : Event = events.Open h ask (opens.Done id root (first ∷ rest) ranges) in
          let came = arrived_by laws w (after past) (good_after laws m past lawful) h ask id root (first ∷ rest) ranges may in
          let at = from_map serial_of (first ∷ rest) d (of_loading (map serial_of (first ∷ rest)) d inside) in
          let from : (after past).next ≤ at.0.serial = (came.fresh at.0 at.1).0 in
          let is : at.0.serial ≡ d = at.2 in
          ⊎_elim
          (λ (old : Contains (after past).inits d). let below : d < (after past).next = (all_given laws m past lawful d old).1 in omega (arith, from, is, below))
          (λ (new : (k : ℕ) × (events.Open h ask (opens.Done id root (first ∷ rest) ranges) ≡ events.Init k d)). cc)
          ((inits_grow (after past) e).1 d (subst (λ (s : State). Contains s.inits d) (after_push past e) i))

      there : (journal : List Event) → Lawful m journal → (l : Loading) → Contains (after journal).loadings l → (d : ℕ) → Contains l.serials d → (Contains (after journal).inits d → ⊥) → Known (after journal) (after journal) d
      there journal more l at d inside out =
          let it = uninitialised_stay laws m journal more l d at inside out in
          inr (record { ns = it.namespace; o = it.object; inside = it.inside; is = it.is; ms = it.namespace; p = it.object; there = it.inside; also = it.is })
