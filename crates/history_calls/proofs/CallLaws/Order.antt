-- An order of new objects by what they themselves found is one by what all objects found.
use Rattle.std.proofs.Common.{◌≡◌, ⊎_elim, ℕ, ◌<◌, ◌≤◌, not, eqb, List, [], ◌∷◌, ◌++◌, map, take, Some, sym, ap, subst, arith}
use Rattle.std.specs.List.{Contains, filter, flat_map}
use Rattle.std.proofs.lemmas.List.Elements.{Contains-append_cases}
use Rattle.ld_base.specs.declared.linking.Loaded.{Loaded}
use Rattle.history_event.specs.declared.event.Event.{Event}
use Rattle.history_event.specs.declared.event.Event.TheVariants.{Open}
use Rattle.history_event.specs.declared.event.OpenAnswer.TheVariants.{Done}
use Rattle.history_event.specs.declared.event.OpenAsk.{OpenAsk}
use Rattle.history_event.specs.declared.event.Range.{Range}
use Rattle.history_graph.specs.declared.graph.Edge.{Edge}
use Rattle.history_graph.specs.Initialised.{InitNext, InitOrder, IsStrictDependency, program_last}
use Rattle.history_graph.specs.Reached.{Reached}
use Rattle.scope_rule.specs.Opening.{opened}
use Rattle.scope_rule.specs.declared.namespace.Namespace.{Namespace}
use Rattle.history_state.specs.After.{after}
use Rattle.history_state.specs.Allowed.{Allowed}
use Rattle.history_state.specs.Flags.{is_global}
use Rattle.history_state.specs.Laws.{IsIn, LeadsTo, NothingDangles, SerialsAreInOrder}
use Rattle.history_state.specs.Legal.{Lawful}
use Rattle.history_state.specs.Links.{found_edges}
use Rattle.history_state.specs.Objects.{mapped, serial_of}
use Rattle.history_state.specs.Setting.{Machine, Setting}
use Rattle.history_state.specs.State.{State}
use Rattle.history_state.specs.Step.{loaded, namespace_before, step, with_namespace}
use Rattle.history_state.specs.Lemmas.Arrived.{Arrived}
use Rattle.history_state.specs.Lemmas.Brought.{LoadLaws, arrived_by}
use Rattle.history_state.specs.Lemmas.Dangling.{dangles}
use Rattle.history_state.specs.Lemmas.Good.{core}
use Rattle.history_state.specs.Lemmas.History.{after_push}
use Rattle.history_state.specs.Lemmas.Imaged.{objects_open, reached_open}
use Rattle.history_state.specs.Lemmas.Lists.{at_in, from_filter, from_flat, from_map, in_flat}
use Rattle.history_state.specs.Lemmas.Serials.{serials_in_order}
use Rattle.history_state.specs.Lemmas.Steps.{good_after}

-- ---- edges of which some lead to what is new

-- the edges of new objects are among all, and each edge to a new object is one of a new object
record AreNew (low : ℕ) (news all : List Edge) : Type 0 where
  among : (e : Edge) → Contains news e → Contains all e
  back : (e : Edge) → Contains all e → low ≤ e.target → Contains news e × (low ≤ e.source)

module _ (low : ℕ) (news all : List Edge) (are : AreNew low news all) where
  forth : (x y : ℕ) → Reached news (x ∷ []) y → Reached all (x ∷ []) y
  forth x y (Reached.root h) = Reached.root h
  forth x y (Reached.on e there r) = Reached.on e (are.among e there) (forth x e.source r)

  back : (x y : ℕ) → low ≤ y → Reached all (x ∷ []) y → Reached news (x ∷ []) y
  back x y new (Reached.root h) = Reached.root h
  back x y new (Reached.on e there r) = let from = are.back e there new in Reached.on e from.0 (back x e.source from.1 r)

  waits_forth : (o d : ℕ) → low ≤ o → IsStrictDependency news o d → IsStrictDependency all o d
  waits_forth o d new waits = (forth o d waits.0, λ r. waits.1 (back d o new r))

  waits_back : (o d : ℕ) → low ≤ d → IsStrictDependency all o d → IsStrictDependency news o d
  waits_back o d new waits = (back o d new waits.0, λ r. waits.1 (forth d o r))

  next_by_all : (new done : List ℕ) (o : ℕ) → ((d : ℕ) → Contains new d → low ≤ d) → InitNext news new done o → InitNext all new done o
  next_by_all new done o from next = record {
    place = next.place;
    stands = next.stands;
    may = record { undone = next.may.undone; ready = λ d inside waits. next.may.ready d inside (waits_back o d (from d inside) waits) };
    first = λ earlier e below at may. next.first earlier e below at
        (record { undone = may.undone; ready = λ d inside waits. may.ready d inside (waits_forth e d (from e (at_in new earlier e at)) waits) });
  }

  order_by_all : (new order : List ℕ) → ((d : ℕ) → Contains new d → low ≤ d) → InitOrder news new order → InitOrder all new order
  order_by_all new order from are_in = record { each = λ k o at. next_by_all new (take k order) o from (are_in.each k o at); all = are_in.all }

-- ---- an opening

of_serials : (serials : List ℕ) (d : ℕ) → Contains (program_last (Some 1) serials) d → Contains serials d
of_serials serials d h = ⊎_elim
    (λ (a : Contains (filter (λ o. not (eqb o 1)) serials) d). (from_filter (λ o. not (eqb o 1)) serials d a).0)
    (λ (b : Contains (filter (λ o. eqb o 1) serials) d). (from_filter (λ o. eqb o 1) serials d b).0)
    (Contains-append_cases (filter (λ o. not (eqb o 1)) serials) (filter (λ o. eqb o 1) serials) d h)

-- what an object found is what its edges lead to
edge_of : (o : Loaded) (e : Edge) → Contains (found_edges o) e → (o.serial ≡ e.source) × Contains o.found e.target
edge_of o e h =
    let at = from_map (λ (d : ℕ). let edge : Edge = record { source = o.serial; target = d } in edge) o.found e h in
    (ap (λ (x : Edge). x.source) at.2, subst (Contains o.found) (ap (λ (x : Edge). x.target) at.2) at.1)

module _ (s : State) (order : SerialsAreInOrder s) (stands : NothingDangles s) (one : 1 ≤ s.next) (added : List Loaded) (fresh : (o : Loaded) → Contains added o → s.next ≤ o.serial) where
  -- an object that was there found none of the new ones
  old_only : (ns : Namespace) (o : Loaded) (d : ℕ) → IsIn s ns o → Contains o.found d → s.next ≤ d → ⊥
  old_only ns o d inside found new = ⊎_elim
      (λ (e : d ≡ 0). omega (arith, e, new, one))
      (λ (h : (p : Loaded) × Contains ns.objects p × (p.serial ≡ d)).
      let below : h.0.serial < s.next = order.below ns h.0 (record { there = inside.there; inside = h.1 }) in
      let is : h.0.serial ≡ d = h.2 in
      omega (arith, below, is, new))
      (stands ns o d inside (LeadsTo.found found))

  abbrev spaces : ℕ → ℕ → OpenAsk → List Namespace
  spaces id root ask = with_namespace id (λ ns. opened ns added root (is_global ask.flags)) s.namespaces

  abbrev objects : ℕ → ℕ → OpenAsk → List Loaded
  objects id root ask = flat_map (λ (ns : Namespace). ns.objects) (spaces id root ask)

  are_new : (hart id root : ℕ) (ask : OpenAsk) (ranges : List Range) → AreNew s.next (flat_map found_edges added) (flat_map found_edges (mapped (step s (Open hart ask (Done id root added ranges)))))
  unfolding loaded
  are_new hart id root ask ranges = record {
    among = λ e h.
        let at = from_flat found_edges added e h in
        let home = (reached_open id added root (is_global ask.flags) s.namespaces).1 at.0 at.1 in
        in_flat found_edges (objects id root ask) at.0 e (in_flat (λ (ns : Namespace). ns.objects) (spaces id root ask) home.0 at.0 home.1 home.2) at.2;
    back = λ e h new.
        let at = from_flat found_edges (objects id root ask) e h in
        let home = from_flat (λ (ns : Namespace). ns.objects) (spaces id root ask) at.0 at.1 in
        let edge = edge_of at.0 e at.2 in
        ⊎_elim
        (λ (old : (ms : Namespace) × Contains s.namespaces ms × Contains ms.objects at.0).
        absurd (old_only old.0 at.0 e.target (record { there = old.1; inside = old.2 }) edge.1 new))
        (λ (is : Contains added at.0).
        (in_flat found_edges added at.0 e is at.2, let from : s.next ≤ at.0.serial = fresh at.0 is in let same : at.0.serial ≡ e.source = edge.0 in omega (arith, from, same)))
        (objects_open id added root (is_global ask.flags) s.namespaces home.0 at.0 home.1 home.2);
  }

pub new_edges_suffice : LoadLaws → (m : Machine) (w : Setting) (past : List Event) (h id root : ℕ) (ask : OpenAsk) (added : List Loaded) (ranges : List Range) (order : List ℕ) → w.machine ≡ m → Lawful m past
    → Allowed w past (Open h ask (Done id root added ranges)) → InitOrder (flat_map found_edges added) (program_last (Some 1) (map serial_of added)) order
    → InitOrder (flat_map found_edges (mapped (after (past ++ Open h ask (Done id root added ranges) ∷ [])))) (program_last (Some 1) (map serial_of added)) order
new_edges_suffice laws m w past h id root ask added ranges order same lawful may is =
    subst (λ (s : State). InitOrder (flat_map found_edges (mapped s)) (program_last (Some 1) (map serial_of added)) order) (sym (after_push past (Open h ask (Done id root added ranges))))
    (order_by_all (after past).next (flat_map found_edges added) (flat_map found_edges (mapped (step (after past) (Open h ask (Done id root added ranges)))))
    (are_new (after past) (serials_in_order laws m past lawful) (dangles laws m past lawful) (good_after laws m past lawful).positive added (λ o inside. (came.fresh o inside).0) h id root ask ranges)
    (program_last (Some 1) (map serial_of added)) order from is)
  where
    came : Arrived (core (after past)) (namespace_before (after past) id) added root
    came = arrived_by laws w (after past) (good_after laws m past lawful) h ask id root added ranges may

    from : (d : ℕ) → Contains (program_last (Some 1) (map serial_of added)) d → (after past).next ≤ d
    from d inside =
        let at = from_map serial_of added d (of_serials (map serial_of added) d inside) in
        let low : (after past).next ≤ at.0.serial = (came.fresh at.0 at.1).0 in
        let is : at.0.serial ≡ d = at.2 in
        omega (arith, low, is)
