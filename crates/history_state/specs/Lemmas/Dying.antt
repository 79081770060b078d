-- A closing, an unmapping and a constructor keep what leads where.
use Rattle.std.proofs.Common.{◌≡◌, ◌⊎◌, inl, inr, ⊎_elim, ℕ, ◌-◌, Bool, true, false, not, eqb, List, [], ◌∷◌, ◌++◌, map, refl, sym, ap, subst, ◌∙◌}
use Rattle.std.specs.Prelude.{if◌then◌else◌, ◌==◌, ◌&&◌}
use Rattle.std.specs.List.{Contains, flat_map}
use Rattle.std.proofs.lemmas.Bool.{and_from, true≢false}
use Rattle.std.proofs.lemmas.List.Elements.{Contains-append_left, Contains-append_right}
use Rattle.ld_base.specs.declared.linking.Loaded.{Loaded}
use Rattle.ld_base.specs.declared.linking.State.{State as Doing}
use Rattle.ld_base.specs.declared.linking.State.TheVariants as states
use Rattle.history_event.specs.declared.state.Chosen.{Chosen}
use Rattle.history_event.specs.declared.state.Granting.{Granting}
use Rattle.history_event.specs.declared.state.Standing.{Standing}
use Rattle.history_event.specs.declared.state.Standing.TheVariants.{Open, Bound, Lost}
use Rattle.history_graph.specs.declared.graph.Edge.{Edge}
use Rattle.history_graph.specs.Reached.Reached.{root, on}
use Rattle.scope_rule.specs.Breadth.{breadth}
use Rattle.scope_rule.specs.Loading.{is_dying}
use Rattle.scope_rule.specs.Seen.{seen_in}
use Rattle.scope_rule.specs.declared.namespace.Namespace.{Namespace}
use Rattle.scope_rule.specs.declared.namespace.OpenRec.{OpenRec}
use Rattle.history_state.specs.State.{State}
use Rattle.history_state.specs.Objects.{has, mapped, serial_of, startup_serials}
use Rattle.history_state.specs.Grants.{chosen_target, is_bound, is_open, target_of}
use Rattle.history_state.specs.Links.{Needed, bound_edges, chosen_edges, edges, edges_to, found_edges, granted_roots, opened_roots, roots, stays, staying_roots}
use Rattle.history_state.specs.Step.{dying_in, dying_object, lowered_in, lowered_open, ready_in, ready_object, ready_state}
use Rattle.history_state.specs.Lemmas.Lists.{from_filter, from_map, in_flat, in_has, in_map, here}
use Rattle.history_state.specs.Lemmas.Good.{ChoseBy, HeldBy, Inside, Keeps, Leads, is_live}

-- ---- changes of namespaces

pub lowered_root : (handle : ℕ) (r : OpenRec) → (lowered_open handle r).root ≡ r.root
lowered_root handle r = by (eqb r.root handle)
  where
    by : (b : Bool) → (if b then record r { count = r.count - 1 } else r).root ≡ r.root
    by true = refl
    by false = refl

pub keeps_lowered : (handle : ℕ) → Keeps (lowered_in handle)
keeps_lowered handle = record {
  id = λ ns. refl;
  back = λ ns o h. (o, h, refl, refl, λ e. e);
  forth = λ ns q h. (q, h, refl);
  global = λ ns d h. h;
  opens = λ ns r h.
      let kept = from_filter (λ (q : OpenRec). not (q.count == 0)) (map (lowered_open handle) ns.opens) r h in
      let at = from_map (lowered_open handle) ns.opens r kept.0 in
      (at.0, at.1, sym (lowered_root handle at.0) ∙ ap (λ (q : OpenRec). q.root) at.2);
}

-- an object that a change leaves its serial and what it found, and that is dying still
pub record Alike (q o : Loaded) : Type 0 where
  pub serial : o.serial ≡ q.serial
  pub found : o.found ≡ q.found
  pub dying : is_dying q ≡ true → is_dying o ≡ true

keeps_each : (change : Loaded → Loaded) → ((q : Loaded) → Alike q (change q)) → (ns : Namespace) (o : Loaded) → Contains (map change ns.objects) o
    → (q : Loaded) × Contains ns.objects q × (q.serial ≡ o.serial) × (q.found ≡ o.found) × (is_dying q ≡ true → is_dying o ≡ true)
keeps_each change alike ns o h =
    let at = from_map change ns.objects o h in
    let same : Alike at.0 o = subst (Alike at.0) at.2 (alike at.0) in
    (at.0, at.1, sym same.serial, sym same.found, same.dying)

dying_by : (hart : ℕ) (q : Loaded) (b : Bool) → Alike q (if b then record q { state = states.Dying hart } else q)
dying_by hart q true = record { serial = refl; found = refl; dying = λ e. refl }
dying_by hart q false = record { serial = refl; found = refl; dying = λ e. e }

pub keeps_dying : (hart : ℕ) (set : List ℕ) → Keeps (dying_in hart set)
keeps_dying hart set = record {
  id = λ ns. refl;
  back = keeps_each (dying_object hart set) alike;
  forth = λ ns q h. (dying_object hart set q, in_map (dying_object hart set) ns.objects q h, (alike q).serial);
  global = λ ns d h. (from_filter (λ x. not (has set x)) ns.global d h).0;
  opens = λ ns r h. (r, h, refl);
}
  where
    alike : (q : Loaded) → Alike q (dying_object hart set q)
    alike q = dying_by hart q (has set q.serial)

ready_by : (q : Loaded) (doing : Doing) → q.state ≡ doing → Alike q (elim doing [ states.Initialising hart ↦ record q { state = states.Ready } | other ↦ q ])
ready_by q (states.Initialising hart) e = record {
  serial = refl;
  found = refl;
  dying = λ h. absurd (true≢false (sym h ∙ ap (λ (d : Doing). elim d [ states.Dying k ↦ true | _ ↦ false ]) e));
}
ready_by q states.Ready e = record { serial = refl; found = refl; dying = λ h. h }
ready_by q (states.Dying hart) e = record { serial = refl; found = refl; dying = λ h. h }

ready_if : (q : Loaded) (b : Bool) → Alike q (if b then ready_state q else q)
ready_if q true = ready_by q q.state refl
ready_if q false = record { serial = refl; found = refl; dying = λ e. e }

pub keeps_ready : (serial : ℕ) → Keeps (ready_in serial)
keeps_ready serial = record {
  id = λ ns. refl;
  back = keeps_each (ready_object serial) alike;
  forth = λ ns q h. (ready_object serial q, in_map (ready_object serial) ns.objects q h, (alike q).serial);
  global = λ ns d h. h;
  opens = λ ns r h. (r, h, refl);
}
  where
    alike : (q : Loaded) → Alike q (ready_object serial q)
    alike q = ready_if q (eqb q.serial serial)

-- ---- what is needed

unfold_edges : (s : State) (e : Edge) → Contains (flat_map found_edges (mapped s) ++ flat_map chosen_edges s.chosen ++ flat_map (bound_edges (map serial_of (mapped s))) s.grants) e → Contains (edges s) e
unfolding edges
unfold_edges s e h = h

unfold_roots : (s : State) (d : ℕ) → Contains (startup_serials s ++ flat_map opened_roots s.namespaces ++ s.pinned ++ flat_map staying_roots (mapped s) ++ flat_map granted_roots s.grants) d → Contains (roots s) d
unfolding roots
unfold_roots s d h = h

in_edges_to : (from : ℕ) (ds : List ℕ) (d : ℕ) → Contains ds d → Contains (edges_to from ds) (record { source = from; target = d })
in_edges_to from ds d h = in_map (λ x. record { source = from; target = x }) ds d h

-- an edge from what is needed
needed_by_edge : (s : State) (from d : ℕ) → Needed s from → Contains (edges s) (record { source = from; target = d }) → Needed s d
needed_by_edge s from d needed there = on (record { source = from; target = d }) there needed

found_edge : (s : State) (ns : Namespace) (o : Loaded) (d : ℕ) → Inside s.namespaces ns o → Contains o.found d → Contains (edges s) (record { source = o.serial; target = d })
found_edge s ns o d inside h =
    unfold_edges s _
    (Contains-append_left (flat_map found_edges (mapped s) ++ flat_map chosen_edges s.chosen) (flat_map (bound_edges (map serial_of (mapped s))) s.grants) _
    (Contains-append_left (flat_map found_edges (mapped s)) (flat_map chosen_edges s.chosen) _
    (in_flat found_edges (mapped s) o _ (in_flat (λ (n : Namespace). n.objects) s.namespaces ns o inside.0 inside.1) (in_edges_to o.serial o.found d h))))

chosen_edge : (s : State) (c : Chosen) (d : ℕ) → Contains s.chosen c → Contains (flat_map chosen_target c.choices) d → Contains (edges s) (record { source = c.owner; target = d })
chosen_edge s c d there h =
    unfold_edges s _
    (Contains-append_left (flat_map found_edges (mapped s) ++ flat_map chosen_edges s.chosen) (flat_map (bound_edges (map serial_of (mapped s))) s.grants) _
    (Contains-append_right (flat_map found_edges (mapped s)) (flat_map chosen_edges s.chosen) _
    (in_flat chosen_edges s.chosen c _ there (in_edges_to c.owner (flat_map chosen_target c.choices) d h))))

in_bound_edges : (g : Granting) (d : ℕ) (b : Bool) → b ≡ true → Contains (target_of g.choice) d → Contains (if b then edges_to g.owner (target_of g.choice) else []) (record { source = g.owner; target = d })
in_bound_edges g d true e h = in_edges_to g.owner (target_of g.choice) d h
in_bound_edges g d false e h = absurd (true≢false (sym e))

bound_edge : (s : State) (g : Granting) (d : ℕ) → Contains s.grants g → is_bound g ≡ true → Contains (map serial_of (mapped s)) g.owner → Contains (target_of g.choice) d → Contains (edges s) (record { source = g.owner; target = d })
bound_edge s g d there bound owner h =
    unfold_edges s _
    (Contains-append_right (flat_map found_edges (mapped s) ++ flat_map chosen_edges s.chosen) (flat_map (bound_edges (map serial_of (mapped s))) s.grants) _
    (in_flat (bound_edges (map serial_of (mapped s))) s.grants g _ there
    (in_bound_edges g d (is_bound g && has (map serial_of (mapped s)) g.owner) (and_from (is_bound g) (has (map serial_of (mapped s)) g.owner) bound (in_has (map serial_of (mapped s)) g.owner owner)) h)))

in_granted_roots : (g : Granting) (d : ℕ) (b : Bool) → b ≡ true → Contains (g.owner ∷ target_of g.choice) d → Contains (if b then g.owner ∷ target_of g.choice else []) d
in_granted_roots g d true e h = h
in_granted_roots g d false e h = absurd (true≢false (sym e))

pub granted_root : (s : State) (g : Granting) (d : ℕ) → Contains s.grants g → is_open g ≡ true → Contains (g.owner ∷ target_of g.choice) d → Needed s d
granted_root s g d there opened h = root (unfold_roots s d
    (Contains-append_right (startup_serials s ++ flat_map opened_roots s.namespaces ++ s.pinned ++ flat_map staying_roots (mapped s)) (flat_map granted_roots s.grants) d
    (in_flat granted_roots s.grants g d there (in_granted_roots g d (is_open g) opened h))))

pub opened_root : (s : State) (ns : Namespace) (r : OpenRec) (d : ℕ) → Contains s.namespaces ns → Contains ns.opens r → Contains (breadth (seen_in ns) r.root) d → Needed s d
opened_root s ns r d there inside h = root (unfold_roots s d
    (Contains-append_left (startup_serials s ++ flat_map opened_roots s.namespaces ++ s.pinned ++ flat_map staying_roots (mapped s)) (flat_map granted_roots s.grants) d
    (Contains-append_left (startup_serials s ++ flat_map opened_roots s.namespaces ++ s.pinned) (flat_map staying_roots (mapped s)) d
    (Contains-append_left (startup_serials s ++ flat_map opened_roots s.namespaces) s.pinned d
    (Contains-append_right (startup_serials s) (flat_map opened_roots s.namespaces) d
    (in_flat opened_roots s.namespaces ns d there (in_flat (λ (q : OpenRec). breadth (seen_in ns) q.root) ns.opens r d inside h)))))))

pub startup_root : (s : State) (d : ℕ) → Contains (startup_serials s) d → Needed s d
startup_root s d h = root (unfold_roots s d
    (Contains-append_left (startup_serials s ++ flat_map opened_roots s.namespaces ++ s.pinned ++ flat_map staying_roots (mapped s)) (flat_map granted_roots s.grants) d
    (Contains-append_left (startup_serials s ++ flat_map opened_roots s.namespaces ++ s.pinned) (flat_map staying_roots (mapped s)) d
    (Contains-append_left (startup_serials s ++ flat_map opened_roots s.namespaces) s.pinned d
    (Contains-append_left (startup_serials s) (flat_map opened_roots s.namespaces) d h)))))

pub pinned_root : (s : State) (d : ℕ) → Contains s.pinned d → Needed s d
pinned_root s d h = root (unfold_roots s d
    (Contains-append_left (startup_serials s ++ flat_map opened_roots s.namespaces ++ s.pinned ++ flat_map staying_roots (mapped s)) (flat_map granted_roots s.grants) d
    (Contains-append_left (startup_serials s ++ flat_map opened_roots s.namespaces ++ s.pinned) (flat_map staying_roots (mapped s)) d
    (Contains-append_right (startup_serials s ++ flat_map opened_roots s.namespaces) s.pinned d h))))

in_staying : (o : Loaded) (t : Bool) → t ≡ true → Contains (if t then o.serial ∷ [] else []) o.serial
in_staying o true e = here o.serial []
in_staying o false e = absurd (true≢false (sym e))

pub staying_root : (s : State) (ns : Namespace) (o : Loaded) → Inside s.namespaces ns o → stays o ≡ true → Needed s o.serial
staying_root s ns o inside e = root (unfold_roots s o.serial
    (Contains-append_left (startup_serials s ++ flat_map opened_roots s.namespaces ++ s.pinned ++ flat_map staying_roots (mapped s)) (flat_map granted_roots s.grants) o.serial
    (Contains-append_right (startup_serials s ++ flat_map opened_roots s.namespaces ++ s.pinned) (flat_map staying_roots (mapped s)) o.serial
    (in_flat staying_roots (mapped s) o o.serial (in_flat (λ (n : Namespace). n.objects) s.namespaces ns o inside.0 inside.1) (in_staying o (stays o) e)))))

-- a live grant is open or bound
open_or_bound : (st : Standing) → is_live st ≡ true → (st ≡ Open) ⊎ (st ≡ Bound)
open_or_bound Open e = inl refl
open_or_bound Bound e = inr refl
open_or_bound (Lost saw) e = absurd (true≢false (sym e))

-- what a needed object leads to is needed
pub needed_on : (s : State) (ns : Namespace) (o : Loaded) (d : ℕ) → Inside s.namespaces ns o → Leads s.grants s.chosen o d → Needed s o.serial → Needed s d
needed_on s ns o d inside leads needed = ⊎_elim
    (λ (h : Contains o.found d). needed_by_edge s o.serial d needed (found_edge s ns o d inside h))
    (λ (h : ChoseBy s.chosen o.serial d ⊎ HeldBy s.grants o.serial d). ⊎_elim
    (λ (i : ChoseBy s.chosen o.serial d). needed_by_edge s i.0.owner d (subst (Needed s) (sym i.2) needed) (chosen_edge s i.0 d i.1 i.3))
    (λ (i : HeldBy s.grants o.serial d). ⊎_elim
    (λ (e : i.0.standing ≡ Open). granted_root s i.0 d i.1 (ap (λ (st : Standing). elim st [ Open ↦ true | Bound ↦ false | Lost saw ↦ false ]) e) (Contains-append_right (i.0.owner ∷ []) (target_of i.0.choice) d i.4))
    (λ (e : i.0.standing ≡ Bound). needed_by_edge s i.0.owner d (subst (Needed s) (sym i.2) needed)
    (bound_edge s i.0 d i.1 (ap (λ (st : Standing). elim st [ Open ↦ false | Bound ↦ true | Lost saw ↦ false ]) e)
    (subst (Contains (map serial_of (mapped s))) (sym i.2) (in_map serial_of (mapped s) o (in_flat (λ (n : Namespace). n.objects) s.namespaces ns o inside.0 inside.1))) i.4))
    (open_or_bound i.0.standing i.3))
    h)
    leads
