-- What is reached in the graph of a closing is what is needed with one opening less, both ways.
use Rattle.std.proofs.Common.{◌≡◌, ◌≢◌, ◌⊎◌, inl, inr, ⊎_elim, ℕ, Bool, true, false, not, eqb, ltb, List, [], ◌∷◌, ◌++◌, map, refl, sym, ap, subst, ◌∙◌, arith}
use Rattle.std.specs.Prelude.{if◌then◌else◌}
use Rattle.std.specs.List.{Contains, filter, flat_map}
use Rattle.std.proofs.lemmas.Bool.{and_parts, eq-eqb, eqb-true, true≢false}
use Rattle.std.proofs.lemmas.List.Elements.{Contains-append_left, Contains-append_right, Contains-append_cases}
use Rattle.close_mark.specs.ClosingGraph.Graphs.{all_edges, all_roots, is_left, left_roots, staying, touched}
use Rattle.close_mark.specs.ClosingLaws.Given.{IsGraphOf}
use Rattle.close_mark.proofs.ClosingLaws.Same.{breadth_some, counts_left, edge_in, edge_out, edges_same, left_counts, same_objects, same_root}
use Rattle.ld_base.specs.declared.linking.Loaded.{Loaded}
use Rattle.history_event.specs.declared.state.Granting.{Granting}
use Rattle.history_graph.specs.Reached.{Reached, Unneeded}
use Rattle.history_graph.specs.declared.graph.Edge.{Edge}
use Rattle.history_state.specs.Grants.{is_open, target_of}
use Rattle.history_state.specs.Links.{IsUnneeded, Needed, found_edges, granted_roots, opened_roots, roots, stays, staying_roots}
use Rattle.history_state.specs.Objects.{startup_serials}
use Rattle.history_state.specs.State.{State}
use Rattle.history_state.specs.Step.{lower, lowered_in, lowered_open}
use Rattle.history_state.specs.Lemmas.Dying.{granted_root, opened_root, pinned_root, startup_root, staying_root}
use Rattle.history_state.specs.Lemmas.Lists.{from_filter, from_flat, from_map, in_filter, in_flat, in_map, none_in, only_in}
use Rattle.history_state.specs.Lemmas.Scopes.{Found, breadth_in, root_in_breadth}
use Rattle.scope_rule.specs.Breadth.{breadth}
use Rattle.scope_rule.specs.Seen.{seen_in}
use Rattle.scope_rule.specs.declared.namespace.Namespace.{Namespace}
use Rattle.scope_rule.specs.declared.namespace.OpenRec.{OpenRec}

-- ---- from the graph to the state

stays_needed : (s : State) (handle : ℕ) (ns : Namespace) (o : Loaded) (d : ℕ) → Contains s.namespaces ns → Contains ns.objects o → Contains (staying_roots o) d → Needed (lower handle s) d
unfolding lower
stays_needed s handle ns o d there inside h = by (stays o) refl h
  where
    by : (b : Bool) → stays o ≡ b → Contains (if b then o.serial ∷ [] else []) d → Needed (lower handle s) d
    by true e k = subst (Needed (lower handle s)) (only_in o.serial d k) (staying_root (lower handle s) (lowered_in handle ns) o (in_map (lowered_in handle) s.namespaces ns there, inside) e)
    by false e k = absurd (none_in d k)

left_needed : (s : State) (handle : ℕ) (ns : Namespace) (d : ℕ) → Contains s.namespaces ns → Contains (left_roots handle ns.opens) d → Needed (lower handle s) d
unfolding lower
left_needed s handle ns d there h =
    let at = from_map (λ (r : OpenRec). r.root) (filter (is_left handle) ns.opens) d h in
    let was = from_filter (is_left handle) ns.opens at.0 at.1 in
    let parts = and_parts (ltb (if eqb at.0.root handle then 1 else 0) at.0.count) (not (eqb at.0.root 0)) was.1 in
    let some : at.0.root ≢ 0 = λ z. true≢false (sym parts.1 ∙ ap not (eq-eqb at.0.root 0 z)) in
    let counted : Contains (lowered_in handle ns).opens (lowered_open handle at.0) =
    in_filter (λ (r : OpenRec). not (eqb r.count 0)) (map (lowered_open handle) ns.opens) (lowered_open handle at.0) (in_map (lowered_open handle) ns.opens at.0 was.0) (ap not (left_counts handle at.0 parts.0)) in
    opened_root (lower handle s) (lowered_in handle ns) (lowered_open handle at.0) d (in_map (lowered_in handle) s.namespaces ns there) counted
    (subst (Contains (breadth (seen_in (lowered_in handle ns)) (lowered_open handle at.0).root)) (same_root handle at.0 ∙ at.2)
    (root_in_breadth (seen_in (lowered_in handle ns)) (lowered_open handle at.0).root (λ z. some (sym (same_root handle at.0) ∙ z))))

root_needed : (s : State) (handle : ℕ) (held : List Edge) (fixed : List ℕ) (granted : List Granting) (d : ℕ) → IsGraphOf s held fixed granted
    → Contains (all_roots s.namespaces handle fixed granted) d → Needed (lower handle s) d
unfolding lower
root_needed s handle held fixed granted d graph inside = ⊎_elim
    (λ (front : Contains (fixed ++ flat_map (λ (ns : Namespace). left_roots handle ns.opens ++ staying ns.objects) s.namespaces) d). ⊎_elim
    (λ (f : Contains fixed d). ⊎_elim
    (λ (a : Contains (startup_serials s) d). startup_root (lower handle s) d a)
    (λ (b : Contains s.pinned d). pinned_root (lower handle s) d b)
    (Contains-append_cases (startup_serials s) s.pinned d (subst (λ (ds : List ℕ). Contains ds d) graph.stay f)))
    (λ (m : Contains (flat_map (λ (ns : Namespace). left_roots handle ns.opens ++ staying ns.objects) s.namespaces) d).
    let at = from_flat (λ (ns : Namespace). left_roots handle ns.opens ++ staying ns.objects) s.namespaces d m in
    ⊎_elim
    (λ (l : Contains (left_roots handle at.0.opens) d). left_needed s handle at.0 d at.1 l)
    (λ (k : Contains (staying at.0.objects) d). let of = from_flat staying_roots at.0.objects d k in stays_needed s handle at.0 of.0 d at.1 of.1 of.2)
    (Contains-append_cases (left_roots handle at.0.opens) (staying at.0.objects) d at.2))
    (Contains-append_cases fixed (flat_map (λ (ns : Namespace). left_roots handle ns.opens ++ staying ns.objects) s.namespaces) d front))
    (λ (last : Contains (flat_map (λ (g : Granting). touched g.owner g.choice) granted) d).
    let at = from_flat (λ (g : Granting). touched g.owner g.choice) granted d last in
    let was = from_filter is_open s.grants at.0 (subst (λ (gs : List Granting). Contains gs at.0) graph.unsettled at.1) in
    granted_root (lower handle s) at.0 d was.0 was.1 at.2)
    (Contains-append_cases (fixed ++ flat_map (λ (ns : Namespace). left_roots handle ns.opens ++ staying ns.objects) s.namespaces) (flat_map (λ (g : Granting). touched g.owner g.choice) granted) d inside)

reached_needed : (s : State) (handle : ℕ) (held : List Edge) (fixed : List ℕ) (granted : List Granting) → IsGraphOf s held fixed granted → (d : ℕ)
    → Reached (all_edges s.namespaces held) (all_roots s.namespaces handle fixed granted) d → Needed (lower handle s) d
reached_needed s handle held fixed granted graph d (Reached.root h) = root_needed s handle held fixed granted d graph h
reached_needed s handle held fixed granted graph d (Reached.on e there r) =
    Reached.on e (subst (λ (es : List Edge). Contains es e) (sym (edges_same s handle)) (edge_in s held fixed granted e graph there)) (reached_needed s handle held fixed granted graph e.source r)

-- ---- from the state to the graph

abbrev In : State → ℕ → List Edge → List ℕ → List Granting → ℕ → Type 0
In s handle held fixed granted d = Reached (all_edges s.namespaces held) (all_roots s.namespaces handle fixed granted) d

by_fixed : (s : State) (handle : ℕ) (held : List Edge) (fixed : List ℕ) (granted : List Granting) (d : ℕ) → Contains fixed d → In s handle held fixed granted d
by_fixed s handle held fixed granted d h = Reached.root
    (Contains-append_left (fixed ++ flat_map (λ (ns : Namespace). left_roots handle ns.opens ++ staying ns.objects) s.namespaces) (flat_map (λ (g : Granting). touched g.owner g.choice) granted) d
    (Contains-append_left fixed (flat_map (λ (ns : Namespace). left_roots handle ns.opens ++ staying ns.objects) s.namespaces) d h))

by_namespace : (s : State) (handle : ℕ) (held : List Edge) (fixed : List ℕ) (granted : List Granting) (ns : Namespace) (d : ℕ) → Contains s.namespaces ns
    → Contains (left_roots handle ns.opens ++ staying ns.objects) d → In s handle held fixed granted d
by_namespace s handle held fixed granted ns d there h = Reached.root
    (Contains-append_left (fixed ++ flat_map (λ (n : Namespace). left_roots handle n.opens ++ staying n.objects) s.namespaces) (flat_map (λ (g : Granting). touched g.owner g.choice) granted) d
    (Contains-append_right fixed (flat_map (λ (n : Namespace). left_roots handle n.opens ++ staying n.objects) s.namespaces) d
    (in_flat (λ (n : Namespace). left_roots handle n.opens ++ staying n.objects) s.namespaces ns d there h)))

by_granted : (s : State) (handle : ℕ) (held : List Edge) (fixed : List ℕ) (granted : List Granting) (g : Granting) (d : ℕ) → Contains granted g → Contains (touched g.owner g.choice) d
    → In s handle held fixed granted d
by_granted s handle held fixed granted g d there h = Reached.root
    (Contains-append_right (fixed ++ flat_map (λ (n : Namespace). left_roots handle n.opens ++ staying n.objects) s.namespaces) (flat_map (λ (x : Granting). touched x.owner x.choice) granted) d
    (in_flat (λ (x : Granting). touched x.owner x.choice) granted g d there h))

-- what the names of an object found is reached, where the object is
found_reached : (s : State) (handle : ℕ) (held : List Edge) (fixed : List ℕ) (granted : List Granting) (ns : Namespace) (o : Loaded) (d : ℕ) → IsGraphOf s held fixed granted → Contains s.namespaces ns
    → Contains ns.objects o → Contains o.found d → In s handle held fixed granted o.serial → In s handle held fixed granted d
found_reached s handle held fixed granted ns o d graph there inside h reached =
    Reached.on (record { source = o.serial; target = d })
    (Contains-append_right held (flat_map (λ (n : Namespace). flat_map found_edges n.objects) s.namespaces) (record { source = o.serial; target = d })
    (in_flat (λ (n : Namespace). flat_map found_edges n.objects) s.namespaces ns (record { source = o.serial; target = d }) there
    (in_flat found_edges ns.objects o (record { source = o.serial; target = d }) inside (in_map (λ x. record { source = o.serial; target = x }) o.found d h)))) reached

opened_reached : (s : State) (handle : ℕ) (held : List Edge) (fixed : List ℕ) (granted : List Granting) (ns : Namespace) (r : OpenRec) (d : ℕ) → IsGraphOf s held fixed granted → Contains s.namespaces ns
    → Contains ns.opens r → eqb (lowered_open handle r).count 0 ≡ false → Contains (breadth (seen_in (lowered_in handle ns)) (lowered_open handle r).root) d → In s handle held fixed granted d
opened_reached s handle held fixed granted ns r d graph there inside counts h =
    let P : ℕ → Type 0 = λ x. (x ≡ 0) ⊎ In s handle held fixed granted x in
    let first : P (lowered_open handle r).root = at (eqb r.root 0) refl in
    let closed : (x y : ℕ) → P x → Found (seen_in (lowered_in handle ns)) x y → P y = λ x y p f. ⊎_elim
    (λ (zero : x ≡ 0). absurd (omega (arith, graph.from ns f.0 there f.1, f.2, zero)))
    (λ (reached : In s handle held fixed granted x). inr (found_reached s handle held fixed granted ns f.0 y graph there f.1 f.3 (subst (In s handle held fixed granted) (sym f.2) reached)))
    p in
    ⊎_elim
    (λ (zero : d ≡ 0). absurd (breadth_some (seen_in (lowered_in handle ns)) (lowered_open handle r).root d h zero))
    (λ (reached : In s handle held fixed granted d). reached)
    (breadth_in (seen_in (lowered_in handle ns)) P (lowered_open handle r).root closed first d h)
  where
    at : (b : Bool) → eqb r.root 0 ≡ b → ((lowered_open handle r).root ≡ 0) ⊎ In s handle held fixed granted (lowered_open handle r).root
    at true e = inl (same_root handle r ∙ eqb-true r.root 0 e)
    at false e = inr (subst (In s handle held fixed granted) (sym (same_root handle r)) (by_namespace s handle held fixed granted ns r.root there
        (Contains-append_left (left_roots handle ns.opens) (staying ns.objects) r.root
        (in_map (λ (x : OpenRec). x.root) (filter (is_left handle) ns.opens) r
        (in_filter (is_left handle) ns.opens r inside (counts_left handle r counts (λ z. true≢false (sym (eq-eqb r.root 0 z) ∙ e))))))))

root_reached : (s : State) (handle : ℕ) (held : List Edge) (fixed : List ℕ) (granted : List Granting) (d : ℕ) → IsGraphOf s held fixed granted → Contains (roots (lower handle s)) d
    → In s handle held fixed granted d
unfolding roots lower
root_reached s handle held fixed granted d graph inside = ⊎_elim
    (λ (front : Contains (startup_serials s ++ flat_map opened_roots (map (lowered_in handle) s.namespaces) ++ s.pinned ++ flat_map staying_roots (flat_map (λ (ns : Namespace). ns.objects) (map (lowered_in handle) s.namespaces))) d). ⊎_elim
    (λ (front : Contains (startup_serials s ++ flat_map opened_roots (map (lowered_in handle) s.namespaces) ++ s.pinned) d). ⊎_elim
    (λ (front : Contains (startup_serials s ++ flat_map opened_roots (map (lowered_in handle) s.namespaces)) d). ⊎_elim
    (λ (a : Contains (startup_serials s) d). by_fixed s handle held fixed granted d (subst (λ (ds : List ℕ). Contains ds d) (sym graph.stay) (Contains-append_left (startup_serials s) s.pinned d a)))
    (λ (b : Contains (flat_map opened_roots (map (lowered_in handle) s.namespaces)) d).
    let at = from_flat opened_roots (map (lowered_in handle) s.namespaces) d b in
    let ns = from_map (lowered_in handle) s.namespaces at.0 at.1 in
    let mine : Contains (opened_roots (lowered_in handle ns.0)) d = subst (λ (n : Namespace). Contains (opened_roots n) d) (sym ns.2) at.2 in
    let of = from_flat (λ (r : OpenRec). breadth (seen_in (lowered_in handle ns.0)) r.root) (lowered_in handle ns.0).opens d mine in
    let was = from_filter (λ (r : OpenRec). not (eqb r.count 0)) (map (lowered_open handle) ns.0.opens) of.0 of.1 in
    let r = from_map (lowered_open handle) ns.0.opens of.0 was.0 in
    opened_reached s handle held fixed granted ns.0 r.0 d graph ns.1 r.1 (counting (eqb (lowered_open handle r.0).count 0) (ap (λ (x : OpenRec). not (eqb x.count 0)) r.2 ∙ was.1))
    (subst (λ (x : OpenRec). Contains (breadth (seen_in (lowered_in handle ns.0)) x.root) d) (sym r.2) of.2))
    (Contains-append_cases (startup_serials s) (flat_map opened_roots (map (lowered_in handle) s.namespaces)) d front))
    (λ (p : Contains s.pinned d). by_fixed s handle held fixed granted d (subst (λ (ds : List ℕ). Contains ds d) (sym graph.stay) (Contains-append_right (startup_serials s) s.pinned d p)))
    (Contains-append_cases (startup_serials s ++ flat_map opened_roots (map (lowered_in handle) s.namespaces)) s.pinned d front))
    (λ (k : Contains (flat_map staying_roots (flat_map (λ (ns : Namespace). ns.objects) (map (lowered_in handle) s.namespaces))) d).
    let of = from_flat staying_roots (flat_map (λ (ns : Namespace). ns.objects) s.namespaces) d (subst (λ (os : List Loaded). Contains (flat_map staying_roots os) d) (same_objects handle s.namespaces) k) in
    let ns = from_flat (λ (n : Namespace). n.objects) s.namespaces of.0 of.1 in
    by_namespace s handle held fixed granted ns.0 d ns.1 (Contains-append_right (left_roots handle ns.0.opens) (staying ns.0.objects) d (in_flat staying_roots ns.0.objects of.0 d ns.2 of.2)))
    (Contains-append_cases (startup_serials s ++ flat_map opened_roots (map (lowered_in handle) s.namespaces) ++ s.pinned) (flat_map staying_roots (flat_map (λ (ns : Namespace). ns.objects) (map (lowered_in handle) s.namespaces))) d front))
    (λ (last : Contains (flat_map granted_roots s.grants) d).
    let at = from_flat granted_roots s.grants d last in
    granting at.0 at.1 (is_open at.0) refl at.2)
    (Contains-append_cases (startup_serials s ++ flat_map opened_roots (map (lowered_in handle) s.namespaces) ++ s.pinned ++ flat_map staying_roots (flat_map (λ (ns : Namespace). ns.objects) (map (lowered_in handle) s.namespaces)))
    (flat_map granted_roots s.grants) d inside)
  where
    counting : (b : Bool) → not b ≡ true → b ≡ false
    counting true e = absurd (true≢false (sym e))
    counting false e = refl

    granting : (g : Granting) → Contains s.grants g → (b : Bool) → is_open g ≡ b → Contains (if b then g.owner ∷ target_of g.choice else []) d → In s handle held fixed granted d
    granting g there true e h = by_granted s handle held fixed granted g d (subst (λ (gs : List Granting). Contains gs g) (sym graph.unsettled) (in_filter is_open s.grants g there e)) h
    granting g there false e h = absurd (none_in d h)

needed_reached : (s : State) (handle : ℕ) (held : List Edge) (fixed : List ℕ) (granted : List Granting) → IsGraphOf s held fixed granted → (d : ℕ) → Needed (lower handle s) d → In s handle held fixed granted d
needed_reached s handle held fixed granted graph d (Reached.root h) = root_reached s handle held fixed granted d graph h
needed_reached s handle held fixed granted graph d (Reached.on e there r) =
    Reached.on e (edge_out s held fixed granted e graph (subst (λ (es : List Edge). Contains es e) (edges_same s handle) there)) (needed_reached s handle held fixed granted graph e.source r)

-- ---- both

pub closes_exactly : (s : State) (handle : ℕ) (held : List Edge) (fixed : List ℕ) (granted : List Granting) (nodes set : List ℕ) → IsGraphOf s held fixed granted
    → Unneeded (all_edges s.namespaces held) (all_roots s.namespaces handle fixed granted) nodes set → IsUnneeded (lower handle s) nodes set
closes_exactly s handle held fixed granted nodes set graph unneeded = record {
  leave = unneeded.leave;
  are = unneeded.are;
  exactly = λ d node. (
    λ leaves needed. (unneeded.exactly d node).0 leaves (needed_reached s handle held fixed granted graph d needed),
    λ none. (unneeded.exactly d node).1 (λ reached. none (reached_needed s handle held fixed granted graph d reached)),
  );
}
