-- What is reached in the graph of a closing.
use Rattle.std.proofs.Common.{◌≡◌, ◌≢◌, ⊎_elim, ℕ, ◌-◌, ◌<◌, Bool, true, false, not, eqb, ltb, List, [], ◌∷◌, ◌++◌, map, length, refl, sym, ap, subst, ◌∙◌, arith}
use Rattle.std.specs.Prelude.{if◌then◌else◌}
use Rattle.std.specs.List.{Contains, flat_map}
use Rattle.std.proofs.lemmas.Bool.{and_from, cases_Bool, eq-eqb, eqb-false, eqb-true, lt-ltb, ltb-true, true≢false}
use Rattle.std.proofs.lemmas.List.Elements.{Contains-append_left, Contains-append_right, Contains-append_cases}
use Rattle.close_mark.specs.ClosingGraph.Graphs.{all_edges, is_left}
use Rattle.close_mark.specs.ClosingLaws.Given.{IsGraphOf}
use Rattle.ld_base.specs.declared.linking.Loaded.{Loaded}
use Rattle.history_event.specs.declared.state.Granting.{Granting}
use Rattle.history_graph.specs.declared.graph.Edge.{Edge}
use Rattle.history_state.specs.Links.{bound_edges, chosen_edges, edges, found_edges, held_edges}
use Rattle.history_state.specs.Objects.{mapped, serial_of}
use Rattle.history_state.specs.State.{State}
use Rattle.history_state.specs.Step.{lower, lowered_in, lowered_open}
use Rattle.history_state.specs.Lemmas.HeldEdges.{edges_are}
use Rattle.history_state.specs.Lemmas.Lists.{from_filter, from_flat, in_flat}
use Rattle.scope_rule.specs.Breadth.{breadth, first_kept, levels}
use Rattle.scope_rule.specs.Seen.{Seen}
use Rattle.scope_rule.specs.declared.namespace.Namespace.{Namespace}
use Rattle.scope_rule.specs.declared.namespace.OpenRec.{OpenRec}

-- ---- one opening less changes no objects

pub same_objects : (handle : ℕ) (nss : List Namespace) → flat_map (λ (ns : Namespace). ns.objects) (map (lowered_in handle) nss) ≡ flat_map (λ (ns : Namespace). ns.objects) nss
same_objects handle [] = refl
same_objects handle (ns ∷ nss) = ap (λ (os : List Loaded). ns.objects ++ os) (same_objects handle nss)

pub edges_same : (s : State) (handle : ℕ) → edges (lower handle s) ≡ edges s
unfolding edges lower
edges_same s handle =
    ap (λ (os : List Loaded). flat_map found_edges os ++ flat_map chosen_edges s.chosen ++ flat_map (bound_edges (map serial_of os)) s.grants) (same_objects handle s.namespaces)

-- ---- edges

pub edge_in : (s : State) (held : List Edge) (fixed : List ℕ) (granted : List Granting) (x : Edge) → IsGraphOf s held fixed granted → Contains (all_edges s.namespaces held) x → Contains (edges s) x
edge_in s held fixed granted x graph inside = subst (λ (es : List Edge). Contains es x) (sym (edges_are s)) (⊎_elim
    (λ (front : Contains held x). Contains-append_right (flat_map found_edges (mapped s)) (held_edges s) x (graph.only x front))
    (λ (last : Contains (flat_map (λ (ns : Namespace). flat_map found_edges ns.objects) s.namespaces) x).
    let at = from_flat (λ (ns : Namespace). flat_map found_edges ns.objects) s.namespaces x last in
    let of = from_flat found_edges at.0.objects x at.2 in
    Contains-append_left (flat_map found_edges (mapped s)) (held_edges s) x
    (in_flat found_edges (mapped s) of.0 x (in_flat (λ (ns : Namespace). ns.objects) s.namespaces at.0 of.0 at.1 of.1) of.2))
    (Contains-append_cases held (flat_map (λ (ns : Namespace). flat_map found_edges ns.objects) s.namespaces) x inside))

pub edge_out : (s : State) (held : List Edge) (fixed : List ℕ) (granted : List Granting) (x : Edge) → IsGraphOf s held fixed granted → Contains (edges s) x → Contains (all_edges s.namespaces held) x
edge_out s held fixed granted x graph inside = ⊎_elim
    (λ (front : Contains (flat_map found_edges (mapped s)) x).
    let of = from_flat found_edges (mapped s) x front in
    let at = from_flat (λ (ns : Namespace). ns.objects) s.namespaces of.0 of.1 in
    Contains-append_right held (flat_map (λ (ns : Namespace). flat_map found_edges ns.objects) s.namespaces) x
    (in_flat (λ (ns : Namespace). flat_map found_edges ns.objects) s.namespaces at.0 x at.1 (in_flat found_edges at.0.objects of.0 x at.2 of.2)))
    (λ (last : Contains (held_edges s) x). Contains-append_left held (flat_map (λ (ns : Namespace). flat_map found_edges ns.objects) s.namespaces) x (graph.every x last))
    (Contains-append_cases (flat_map found_edges (mapped s)) (held_edges s) x (subst (λ (es : List Edge). Contains es x) (edges_are s) inside))

-- ---- openings

pub same_root : (handle : ℕ) (r : OpenRec) → (lowered_open handle r).root ≡ r.root
same_root handle r = by (eqb r.root handle)
  where
    by : (b : Bool) → (if b then record r { count = r.count - 1 } else r).root ≡ r.root
    by true = refl
    by false = refl

-- an opening that is left counts
pub left_counts : (handle : ℕ) (r : OpenRec) → ltb (if eqb r.root handle then 1 else 0) r.count ≡ true → eqb (lowered_open handle r).count 0 ≡ false
left_counts handle r more = by (eqb r.root handle) (ltb-true (if eqb r.root handle then 1 else 0) r.count more)
  where
    not_zero : (n : ℕ) → 0 < n → eqb n 0 ≡ false
    not_zero n lt = ⊎_elim
        (λ (is : eqb n 0 ≡ true). absurd (omega (arith, lt, eqb-true n 0 is)))
        (λ (isnt : eqb n 0 ≡ false). isnt)
        (cases_Bool (eqb n 0))

    by : (b : Bool) → (if b then 1 else 0) < r.count → eqb (if b then record r { count = r.count - 1 } else r).count 0 ≡ false
    by true lt = not_zero (r.count - 1) (omega (arith, lt))
    by false lt = not_zero r.count (omega (arith, lt))

-- and one that counts is left, where it isn't of the linker's own object
pub counts_left : (handle : ℕ) (r : OpenRec) → eqb (lowered_open handle r).count 0 ≡ false → r.root ≢ 0 → is_left handle r ≡ true
counts_left handle r counts some = and_from (ltb (if eqb r.root handle then 1 else 0) r.count) (not (eqb r.root 0)) (by (eqb r.root handle) counts) (other (eqb r.root 0) refl)
  where
    other : (b : Bool) → eqb r.root 0 ≡ b → not (eqb r.root 0) ≡ true
    other true e = absurd (some (eqb-true r.root 0 e))
    other false e = ap not e

    by : (b : Bool) → eqb (if b then record r { count = r.count - 1 } else r).count 0 ≡ false → ltb (if b then 1 else 0) r.count ≡ true
    by true c = lt-ltb 1 r.count (omega (arith, eqb-false (r.count - 1) 0 c))
    by false c = lt-ltb 0 r.count (omega (arith, eqb-false r.count 0 c))

-- no search comes to the linker's own object by its number
pub breadth_some : (ns : Seen) (r d : ℕ) → Contains (breadth ns r) d → d ≢ 0
unfolding breadth
breadth_some ns r d inside zero = true≢false (sym (from_filter (λ y. not (eqb y 0)) (first_kept (levels ns r (length ns.objects))) d inside).1 ∙ ap not (eq-eqb d 0 zero))
