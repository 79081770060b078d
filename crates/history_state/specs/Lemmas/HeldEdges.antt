-- How the edges change that relocations and bound slots are.
use Rattle.std.proofs.Common.{◌≡◌, ◌⊎◌, inl, inr, ⊎_elim, ℕ, ◌<◌, ◌≤◌, ◌&&◌, Bool, true, false, not, eqb, List, [], ◌++◌, append_assoc, map, refl, sym, ap, subst, ◌∙◌, arith}
use Rattle.std.specs.Prelude.{if◌then◌else◌}
use Rattle.std.specs.List.{Contains, filter, flat_map}
use Rattle.std.proofs.lemmas.Bool.{and_from, and_parts, not-true, true≢false}
use Rattle.std.proofs.lemmas.List.Elements.{Contains-append_cases, Contains-append_left, Contains-append_right, Contains-push_cases}
use Rattle.ld_base.specs.declared.linking.Choice.{Choice}
use Rattle.ld_base.specs.declared.linking.Loaded.{Loaded}
use Rattle.history_event.specs.declared.event.CloseAnswer.TheVariants as closes
use Rattle.history_event.specs.declared.event.Event.{Event}
use Rattle.history_event.specs.declared.event.Event.TheVariants as events
use Rattle.history_event.specs.declared.event.OpenAnswer.TheVariants as opens
use Rattle.history_event.specs.declared.event.OpenAsk.{OpenAsk}
use Rattle.history_event.specs.declared.event.Range.{Range}
use Rattle.history_event.specs.declared.event.SymAnswer.TheVariants as syms
use Rattle.history_event.specs.declared.state.Chosen.{Chosen}
use Rattle.history_event.specs.declared.state.Granting.{Granting}
use Rattle.history_event.specs.declared.state.Standing.{Standing}
use Rattle.history_event.specs.declared.state.Standing.TheVariants as standings
use Rattle.history_graph.specs.declared.graph.Edge.{Edge}
use Rattle.scope_rule.specs.Opening.{opened}
use Rattle.scope_rule.specs.declared.namespace.Namespace.{Namespace}
use Rattle.history_state.specs.State.{State}
use Rattle.history_state.specs.After.{after}
use Rattle.history_state.specs.Allowed.{AllowedIn}
use Rattle.history_state.specs.Bound.{chosen_of}
use Rattle.history_state.specs.Flags.{is_global}
use Rattle.history_state.specs.Grants.{is_bound, is_bound_standing, is_open, is_open_standing, target_of}
use Rattle.history_state.specs.Held.{EdgesFollow, bound_gains, gained, loses}
use Rattle.history_state.specs.Legal.{Lawful}
use Rattle.history_state.specs.Links.{bound_edges, chosen_edges, edges, edges_to, found_edges, held_edges}
use Rattle.history_state.specs.Objects.{has, mapped, serial_of}
use Rattle.history_state.specs.Opening.{Opens}
use Rattle.history_state.specs.Setting.{Machine, Setting}
use Rattle.history_state.specs.Step.{binds, die, dying_in, gone_in, initialise, is_left, loaded, lower, lowered_in, namespace_before, ready_in, seen_after, settled_as, step, unmap, with_namespace}
use Rattle.history_state.specs.Lemmas.Arrived.{Arrived}
use Rattle.history_state.specs.Lemmas.Brought.{LoadLaws, arrived_by}
use Rattle.history_state.specs.Lemmas.Closed.{each_left, stayed}
use Rattle.history_state.specs.Lemmas.Dangling.{Mapped, held, mapped_by, mapped_open, mapped_unmap}
use Rattle.history_state.specs.Lemmas.Dying.{keeps_dying, keeps_lowered, keeps_ready}
use Rattle.history_state.specs.Lemmas.Good.{Keeps, core, each_mapped}
use Rattle.history_state.specs.Lemmas.Imaged.{objects_open}
use Rattle.history_state.specs.Lemmas.Lists.{from_filter, from_flat, from_map, has_in, has_not, in_filter, in_flat, in_has, in_map, none_in}
use Rattle.history_state.specs.Lemmas.Steps.{good_after}

-- ---- serials of mapped objects

serials_in : (all : List Namespace) (d : ℕ) → has (map serial_of (flat_map (λ ns. ns.objects) all)) d ≡ true → Mapped all d
serials_in all d e =
    let at = from_map serial_of (flat_map (λ (ns : Namespace). ns.objects) all) d (has_in _ d e) in
    let home = from_flat (λ (ns : Namespace). ns.objects) all at.0 at.1 in
    (home.0, home.1, (at.0, home.2, at.2))

in_serials : (all : List Namespace) (d : ℕ) → Mapped all d → has (map serial_of (flat_map (λ ns. ns.objects) all)) d ≡ true
in_serials all d m =
    in_has _ d (subst (Contains (map serial_of (flat_map (λ ns. ns.objects) all))) m.2.2 (in_map serial_of (flat_map (λ (ns : Namespace). ns.objects) all) m.2.0 (in_flat (λ (ns : Namespace). ns.objects) all m.0 m.2.0 m.1 m.2.1)))

mapped_back : (change : Namespace → Namespace) → Keeps change → (all : List Namespace) (d : ℕ) → Mapped (map change all) d → Mapped all d
mapped_back change keeps all d m = each_mapped change all (λ n. Contains n.objects m.2.0 → Mapped all d)
    (λ ns there h. let q = keeps.back ns m.2.0 h in (ns, there, (q.0, q.1, q.2 ∙ m.2.2))) m.0 m.1 m.2.1

-- ---- an edge of a bound grant

-- a bound grant of a mapped object has the edge
record ByBound (all : List Namespace) (grants : List Granting) (x : Edge) : Type 0 where
  grant : Granting
  there : Contains grants grant
  bound : is_bound grant ≡ true
  owner : Mapped all grant.owner
  edge : Contains (edges_to grant.owner (target_of grant.choice)) x

abbrev serials_of : List Namespace → List ℕ
serials_of all = map serial_of (flat_map (λ ns. ns.objects) all)

by_bound : (all : List Namespace) (grants : List Granting) (x : Edge) → Contains (flat_map (bound_edges (serials_of all)) grants) x → ByBound all grants x
by_bound all grants x h =
    let at = from_flat (bound_edges (serials_of all)) grants x h in
    by at.0 at.1 (is_bound at.0) refl (has (serials_of all) at.0.owner) refl at.2
  where
    by : (g : Granting) → Contains grants g → (b : Bool) → is_bound g ≡ b → (o : Bool) → has (serials_of all) g.owner ≡ o → Contains (if b && o then edges_to g.owner (target_of g.choice) else []) x → ByBound all grants x
    by g there true bound true owner e = record { grant = g; there = there; bound = bound; owner = serials_in all g.owner owner; edge = e }
    by g there true bound false owner e = absurd (none_in x e)
    by g there false bound o owner e = absurd (none_in x e)

bound_by : (all : List Namespace) (grants : List Granting) (x : Edge) → ByBound all grants x → Contains (flat_map (bound_edges (serials_of all)) grants) x
bound_by all grants x b =
    in_flat (bound_edges (serials_of all)) grants b.grant x b.there
    (subst (λ (t : Bool). Contains (if t then edges_to b.grant.owner (target_of b.grant.choice) else []) x) (sym (and_from (is_bound b.grant) (has (serials_of all) b.grant.owner) b.bound (in_serials all b.grant.owner b.owner))) b.edge)

-- the edge begins at its owner
source_is : (source : ℕ) (targets : List ℕ) (x : Edge) → Contains (edges_to source targets) x → x.source ≡ source
source_is source targets x h = let at = from_map (λ (d : ℕ). let e : Edge = record { source = source; target = d } in e) targets x h in sym (ap (λ (e : Edge). e.source) at.2)

-- ---- both kinds

abbrev Split : State → Edge → Type 0
Split s x = Contains (flat_map chosen_edges s.chosen) x ⊎ ByBound s.namespaces s.grants x

split : (s : State) (x : Edge) → Contains (held_edges s) x → Split s x
split s x h = ⊎_elim
    (λ (a : Contains (flat_map chosen_edges s.chosen) x). inl a)
    (λ (b : Contains (flat_map (bound_edges (map serial_of (mapped s))) s.grants) x). inr (by_bound s.namespaces s.grants x b))
    (Contains-append_cases (flat_map chosen_edges s.chosen) (flat_map (bound_edges (map serial_of (mapped s))) s.grants) x h)

joined : (s : State) (x : Edge) → Split s x → Contains (held_edges s) x
joined s x (inl a) = Contains-append_left (flat_map chosen_edges s.chosen) (flat_map (bound_edges (map serial_of (mapped s))) s.grants) x a
joined s x (inr b) = Contains-append_right (flat_map chosen_edges s.chosen) (flat_map (bound_edges (map serial_of (mapped s))) s.grants) x (bound_by s.namespaces s.grants x b)

-- states in which relocations chose the same, the same grants are bound, and the same objects are mapped
record SameHeld (s t : State) : Type 0 where
  chosen : t.chosen ≡ s.chosen
  forth : (g : Granting) → Contains s.grants g → is_bound g ≡ true → Contains t.grants g
  back : (g : Granting) → Contains t.grants g → is_bound g ≡ true → Contains s.grants g
  there : (d : ℕ) → Mapped s.namespaces d → Mapped t.namespaces d
  was : (d : ℕ) → Mapped t.namespaces d → Mapped s.namespaces d

same_forth : (s t : State) → SameHeld s t → (x : Edge) → Contains (held_edges s) x → Contains (held_edges t) x
same_forth s t same x h = joined t x (⊎_elim
    (λ (a : Contains (flat_map chosen_edges s.chosen) x). inl (subst (λ (cs : List Chosen). Contains (flat_map chosen_edges cs) x) (sym same.chosen) a))
    (λ (b : ByBound s.namespaces s.grants x). inr (record { grant = b.grant; there = same.forth b.grant b.there b.bound; bound = b.bound; owner = same.there b.grant.owner b.owner; edge = b.edge }))
    (split s x h))

same_back : (s t : State) → SameHeld s t → (x : Edge) → Contains (held_edges t) x → Contains (held_edges s) x
same_back s t same x h = joined s x (⊎_elim
    (λ (a : Contains (flat_map chosen_edges t.chosen) x). inl (subst (λ (cs : List Chosen). Contains (flat_map chosen_edges cs) x) same.chosen a))
    (λ (b : ByBound t.namespaces t.grants x). inr (record { grant = b.grant; there = same.back b.grant b.there b.bound; bound = b.bound; owner = same.was b.grant.owner b.owner; edge = b.edge }))
    (split t x h))

nothing_changes : (s : State) (e : Event) → gained s e ≡ [] → ((x : Edge) → loses e x ≡ false) → SameHeld s (step s e) → EdgesFollow s e
nothing_changes s e none keeps same = record {
  from = λ x h. inr (same_back s (step s e) same x h, keeps x);
  gains = λ x h. absurd (none_in x (subst (λ (xs : List Edge). Contains xs x) none h));
  keeps = λ x h out. same_forth s (step s e) same x h;
}

alike : (s t : State) → t.chosen ≡ s.chosen → t.grants ≡ s.grants → t.namespaces ≡ s.namespaces → SameHeld s t
alike s t chosen grants namespaces = record {
  chosen = chosen;
  forth = λ g h b. subst (λ (gs : List Granting). Contains gs g) (sym grants) h;
  back = λ g h b. subst (λ (gs : List Granting). Contains gs g) grants h;
  there = λ d m. subst (λ (all : List Namespace). Mapped all d) (sym namespaces) m;
  was = λ d m. subst (λ (all : List Namespace). Mapped all d) namespaces m;
}

-- ---- grants

bound_not_open : (standing : Standing) → is_bound_standing standing ≡ true → is_open_standing standing ≡ false
bound_not_open standings.Open e = absurd (true≢false (sym e))
bound_not_open standings.Bound e = refl
bound_not_open (standings.Lost saw) e = absurd (true≢false (sym e))

-- a bound grant isn't settled again
still_bound : (number : ℕ) (standing : Standing) (g : Granting) → is_bound g ≡ true → settled_as number standing g ≡ g
still_bound number standing g bound = by (eqb g.number number) (is_open g) (bound_not_open g.standing bound)
  where
    by : (a b : Bool) → b ≡ false → (if a && b then record g { standing = standing } else g) ≡ g
    by true true e = absurd (true≢false e)
    by true false e = refl
    by false b e = refl

settled_cases : (number : ℕ) (standing : Standing) (g q : Granting) → settled_as number standing g ≡ q → (g ≡ q) ⊎ (((eqb g.number number && is_open g) ≡ true) × (record g { standing = standing } ≡ q))
settled_cases number standing g q e = by (eqb g.number number && is_open g) refl e
  where
    by : (t : Bool) → (eqb g.number number && is_open g) ≡ t → (if t then record g { standing = standing } else g) ≡ q → (g ≡ q) ⊎ (((eqb g.number number && is_open g) ≡ true) × (record g { standing = standing } ≡ q))
    by true is e = inr (is, e)
    by false is e = inl e

lost_same : (s : State) (number saw : ℕ) → SameHeld s (step s (events.Lost number saw))
lost_same s number saw = record {
  chosen = refl;
  forth = λ g h b. subst (Contains (map (settled_as number (standings.Lost saw)) s.grants)) (still_bound number (standings.Lost saw) g b) (in_map (settled_as number (standings.Lost saw)) s.grants g h);
  back = λ g h b.
      let at = from_map (settled_as number (standings.Lost saw)) s.grants g h in
      ⊎_elim
      (λ (same : at.0 ≡ g). subst (Contains s.grants) same at.1)
      (λ (lost : ((eqb at.0.number number && is_open at.0) ≡ true) × (record at.0 { standing = standings.Lost saw } ≡ g)).
      absurd (true≢false (sym b ∙ ap (λ (q : Granting). is_bound q) (sym lost.1))))
      (settled_cases number (standings.Lost saw) at.0 g at.2);
  there = λ d m. m;
  was = λ d m. m;
}

granted_same : (s : State) (number hart owner slot : ℕ) (choice : Choice) (value : ℕ) → SameHeld s (step s (events.Grant number hart owner slot choice value))
granted_same s number hart owner slot choice value = record {
  chosen = refl;
  forth = λ g h b. Contains-append_left s.grants _ g h;
  back = λ g h b. ⊎_elim
      (λ (i : Contains s.grants g). i)
      (λ (e : record { number = number; hart = hart; owner = owner; slot = slot; choice = choice; value = value; standing = standings.Open } ≡ g). absurd (true≢false (sym b ∙ ap (λ (q : Granting). is_bound q) (sym e))))
      (Contains-push_cases s.grants _ g h);
  there = λ d m. m;
  was = λ d m. m;
}

bound_follow : (s : State) (number : ℕ) → ((g : Granting) → Contains s.grants g → g.standing ≡ standings.Open → Mapped s.namespaces g.owner) → EdgesFollow s (events.Bound number)
bound_follow s number held = record {
  from = λ x h. ⊎_elim
      (λ (a : Contains (flat_map chosen_edges s.chosen) x). inr (joined s x (inl a), refl))
      (λ (b : ByBound s.namespaces (map (settled_as number standings.Bound) s.grants) x).
      let at = from_map (settled_as number standings.Bound) s.grants b.grant b.there in
      ⊎_elim
      (λ (same : at.0 ≡ b.grant). inr (joined s x (inr (record { grant = b.grant; there = subst (Contains s.grants) same at.1; bound = b.bound; owner = b.owner; edge = b.edge })), refl))
      (λ (now : ((eqb at.0.number number && is_open at.0) ≡ true) × (record at.0 { standing = standings.Bound } ≡ b.grant)).
      inl (in_flat (bound_gains number) s.grants at.0 x at.1
      (subst (λ (t : Bool). Contains (if t then edges_to at.0.owner (target_of at.0.choice) else []) x) (sym now.0)
      (subst (λ (q : Granting). Contains (edges_to q.owner (target_of q.choice)) x) (sym now.1) b.edge))))
      (settled_cases number standings.Bound at.0 b.grant at.2))
      (split (step s (events.Bound number)) x h);
  gains = λ x h.
      let at = from_flat (bound_gains number) s.grants x h in
      gain at.0 at.1 x (eqb at.0.number number && is_open at.0) refl at.2;
  keeps = λ x h out. ⊎_elim
      (λ (a : Contains (flat_map chosen_edges s.chosen) x). joined (step s (events.Bound number)) x (inl a))
      (λ (b : ByBound s.namespaces s.grants x). joined (step s (events.Bound number)) x (inr (record {
        grant = b.grant;
        there = subst (Contains (map (settled_as number standings.Bound) s.grants)) (still_bound number standings.Bound b.grant b.bound) (in_map (settled_as number standings.Bound) s.grants b.grant b.there);
        bound = b.bound;
        owner = b.owner;
        edge = b.edge;
      })))
      (split s x h);
}
  where
    open_is : (standing : Standing) → is_open_standing standing ≡ true → standing ≡ standings.Open
    open_is standings.Open e = refl
    open_is standings.Bound e = absurd (true≢false (sym e))
    open_is (standings.Lost saw) e = absurd (true≢false (sym e))

    gain : (g : Granting) → Contains s.grants g → (x : Edge) → (t : Bool) → (eqb g.number number && is_open g) ≡ t → Contains (if t then edges_to g.owner (target_of g.choice) else []) x
        → Contains (held_edges (step s (events.Bound number))) x
    gain g there x true is e =
        let now : settled_as number standings.Bound g ≡ record g { standing = standings.Bound } = ap (λ (t : Bool). if t then record g { standing = standings.Bound } else g) is in
        joined (step s (events.Bound number)) x (inr (record {
          grant = record g { standing = standings.Bound };
          there = subst (Contains (map (settled_as number standings.Bound) s.grants)) now (in_map (settled_as number standings.Bound) s.grants g there);
          bound = refl;
          owner = held g there (open_is g.standing (and_parts (eqb g.number number) (is_open g) is).1);
          edge = e;
        }))
    gain g there x false is e = absurd (none_in x e)

-- ---- an unmapping

unmap_follow : (s : State) (hart : ℕ) (set : List ℕ) → EdgesFollow s (events.Unmapped hart set)
unfolding unmap
unmap_follow s hart set = record {
  from = λ x h. inr (⊎_elim
      (λ (a : Contains (flat_map chosen_edges (filter (λ c. not (has set c.owner)) s.chosen)) x).
      let at = from_flat chosen_edges (filter (λ c. not (has set c.owner)) s.chosen) x a in
      let kept = from_filter (λ (c : Chosen). not (has set c.owner)) s.chosen at.0 at.1 in
      (joined s x (inl (in_flat chosen_edges s.chosen at.0 x kept.0 at.2)), ap (has set) (source_is at.0.owner _ x at.2) ∙ not-true (has set at.0.owner) kept.1))
      (λ (b : ByBound (filter is_left (map (gone_in set) s.namespaces)) s.grants x).
      let was = unmapped_was b.grant.owner b.owner in
      (joined s x (inr (record { grant = b.grant; there = b.there; bound = b.bound; owner = was.0; edge = b.edge })), ap (has set) (source_is b.grant.owner _ x b.edge) ∙ out_of b.grant.owner was.1 (has set b.grant.owner) refl))
      (split (unmap hart set s) x h));
  gains = λ x h. absurd (none_in x h);
  keeps = λ x h out. joined (unmap hart set s) x (⊎_elim
      (λ (a : Contains (flat_map chosen_edges s.chosen) x).
      let at = from_flat chosen_edges s.chosen x a in
      let stays : has set at.0.owner ≡ false = sym (ap (has set) (source_is at.0.owner _ x at.2)) ∙ out in
      inl (in_flat chosen_edges (filter (λ c. not (has set c.owner)) s.chosen) at.0 x (in_filter (λ c. not (has set c.owner)) s.chosen at.0 at.1 (ap not stays)) at.2))
      (λ (b : ByBound s.namespaces s.grants x).
      let stays : has set b.grant.owner ≡ false = sym (ap (has set) (source_is b.grant.owner _ x b.edge)) ∙ out in
      inr (record { grant = b.grant; there = b.there; bound = b.bound; owner = mapped_unmap set s.namespaces b.grant.owner b.owner (has_not set b.grant.owner stays); edge = b.edge }))
      (split s x h));
}
  where
    unmapped_was : (d : ℕ) → Mapped (filter is_left (map (gone_in set) s.namespaces)) d → Mapped s.namespaces d × (Contains set d → ⊥)
    unmapped_was d m = each_left set s.namespaces (λ n. Contains n.objects m.2.0 → Mapped s.namespaces d × (Contains set d → ⊥))
        (λ ns at h. let kept = stayed set ns m.2.0 h in ((ns, at, (m.2.0, kept.0, m.2.2)), λ i. kept.1 (subst (Contains set) (sym m.2.2) i))) m.0 m.1 m.2.1

    out_of : (d : ℕ) → (Contains set d → ⊥) → (t : Bool) → has set d ≡ t → t ≡ false
    out_of d out true e = absurd (out (has_in set d e))
    out_of d out false e = refl

-- ---- an opening

open_follow : LoadLaws → (m : Machine) (w : Setting) (past : List Event) → Lawful m past → (hart : ℕ) (ask : OpenAsk) (id root : ℕ) (added : List Loaded) (ranges : List Range)
    → Opens w (after past) hart ask id root added ranges → EdgesFollow (after past) (events.Open hart ask (opens.Done id root added ranges))
unfolding loaded
open_follow laws m w past lawful hart ask id root added ranges may = record {
  from = λ x h. ⊎_elim
      (λ (a : Contains (flat_map chosen_edges ((after past).chosen ++ news)) x).
      let at = from_flat chosen_edges ((after past).chosen ++ news) x a in
      ⊎_elim
      (λ (old : Contains (after past).chosen at.0). inr (joined (after past) x (inl (in_flat chosen_edges (after past).chosen at.0 x old at.2)), refl))
      (λ (new : Contains news at.0). inl (in_flat chosen_edges news at.0 x new at.2))
      (Contains-append_cases (after past).chosen news at.0 at.1))
      (λ (b : ByBound (with_namespace id (λ n. opened n added root (is_global ask.flags)) (after past).namespaces) (after past).grants x).
      inr (joined (after past) x (inr (record { grant = b.grant; there = b.there; bound = b.bound; owner = was b.grant b.there b.owner; edge = b.edge })), refl))
      (split (step (after past) (events.Open hart ask (opens.Done id root added ranges))) x h);
  gains = λ x h.
      let at = from_flat chosen_edges news x h in
      joined (step (after past) (events.Open hart ask (opens.Done id root added ranges))) x (inl (in_flat chosen_edges ((after past).chosen ++ news) at.0 x (Contains-append_right (after past).chosen news at.0 at.1) at.2));
  keeps = λ x h out. joined (step (after past) (events.Open hart ask (opens.Done id root added ranges))) x (⊎_elim
      (λ (a : Contains (flat_map chosen_edges (after past).chosen) x).
      let at = from_flat chosen_edges (after past).chosen x a in
      inl (in_flat chosen_edges ((after past).chosen ++ news) at.0 x (Contains-append_left (after past).chosen news at.0 at.1) at.2))
      (λ (b : ByBound (after past).namespaces (after past).grants x).
      inr (record { grant = b.grant; there = b.there; bound = b.bound; owner = mapped_open id added root (is_global ask.flags) (after past).namespaces b.grant.owner b.owner; edge = b.edge }))
      (split (after past) x h));
}
  where
    news : List Chosen
    news = map (chosen_of (loaded (after past) hart ask id root added ranges) (seen_after (after past) ask id root added) (binds (after past) ask)) added

    came : Arrived (core (after past)) (namespace_before (after past) id) added root
    came = arrived_by laws w (after past) (good_after laws m past lawful) hart ask id root added ranges may

    -- the owner of a grant that was made is no new object
    was : (g : Granting) → Contains (after past).grants g → Mapped (with_namespace id (λ n. opened n added root (is_global ask.flags)) (after past).namespaces) g.owner → Mapped (after past).namespaces g.owner
    was g there owner = ⊎_elim
        (λ (old : (ms : Namespace) × Contains (after past).namespaces ms × Contains ms.objects owner.2.0). (old.0, old.1, (owner.2.0, old.2, owner.2.2)))
        (λ (new : Contains added owner.2.0).
        let low : g.owner < (after past).next = (good_after laws m past lawful).grants_low g there in
        let high : (after past).next ≤ owner.2.0.serial = (came.fresh owner.2.0 new).0 in
        let is : owner.2.0.serial ≡ g.owner = owner.2.2 in
        absurd (omega (arith, low, high, is)))
        (objects_open id added root (is_global ask.flags) (after past).namespaces owner.0 owner.2.0 owner.1 owner.2.1)

-- ---- each event

close_same : (s : State) (hart handle : ℕ) (set : List ℕ) → SameHeld s (step s (events.Close hart handle (closes.Done set)))
unfolding die lower
close_same s hart handle set = record {
  chosen = refl;
  forth = λ g h b. h;
  back = λ g h b. h;
  there = λ d m. mapped_by (dying_in hart set) (keeps_dying hart set) (map (lowered_in handle) s.namespaces) d (mapped_by (lowered_in handle) (keeps_lowered handle) s.namespaces d m);
  was = λ d m. mapped_back (lowered_in handle) (keeps_lowered handle) s.namespaces d (mapped_back (dying_in hart set) (keeps_dying hart set) (map (lowered_in handle) s.namespaces) d m);
}

init_same : (s : State) (hart object : ℕ) → SameHeld s (step s (events.Init hart object))
unfolding initialise
init_same s hart object = record {
  chosen = refl;
  forth = λ g h b. h;
  back = λ g h b. h;
  there = λ d m. mapped_by (ready_in object) (keeps_ready object) s.namespaces d m;
  was = λ d m. mapped_back (ready_in object) (keeps_ready object) s.namespaces d m;
}

pub edges_follow : LoadLaws → (m : Machine) (w : Setting) (past : List Event) (e : Event) → Lawful m past → AllowedIn w past (after past) e → EdgesFollow (after past) e
edges_follow laws m w past (events.Open hart ask (opens.Done id root added ranges)) lawful may = open_follow laws m w past lawful hart ask id root added ranges may
edges_follow laws m w past (events.Open hart ask opens.Absent) lawful may = nothing_changes (after past) _ refl (λ x. refl) (alike (after past) _ refl refl refl)
edges_follow laws m w past (events.Open hart ask (opens.Refused fault)) lawful may = nothing_changes (after past) _ refl (λ x. refl) (alike (after past) _ refl refl refl)
edges_follow laws m w past (events.Close hart handle (closes.Done set)) lawful may = nothing_changes (after past) _ refl (λ x. refl) (close_same (after past) hart handle set)
edges_follow laws m w past (events.Close hart handle (closes.Refused fault)) lawful may = nothing_changes (after past) _ refl (λ x. refl) (alike (after past) _ refl refl refl)
edges_follow laws m w past (events.Unmapped hart set) lawful may = unmap_follow (after past) hart set
edges_follow laws m w past (events.Grant number hart owner slot choice value) lawful may = nothing_changes (after past) _ refl (λ x. refl) (granted_same (after past) number hart owner slot choice value)
edges_follow laws m w past (events.Bound number) lawful may = bound_follow (after past) number (λ g there open_yet. let o = (held laws m past lawful g there open_yet).owner in (o.namespace, o.there, (o.object, o.inside, o.is)))
edges_follow laws m w past (events.Lost number saw) lawful may = nothing_changes (after past) _ refl (λ x. refl) (lost_same (after past) number saw)
edges_follow laws m w past (events.Unresolved hart owner slot choice) lawful may = nothing_changes (after past) _ refl (λ x. refl) (alike (after past) _ refl refl refl)
edges_follow laws m w past (events.Sym hart ask (syms.Found serial index value)) lawful may = nothing_changes (after past) _ refl (λ x. refl) (alike (after past) _ refl refl refl)
edges_follow laws m w past (events.Sym hart ask (syms.Refused fault)) lawful may = nothing_changes (after past) _ refl (λ x. refl) (alike (after past) _ refl refl refl)
edges_follow laws m w past (events.Tls hart owner address) lawful may = nothing_changes (after past) _ refl (λ x. refl) (alike (after past) _ refl refl refl)
edges_follow laws m w past (events.Init hart object) lawful may = nothing_changes (after past) _ refl (λ x. refl) (init_same (after past) hart object)
edges_follow laws m w past (events.Fini hart object) lawful may = nothing_changes (after past) _ refl (λ x. refl) (alike (after past) _ refl refl refl)
edges_follow laws m w past (events.Wrote hart bytes) lawful may = nothing_changes (after past) _ refl (λ x. refl) (alike (after past) _ refl refl refl)
edges_follow laws m w past (events.Told hart fault) lawful may = nothing_changes (after past) _ refl (λ x. refl) (alike (after past) _ refl refl refl)
edges_follow laws m w past (events.Ended hart reason) lawful may = nothing_changes (after past) _ refl (λ x. refl) (alike (after past) _ refl refl refl)

pub edges_are : (s : State) → edges s ≡ flat_map found_edges (mapped s) ++ held_edges s
unfolding edges
edges_are s = append_assoc (flat_map found_edges (mapped s)) (flat_map chosen_edges s.chosen) (flat_map (bound_edges (map serial_of (mapped s))) s.grants)
