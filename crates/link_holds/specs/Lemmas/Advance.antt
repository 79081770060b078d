-- Grants that are settled, and objects that are initialised and finalised.
use Rattle.std.proofs.Common.{◌≡◌, ⊎_elim, ℕ, suc, ◌+◌, ◌-◌, ◌≤◌, ◌&&◌, ◌||◌, Bool, true, false, not, cond, eqb, List, [], ◌∷◌, ◌++◌, map, length, Option, Some, None, refl, sym, ap, subst, ◌∙◌, arith}
use Rattle.std.specs.Prelude.{if◌then◌else◌}
use Rattle.std.specs.List.{Contains, filter, find, flat_map, slice_get}
use Rattle.std.proofs.lemmas.Bool.{eqb-true, true≢false}
use Rattle.std.proofs.lemmas.List.{append-nil, length-map, map-append}
use Rattle.std.proofs.lemmas.List.Elements.{Contains-append_left, Contains-append_right, Contains-append_cases, filter-append}
use Rattle.std.proofs.lemmas.List.Folds.{list_any-append}
use Rattle.std.proofs.lemmas.Option.{slice_get-get_or}
use Rattle.close_mark.specs.ClosingPlans.Plans.{IsRoomy}
use Rattle.link_lists.specs.HeldEdgesPart.Roomy.{EdgesWithRoom}
use Rattle.ld_base.specs.declared.linking.Loaded.{Loaded}
use Rattle.ld_base.specs.declared.linking.State.{State as LoadState}
use Rattle.ld_base.specs.declared.linking.State.TheVariants as states
use Rattle.history_event.specs.declared.event.Event.TheVariants.{Init}
use Rattle.history_event.specs.declared.state.Granting.{Granting}
use Rattle.history_event.specs.declared.state.Standing.{Standing}
use Rattle.history_event.specs.declared.state.Standing.TheVariants as standings
use Rattle.history_graph.specs.declared.graph.Edge.{Edge}
use Rattle.history_state.specs.Grants.{is_open, is_open_standing, target_of}
use Rattle.history_state.specs.Held.{EdgesFollow, bound_gains}
use Rattle.history_state.specs.Laws.{GrantsAreTidy, HasAll}
use Rattle.history_state.specs.Links.{edges_to, held_edges}
use Rattle.history_state.specs.Objects.{has, mapped, serial_of}
use Rattle.history_state.specs.Owed.{ends_left, owed}
use Rattle.history_state.specs.State.{State}
use Rattle.history_state.specs.Step.{finalise, initialise, ready_in, ready_object, ready_state, settle, settled_as, step}
use Rattle.history_state.specs.Lemmas.Lists.{found_in, from_filter, from_flat, in_filter, in_flat, none_in, not_found, same_test}
use Rattle.link_lists.specs.LinkPending.Pending.{GrantTable, SerialsWithRoom, has_number, is_another}
use Rattle.scope_rule.specs.declared.namespace.Namespace.{Namespace}
use Rattle.link_holds.specs.Holding.{HoldsAll, Lists, Runs}
use Rattle.link_holds.specs.Settling.{edges_spent, settled_edges}
use Rattle.link_holds.specs.Events.{settled}

-- ---- grants that are settled

abbrev opened : List Granting → List Granting
opened grants = filter is_open grants

others_if : (number : ℕ) (b : Bool) (g : Granting) (rest : List Granting)
    → filter (is_another number) (cond b (g ∷ rest) rest) ≡ cond b (cond (not (eqb g.number number)) (g ∷ filter (is_another number) rest) (filter (is_another number) rest)) (filter (is_another number) rest)
others_if number true g rest = refl
others_if number false g rest = refl

-- settling takes the grant off those that are open
settled_opens : (number : ℕ) (standing : Standing) → is_open_standing standing ≡ false → (grants : List Granting)
    → opened (map (settled_as number standing) grants) ≡ filter (is_another number) (opened grants)
settled_opens number standing shut [] = refl
settled_opens number standing shut (g ∷ grants) =
    by (eqb g.number number) (is_open g) refl (settled_opens number standing shut grants) ∙ sym (others_if number (is_open g) g (opened grants))
  where
    by : (a b : Bool) → is_open g ≡ b → opened (map (settled_as number standing) grants) ≡ filter (is_another number) (opened grants)
        → opened ((if a && b then record g { standing = standing } else g) ∷ map (settled_as number standing) grants)
        ≡ cond b (cond (not a) (g ∷ filter (is_another number) (opened grants)) (filter (is_another number) (opened grants))) (filter (is_another number) (opened grants))
    by true true e rest = ap (λ (t : Bool). cond t (record g { standing = standing } ∷ opened (map (settled_as number standing) grants)) (opened (map (settled_as number standing) grants))) shut ∙ rest
    by true false e rest = ap (λ (t : Bool). cond t (g ∷ opened (map (settled_as number standing) grants)) (opened (map (settled_as number standing) grants))) e ∙ rest
    by false true e rest =
        ap (λ (t : Bool). cond t (g ∷ opened (map (settled_as number standing) grants)) (opened (map (settled_as number standing) grants))) e ∙ ap (λ (gs : List Granting). g ∷ gs) rest
    by false false e rest = ap (λ (t : Bool). cond t (g ∷ opened (map (settled_as number standing) grants)) (opened (map (settled_as number standing) grants))) e ∙ rest

-- what settles, by the word that was seen
abbrev pub standing_of : Bool → ℕ → Standing
standing_of true saw = standings.Bound
standing_of false saw = standings.Lost saw

pub settled_step : (s : State) (number : ℕ) (won : Bool) (saw : ℕ) → step s (settled number won saw) ≡ settle number (standing_of won saw) s
settled_step s number true saw = refl
settled_step s number false saw = refl

shut : (won : Bool) (saw : ℕ) → is_open_standing (standing_of won saw) ≡ false
shut true saw = refl
shut false saw = refl

pub runs_settled : (grants : List Granting) (next : ℕ) (inits finis : List ℕ) (namespaces : List Namespace) (before behind : GrantTable) (unfinished : SerialsWithRoom) (held : List Namespace)
    (number : ℕ) (won : Bool) (saw : ℕ) → Runs grants next inits finis namespaces before unfinished held → behind.grants ≡ filter (is_another number) before.grants → behind.count ≡ before.count
    → Runs (map (settled_as number (standing_of won saw)) grants) next inits finis namespaces behind unfinished held
runs_settled grants next inits finis namespaces before behind unfinished held number won saw runs is same = record {
  opens = is ∙ ap (filter (is_another number)) runs.opens ∙ sym (settled_opens number (standing_of won saw) (shut won saw) grants);
  count = same ∙ runs.count ∙ sym (length-map grants (settled_as number (standing_of won saw)));
  serials = runs.serials;
  room = runs.room;
  spaces = runs.spaces;
}

-- ---- objects that are finalised

abbrev left : List ℕ → ℕ → Bool
left finis o = not (has finis o)

left_push : (finis : List ℕ) (d x : ℕ) → left (finis ++ d ∷ []) x ≡ (left finis x && not (eqb x d))
left_push finis d x =
    ap not (list_any-append (λ y. eqb y x) finis (d ∷ [])) ∙ apart (has finis x) (eqb d x) ∙ ap (λ (b : Bool). left finis x && not b) (same_test d x)
  where
    apart : (a b : Bool) → not (a || (b || false)) ≡ (not a && not b)
    apart true b = refl
    apart false true = refl
    apart false false = refl

twice : (p q r : ℕ → Bool) → ((x : ℕ) → r x ≡ (p x && q x)) → (xs : List ℕ) → filter q (filter p xs) ≡ filter r xs
twice p q r both [] = refl
twice p q r both (x ∷ xs) = at (p x) refl (twice p q r both xs)
  where
    inner : (b : Bool) → filter q (cond b (x ∷ filter p xs) (filter p xs)) ≡ cond (b && q x) (x ∷ filter q (filter p xs)) (filter q (filter p xs))
    inner true = refl
    inner false = refl

    at : (b : Bool) → p x ≡ b → filter q (filter p xs) ≡ filter r xs → filter q (cond (p x) (x ∷ filter p xs) (filter p xs)) ≡ cond (r x) (x ∷ filter r xs) (filter r xs)
    at b e rest =
        inner (p x) ∙ ap (λ (t : Bool). cond t (x ∷ filter q (filter p xs)) (filter q (filter p xs))) (sym (both x)) ∙ ap (λ (ys : List ℕ). cond (r x) (x ∷ ys) ys) rest

pub runs_finalised : (grants : List Granting) (next : ℕ) (inits finis : List ℕ) (namespaces : List Namespace) (settling : GrantTable) (before behind : SerialsWithRoom) (held : List Namespace)
    (object : ℕ) → Runs grants next inits finis namespaces settling before held → behind.serials ≡ filter (λ d. not (eqb d object)) before.serials → behind.room ≡ before.room
    → Runs grants next inits (finis ++ object ∷ []) namespaces settling behind held
runs_finalised grants next inits finis namespaces settling before behind held object runs is room = record {
  opens = runs.opens;
  count = runs.count;
  serials = is ∙ ap (filter (λ d. not (eqb d object))) runs.serials ∙ twice (left finis) (λ d. not (eqb d object)) (left (finis ++ object ∷ [])) (left_push finis object) inits;
  room = omega (arith, runs.room, room);
  spaces = runs.spaces;
}

-- ---- objects that are initialised

has_in : (xs : List ℕ) (d : ℕ) → has xs d ≡ true → Contains xs d
has_in [] d e = absurd (true≢false (sym e))
has_in (x ∷ xs) d e = at (has_in xs d) (eqb x d) refl e
  where
    at : (has xs d ≡ true → Contains xs d) → (b : Bool) → eqb x d ≡ b → (b || has xs d) ≡ true → Contains (x ∷ xs) d
    at again true t f = (0, omega arith, eqb-true x d t)
    at again false t f = let rest : Contains xs d = again f in (suc rest.0, omega (arith, rest.1), rest.2)

-- an object that wasn't initialised wasn't finalised
pub not_finished : (inits finis : List ℕ) (object : ℕ) → ((d : ℕ) → Contains finis d → Contains inits d) → (Contains inits object → ⊥) → has finis object ≡ false
not_finished inits finis object initialised undone = at (has finis object) refl
  where
    at : (b : Bool) → has finis object ≡ b → b ≡ false
    at true e = absurd (undone (initialised object (has_in finis object e)))
    at false e = refl

-- one of those that are still to be initialised is owed its event
pub some_left : (harts : ℕ) (s : State) (object : ℕ) → owed harts (initialise object s) + 1 ≤ owed harts s → s.next - 1 - length (s.inits ++ object ∷ []) + 1 ≤ s.next - 1 - length s.inits
unfolding owed initialise
some_left harts s object falls =
    plain (length (filter is_open s.grants)) (s.next - 1 - length (s.inits ++ object ∷ [])) (s.next - 1 - length s.inits) (s.next - 1 - length s.finis) (length s.closings) (ends_left harts s.endings) falls
  where
    plain : (g a b f c e : ℕ) → g + a + f + c + e + 1 ≤ g + b + f + c + e → a + 1 ≤ b
    plain g a b f c e falls = omega (arith, falls)

pub runs_initialised : (grants : List Granting) (next : ℕ) (inits finis : List ℕ) (namespaces : List Namespace) (settling : GrantTable) (before behind : SerialsWithRoom)
    (held more : List Namespace) (object : ℕ) → Runs grants next inits finis namespaces settling before held → has finis object ≡ false
    → next - 1 - length (inits ++ object ∷ []) + 1 ≤ next - 1 - length inits → behind.serials ≡ before.serials ++ object ∷ [] → behind.room + 1 ≡ before.room → more ≡ map (ready_in object) held
    → Runs grants next (inits ++ object ∷ []) finis (map (ready_in object) namespaces) settling behind more
runs_initialised grants next inits finis namespaces settling before behind held more object runs unfinished falls is room ready = record {
  opens = runs.opens;
  count = runs.count;
  serials = is ∙ ap (λ (xs : List ℕ). xs ++ object ∷ []) runs.serials ∙ sym (filter-append (left finis) inits (object ∷ []) ∙ ap (λ (b : Bool). filter (left finis) inits ++ cond (not b) (object ∷ []) []) unfinished);
  room = plain (next - 1 - length (inits ++ object ∷ [])) (next - 1 - length inits) before.room behind.room falls runs.room room;
  spaces = ready ∙ ap (map (ready_in object)) runs.spaces;
}
  where
    plain : (a b r q : ℕ) → a + 1 ≤ b → b ≤ r → q + 1 ≡ r → a ≤ q
    plain a b r q falls room one = omega (arith, falls, room, one)

-- ---- edges of a grant that is settled

and_left : (a b : Bool) → (a && b) ≡ true → a ≡ true
and_left true b e = refl
and_left false b e = absurd (true≢false (sym e))

and_right : (a b : Bool) → (a && b) ≡ true → b ≡ true
and_right true b e = e
and_right false b e = absurd (true≢false (sym e))

-- two grants of one number are one
same_grant : (grants : List Granting) → ((k : ℕ) (g : Granting) → slice_get grants k ≡ Some g → g.number ≡ k + 1) → (g h : Granting) → Contains grants g → Contains grants h → g.number ≡ h.number → g ≡ h
same_grant grants numbered g h (i, li, ei) (j, lj, ej) same =
    let at_i : slice_get grants i ≡ Some g = slice_get-get_or grants i g li ∙ ap (λ (x : Granting). Some x) ei in
    let at_j : slice_get grants j ≡ Some h = slice_get-get_or grants j h lj ∙ ap (λ (x : Granting). Some x) ej in
    let one : i ≡ j = omega (arith, numbered i g at_i, numbered j h at_j, same) in
    let both : Some g ≡ Some h = sym at_i ∙ ap (slice_get grants) one ∙ at_j in
    cc

-- what a bound grant brings is the edge of the one that is settled
pub gained_settled : (grants : List Granting) (number : ℕ) (x : Edge) → ((k : ℕ) (g : Granting) → slice_get grants k ≡ Some g → g.number ≡ k + 1)
    → Contains (flat_map (bound_gains number) grants) x → Contains (settled_edges (find (has_number number) (opened grants)) true) x
gained_settled grants number x numbered inside =
    let at = from_flat (bound_gains number) grants x inside in
    let gains = gains_from at.0 (eqb at.0.number number && is_open at.0) refl at.2 in
    let listed : Contains (opened grants) at.0 = in_filter is_open grants at.0 at.1 (and_right (eqb at.0.number number) (is_open at.0) gains.0) in
    let numbers : has_number number at.0 ≡ true = and_left (eqb at.0.number number) (is_open at.0) gains.0 in
    by at.0 at.1 listed numbers gains.1 (find (has_number number) (opened grants)) refl
  where
    gains_from : (g : Granting) (b : Bool) → (eqb g.number number && is_open g) ≡ b → Contains (cond b (edges_to g.owner (target_of g.choice)) []) x → (b ≡ true) × Contains (edges_to g.owner (target_of g.choice)) x
    gains_from g true e h = (refl, h)
    gains_from g false e h = absurd (none_in x h)

    by : (g : Granting) → Contains grants g → Contains (opened grants) g → has_number number g ≡ true → Contains (edges_to g.owner (target_of g.choice)) x
        → (found : Option Granting) → find (has_number number) (opened grants) ≡ found → Contains (settled_edges found true) x
    by g there listed numbers edge None e = absurd (true≢false (sym numbers ∙ not_found (has_number number) (opened grants) g e listed))
    by g there listed numbers edge (Some h) e =
        let at = found_in (has_number number) (opened grants) h e in
        let h_there : Contains grants h = (from_filter is_open grants h at.0).0 in
        let one : g ≡ h = same_grant grants numbered g h there h_there (eqb-true g.number number numbers ∙ sym (eqb-true h.number number at.1)) in
        subst (λ (k : Granting). Contains (edges_to k.owner (target_of k.choice)) x) one edge

pub settled_gained : (grants : List Granting) (number : ℕ) (x : Edge) → Contains (settled_edges (find (has_number number) (opened grants)) true) x → Contains (flat_map (bound_gains number) grants) x
settled_gained grants number x inside = by (find (has_number number) (opened grants)) refl inside
  where
    by : (found : Option Granting) → find (has_number number) (opened grants) ≡ found → Contains (settled_edges found true) x → Contains (flat_map (bound_gains number) grants) x
    by None e h = absurd (none_in x h)
    by (Some g) e h =
        let at = found_in (has_number number) (opened grants) g e in
        let was = from_filter is_open grants g at.0 in
        in_flat (bound_gains number) grants g x was.0
        (subst (λ (b : Bool). Contains (cond b (edges_to g.owner (target_of g.choice)) []) x) (sym (ap (λ (b : Bool). b && is_open g) at.1 ∙ was.1)) h)

nothing_won : (found : Option Granting) → settled_edges found false ≡ []
nothing_won None = refl
nothing_won (Some g) = refl

-- the edges of the state after a settling are those before with that of the grant
pub settled_follow : (s : State) (number : ℕ) (won : Bool) (saw : ℕ) (old new : List Edge) → EdgesFollow s (settled number won saw) → ((k : ℕ) (g : Granting) → slice_get s.grants k ≡ Some g → g.number ≡ k + 1)
    → HasAll old (held_edges s) → HasAll (held_edges s) old → new ≡ old ++ settled_edges (find (has_number number) (opened s.grants)) won
    → HasAll new (held_edges (step s (settled number won saw))) × HasAll (held_edges (step s (settled number won saw))) new
settled_follow s number true saw old new follow numbered every only is = (
  (λ x inside. subst (λ (es : List Edge). Contains es x) (sym is) (⊎_elim
      (λ (gained : Contains (flat_map (bound_gains number) s.grants) x). Contains-append_right old (settled_edges (find (has_number number) (opened s.grants)) true) x (gained_settled s.grants number x numbered gained))
      (λ (kept : Contains (held_edges s) x × (false ≡ false)). Contains-append_left old (settled_edges (find (has_number number) (opened s.grants)) true) x (every x kept.0))
      (follow.from x inside))),
  (λ x inside. ⊎_elim
      (λ (front : Contains old x). follow.keeps x (only x front) refl)
      (λ (last : Contains (settled_edges (find (has_number number) (opened s.grants)) true) x). follow.gains x (settled_gained s.grants number x last))
      (Contains-append_cases old (settled_edges (find (has_number number) (opened s.grants)) true) x (subst (λ (es : List Edge). Contains es x) is inside))),
)
settled_follow s number false saw old new follow numbered every only is =
    let same : new ≡ old = is ∙ ap (λ (es : List Edge). old ++ es) (nothing_won (find (has_number number) (opened s.grants))) ∙ append-nil old in (
      (λ x inside. subst (λ (es : List Edge). Contains es x) (sym same) (⊎_elim
          (λ (gained : Contains {X = Edge} [] x). absurd (none_in x gained))
          (λ (kept : Contains (held_edges s) x × (false ≡ false)). every x kept.0)
          (follow.from x inside))),
      (λ x inside. follow.keeps x (only x (subst (λ (es : List Edge). Contains es x) same inside)) refl),
    )

-- the room for it is spent
fewer : (number : ℕ) (gs : List Granting) → length (filter (is_another number) gs) + edges_spent (find (has_number number) gs) ≤ length gs
fewer number [] = omega arith
fewer number (g ∷ gs) = by (eqb g.number number) (fewer number gs) (most gs)
  where
    most : (hs : List Granting) → length (filter (is_another number) hs) ≤ length hs
    most [] = omega arith
    most (h ∷ hs) = at (eqb h.number number) (most hs)
      where
        at : (b : Bool) → length (filter (is_another number) hs) ≤ length hs → length (cond (not b) (h ∷ filter (is_another number) hs) (filter (is_another number) hs)) ≤ length (h ∷ hs)
        at true le = omega (arith, le)
        at false le = omega (arith, le)

    by : (b : Bool) → length (filter (is_another number) gs) + edges_spent (find (has_number number) gs) ≤ length gs → length (filter (is_another number) gs) ≤ length gs
        → length (cond (not b) (g ∷ filter (is_another number) gs) (filter (is_another number) gs)) + edges_spent (cond b (Some g) (find (has_number number) gs)) ≤ length (g ∷ gs)
    by true le low = omega (arith, low)
    by false le low = omega (arith, le)

pub room_spent : (number : ℕ) (won : Bool) (saw : ℕ) (grants : List Granting) (found : Option Granting) (old new : ℕ) → found ≡ find (has_number number) (opened grants) → length (opened grants) ≤ old
    → new + edges_spent found ≡ old → length (opened (map (settled_as number (standing_of won saw)) grants)) ≤ new
room_spent number won saw grants found old new is room left =
    let fall : length (filter (is_another number) (opened grants)) + edges_spent (find (has_number number) (opened grants)) ≤ length (opened grants) = fewer number (opened grants) in
    let spent : edges_spent found ≡ edges_spent (find (has_number number) (opened grants)) = ap edges_spent is in
    let same : length (opened (map (settled_as number (standing_of won saw)) grants)) ≡ length (filter (is_another number) (opened grants)) = ap length (settled_opens number (standing_of won saw) (shut won saw) grants) in
    omega (arith, fall, spent, same, room, left)

pub room_enough : (number : ℕ) (grants : List Granting) (found : Option Granting) (room : ℕ) → found ≡ find (has_number number) (opened grants) → length (opened grants) ≤ room → edges_spent found ≤ room
room_enough number grants found room is enough =
    let fall : length (filter (is_another number) (opened grants)) + edges_spent (find (has_number number) (opened grants)) ≤ length (opened grants) = fewer number (opened grants) in
    let spent : edges_spent found ≡ edges_spent (find (has_number number) (opened grants)) = ap edges_spent is in
    omega (arith, fall, spent, enough)

-- ---- namespaces whose objects keep their serials

pub serials_stay : (change : Namespace → Namespace) → ((ns : Namespace) → map serial_of (change ns).objects ≡ map serial_of ns.objects) → (nss : List Namespace)
    → map serial_of (flat_map (λ (ns : Namespace). ns.objects) (map change nss)) ≡ map serial_of (flat_map (λ (ns : Namespace). ns.objects) nss)
serials_stay change same [] = refl
serials_stay change same (ns ∷ nss) =
    map-append serial_of (change ns).objects (flat_map (λ (m : Namespace). m.objects) (map change nss))
    ∙ ap (λ (ds : List ℕ). ds ++ map serial_of (flat_map (λ (m : Namespace). m.objects) (map change nss))) (same ns)
    ∙ ap (λ (ds : List ℕ). map serial_of ns.objects ++ ds) (serials_stay change same nss)
    ∙ sym (map-append serial_of ns.objects (flat_map (λ (m : Namespace). m.objects) nss))

ready_serial : (object : ℕ) (o : Loaded) → (ready_object object o).serial ≡ o.serial
ready_serial object o = by (eqb o.serial object)
  where
    inner : (st : LoadState) → o.state ≡ st → (ready_state o).serial ≡ o.serial
    inner (states.Initialising hart) e = rw e refl
    inner states.Ready e = rw e refl
    inner (states.Dying hart) e = rw e refl

    by : (b : Bool) → (if b then ready_state o else o).serial ≡ o.serial
    by true = inner o.state refl
    by false = refl

ready_serials : (object : ℕ) (os : List Loaded) → map serial_of (map (ready_object object) os) ≡ map serial_of os
ready_serials object [] = refl
ready_serials object (o ∷ os) = ap (λ d. d ∷ map serial_of (map (ready_object object) os)) (ready_serial object o) ∙ ap (λ (ds : List ℕ). o.serial ∷ ds) (ready_serials object os)

-- ---- all lists

pub all_settled : (s : State) (number : ℕ) (won : Bool) (saw : ℕ) (l : Lists) (settling : GrantTable) (edges : EdgesWithRoom) (found : Option Granting) → HoldsAll s l
    → EdgesFollow s (settled number won saw) → GrantsAreTidy s → settling.grants ≡ filter (is_another number) l.settling.grants → settling.count ≡ l.settling.count
    → found ≡ find (has_number number) l.settling.grants → edges.edges ≡ l.edges.edges ++ settled_edges found won → edges.room + edges_spent found ≡ l.edges.room
    → HoldsAll (step s (settled number won saw)) (record l { settling = settling; edges = edges })
all_settled s number won saw l settling edges found holds follow tidy is same finds edges_are room =
    let at : found ≡ find (has_number number) (opened s.grants) = finds ∙ ap (find (has_number number)) holds.running.opens in
    let are : edges.edges ≡ l.edges.edges ++ settled_edges (find (has_number number) (opened s.grants)) won = edges_are ∙ ap (λ (o : Option Granting). l.edges.edges ++ settled_edges o won) at in
    let both = settled_follow s number won saw l.edges.edges edges.edges follow tidy.numbered holds.keeping.every holds.keeping.only are in
    let state : settle number (standing_of won saw) s ≡ step s (settled number won saw) = sym (settled_step s number won saw) in
    subst (λ (t : State). HoldsAll t (record l { settling = settling; edges = edges })) state (record {
      faults = holds.faults;
      running = runs_settled s.grants s.next s.inits s.finis s.namespaces l.settling settling l.unfinished l.namespaces number won saw holds.running is same;
      memory = holds.memory;
      keeping = record {
        every = subst (λ (t : State). HasAll edges.edges (held_edges t)) (sym state) both.0;
        only = subst (λ (t : State). HasAll (held_edges t) edges.edges) (sym state) both.1;
        room = room_spent number won saw s.grants found l.edges.room edges.room at holds.keeping.room room;
        closings = holds.keeping.closings;
        roomy = holds.keeping.roomy;
      };
      opening = holds.opening;
    })

pub all_finalised : (s : State) (object : ℕ) (l : Lists) (behind : SerialsWithRoom) → HoldsAll s l → behind.serials ≡ filter (λ d. not (eqb d object)) l.unfinished.serials
    → behind.room ≡ l.unfinished.room → HoldsAll (finalise object s) (record l { unfinished = behind })
all_finalised s object l behind holds is room = record {
  faults = holds.faults;
  running = runs_finalised s.grants s.next s.inits s.finis s.namespaces l.settling l.unfinished behind l.namespaces object holds.running is room;
  memory = holds.memory;
  keeping = holds.keeping;
  opening = holds.opening;
}

pub all_initialised : (s : State) (hart object : ℕ) (l : Lists) (behind : SerialsWithRoom) (more : List Namespace) → HoldsAll s l → EdgesFollow s (Init hart object)
    → has s.finis object ≡ false → s.next - 1 - length (s.inits ++ object ∷ []) + 1 ≤ s.next - 1 - length s.inits
    → behind.serials ≡ l.unfinished.serials ++ object ∷ [] → behind.room + 1 ≡ l.unfinished.room → more ≡ map (ready_in object) l.namespaces
    → HoldsAll (initialise object s) (record l { unfinished = behind; namespaces = more })
unfolding initialise
all_initialised s hart object l behind more holds follow unfinished falls is room ready =
    let stay : map serial_of (flat_map (λ (ns : Namespace). ns.objects) (map (ready_in object) s.namespaces)) ≡ map serial_of (mapped s) =
    serials_stay (ready_in object) (λ ns. ready_serials object ns.objects) s.namespaces in
    record {
      faults = holds.faults;
      running = runs_initialised s.grants s.next s.inits s.finis s.namespaces l.settling l.unfinished behind l.namespaces more object holds.running unfinished falls is room ready;
      memory = holds.memory;
      keeping = record {
        every = λ x inside. ⊎_elim
            (λ (gained : Contains {X = Edge} [] x). absurd (none_in x gained))
            (λ (kept : Contains (held_edges s) x × (false ≡ false)). holds.keeping.every x kept.0)
            (follow.from x inside);
        only = λ x inside. follow.keeps x (holds.keeping.only x inside) refl;
        room = holds.keeping.room;
        closings = holds.keeping.closings;
        roomy = λ p inside. subst (λ (ds : List ℕ). IsRoomy ds s.ranges p) (sym stay) (holds.keeping.roomy p inside);
      };
      opening = holds.opening;
    }
