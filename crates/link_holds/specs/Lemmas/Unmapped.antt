-- An unmapping.
use Rattle.std.proofs.Common.{◌≡◌, ⊎_elim, ℕ, ◌+◌, ◌≤◌, Bool, true, false, not, cond, eqb, List, [], ◌∷◌, length, map, Option, Some, None, refl, sym, ap, subst, ◌∙◌, arith}
use Rattle.std.specs.Prelude.{IfNone}
use Rattle.std.specs.Str.{bytes_eq}
use Rattle.std.specs.Option.{option_map}
use Rattle.std.specs.List.{Contains, count_by, filter, find, flat_map}
use Rattle.std.proofs.lemmas.Bool.{and_from, and_parts, eq-eqb, true≢false}
use Rattle.std.proofs.lemmas.List.{map-append}
use Rattle.std.proofs.lemmas.List.Sums.{sum_by-append, sum_by-cons}
use Rattle.std.proofs.lemmas.Slice.Eq.{bytes_eq-Decides}
use Rattle.close_mark.specs.ClosingPlans.Plans.{IsRoomy}
use Rattle.link_lists.specs.HeldEdgesPart.Roomy.{EdgesWithRoom}
use Rattle.link_images.specs.Parts.{PartsWithRoom, part_of}
use Rattle.link_lists.specs.LateBlocksPart.Blocks.{BlockList}
use Rattle.ld_base.specs.declared.linking.Loaded.{Loaded}
use Rattle.history_event.specs.declared.event.Event.TheVariants.{Unmapped}
use Rattle.history_event.specs.declared.event.Range.{Range}
use Rattle.history_event.specs.declared.state.Block.{Block}
use Rattle.history_event.specs.declared.state.Closing.{Closing}
use Rattle.history_event.specs.declared.state.Granting.{Granting}
use Rattle.history_event.specs.declared.state.Module.{Module}
use Rattle.history_graph.specs.declared.graph.Edge.{Edge}
use Rattle.history_state.specs.Allowed.{IsUngranted, MayUnmap}
use Rattle.history_state.specs.Grants.{is_open}
use Rattle.history_state.specs.Held.{EdgesFollow}
use Rattle.history_state.specs.Links.{held_edges}
use Rattle.history_state.specs.Objects.{has, mapped, serial_of}
use Rattle.history_state.specs.State.{Linked, State}
use Rattle.history_state.specs.Step.{goes_with, gone_in, is_closing, is_left, unmap}
use Rattle.history_state.specs.Lemmas.Lists.{found_in, from_filter, from_map, in_filter, none_in, not_found}
use Rattle.history_calls.specs.Waiting.{HasFinished}
use Rattle.link_spaces.specs.PendingClosingsPart.Pending.{PendingClosing, PendingList, closing_of, is_of}
use Rattle.link_spaces.specs.ReservedPagesPart.Laid.{RangeList}
use Rattle.scope_rule.specs.declared.namespace.Namespace.{Namespace}
use Rattle.tls_blocks.specs.Numbers.{ModuleTable}
use Rattle.close_mark.specs.UnmapSteps.Touched.{is_of_set, is_touching}
use Rattle.close_mark.specs.UnmappedObjects.Taken.{goes}
use Rattle.link_holds.specs.Holding.{HoldsAll, Lists}

-- ---- what waits

-- the closing that has finished waits
pub waiting : (s : State) (hart : ℕ) (set : List ℕ) (l : Lists) → HoldsAll s l → HasFinished s hart set → (p : PendingClosing) × (find (is_of hart set) l.closings.closings ≡ Some p)
waiting s hart set l holds done = by (find (is_of hart set) l.closings.closings) refl
  where
    by : (found : Option PendingClosing) → find (is_of hart set) l.closings.closings ≡ found → (p : PendingClosing) × (find (is_of hart set) l.closings.closings ≡ Some p)
    by None e =
        let at = from_map closing_of l.closings.closings done.closing (subst (λ (cs : List Closing). Contains cs done.closing) (sym holds.keeping.closings) done.there) in
        let hart_is : at.0.hart ≡ hart = ap (λ (c : Closing). c.hart) at.2 ∙ done.by in
        let set_is : at.0.set ≡ set = ap (λ (c : Closing). c.set) at.2 ∙ done.whole in
        absurd (true≢false
        (sym (and_from (eqb at.0.hart hart) (bytes_eq at.0.set set) (eq-eqb at.0.hart hart hart_is) ((bytes_eq-Decides at.0.set set).1 set_is))
        ∙ not_found (is_of hart set) l.closings.closings at.0 e at.1))
    by (Some p) e = (p, e)

-- what was taken out is that closing
pub record IsTaken (s : State) (set : List ℕ) (p : PendingClosing) : Type 0 where
  pub of : p.set ≡ set
  pub roomy : IsRoomy (map serial_of (mapped s)) s.ranges p

pub taken : (s : State) (hart : ℕ) (set : List ℕ) (l : Lists) (p : PendingClosing) → HoldsAll s l → find (is_of hart set) l.closings.closings ≡ Some p → IsTaken s set p
taken s hart set l p holds found =
    let at = found_in (is_of hart set) l.closings.closings p found in
    record { of = (bytes_eq-Decides p.set set).0 (and_parts (eqb p.hart hart) (bytes_eq p.set set) at.1).1; roomy = holds.keeping.roomy p at.0 }

count_serials : (set : List ℕ) (os : List Loaded) → count_by (has set) (map serial_of os) ≡ count_by (goes set) os
count_serials set [] = refl
count_serials set (o ∷ os) =
    sum_by-cons (λ d. cond (has set d) 1 0) o.serial (map serial_of os)
    ∙ ap (λ n. cond (has set o.serial) 1 0 + n) (count_serials set os)
    ∙ sym (sum_by-cons (λ (x : Loaded). cond (goes set x) 1 0) o os)

pub objects_fit : (s : State) (set : List ℕ) (nss : List Namespace) (p : PendingClosing) → nss ≡ s.namespaces → p.set ≡ set → IsRoomy (map serial_of (mapped s)) s.ranges p
    → count_by (goes set) (flat_map (λ (ns : Namespace). ns.objects) nss) ≤ p.objects
objects_fit s set nss p are of roomy =
    let same : count_by (goes set) (flat_map (λ (ns : Namespace). ns.objects) nss) ≡ count_by (has p.set) (map serial_of (mapped s)) =
    ap (λ (all : List Namespace). count_by (goes set) (flat_map (λ (ns : Namespace). ns.objects) all)) are ∙ sym (count_serials set (mapped s)) ∙ ap (λ (ds : List ℕ). count_by (has ds) (map serial_of (mapped s))) (sym of) in
    omega (arith, same, roomy.objects)

pub ranges_fit : (s : State) (set : List ℕ) (laid : List Range) (p : PendingClosing) → laid ≡ s.ranges → p.set ≡ set → IsRoomy (map serial_of (mapped s)) s.ranges p
    → count_by (goes_with set) laid ≤ p.ranges
ranges_fit s set laid p are of roomy =
    let same : count_by (goes_with set) laid ≡ count_by (goes_with p.set) s.ranges = ap (count_by (goes_with set)) are ∙ ap (λ (ds : List ℕ). count_by (goes_with ds) s.ranges) (sym of) in
    omega (arith, same, roomy.ranges)

-- ---- what goes

-- the lists without the objects of a set
pub record AreWithout (hart : ℕ) (set : List ℕ) (l : Lists) (held : List Namespace) (reserved : RangeList) (modules : ModuleTable) (blocks : BlockList) (parts : PartsWithRoom)
    (edges : EdgesWithRoom) (closings : PendingList) : Type 0 where
  pub spaces : held ≡ filter is_left (map (gone_in set) l.namespaces)
  pub ranges : reserved.ranges ≡ filter (λ r. not (goes_with set r)) l.reserved.ranges
  pub numbered : modules.modules ≡ filter (λ m. not (is_of_set set m)) l.modules.modules
  pub generation : modules.generation ≡ l.modules.generation + length (filter (is_of_set set) l.modules.modules)
  pub size : modules.size ≡ l.modules.size
  pub tp : modules.tp ≡ l.modules.tp
  pub late : blocks.blocks ≡ filter (λ b. not (has set b.serial)) l.blocks.blocks
  pub kept : parts.parts ≡ filter (λ p. not (has set p.serial)) l.parts.parts
  pub from : edges.edges ≡ filter (λ e. not (has set e.source)) l.edges.edges
  pub room : edges.room ≡ l.edges.room
  pub waiting : closings.closings ≡ filter (λ p. not (is_of hart set p)) l.closings.closings

others_wait : (hart : ℕ) (set : List ℕ) (ps : List PendingClosing) → map closing_of (filter (λ p. not (is_of hart set p)) ps) ≡ filter (λ c. not (is_closing hart set c)) (map closing_of ps)
others_wait hart set [] = refl
others_wait hart set (p ∷ ps) = by (not (is_of hart set p)) (others_wait hart set ps)
  where
    by : (b : Bool) → map closing_of (filter (λ q. not (is_of hart set q)) ps) ≡ filter (λ c. not (is_closing hart set c)) (map closing_of ps)
        → map closing_of (cond b (p ∷ filter (λ q. not (is_of hart set q)) ps) (filter (λ q. not (is_of hart set q)) ps))
        ≡ cond b (closing_of p ∷ filter (λ c. not (is_closing hart set c)) (map closing_of ps)) (filter (λ c. not (is_closing hart set c)) (map closing_of ps))
    by true rest = ap (λ (cs : List Closing). closing_of p ∷ cs) rest
    by false rest = rest

-- fewer elements pass a test where some are left out
fewer_pass : {X : Type 0} (p keep : X → Bool) (xs : List X) → count_by p (filter keep xs) ≤ count_by p xs
fewer_pass p keep [] = omega arith
fewer_pass {X} p keep (x ∷ xs) = by (keep x) (fewer_pass p keep xs) (sum_by-cons (λ (y : X). cond (p y) 1 0) x xs) (sum_by-cons (λ (y : X). cond (p y) 1 0) x (filter keep xs))
  where
    by : (b : Bool) → count_by p (filter keep xs) ≤ count_by p xs → count_by p (x ∷ xs) ≡ cond (p x) 1 0 + count_by p xs
        → count_by p (x ∷ filter keep xs) ≡ cond (p x) 1 0 + count_by p (filter keep xs) → count_by p (cond b (x ∷ filter keep xs) (filter keep xs)) ≤ count_by p (x ∷ xs)
    by true le all some = omega (arith, le, all, some)
    by false le all some = omega (arith, le, all)

abbrev serials_in : List Namespace → List ℕ
serials_in nss = map serial_of (flat_map (λ (ns : Namespace). ns.objects) nss)

first_and_rest : (q : ℕ → Bool) (ns : Namespace) (nss : List Namespace) → count_by q (serials_in (ns ∷ nss)) ≡ count_by q (map serial_of ns.objects) + count_by q (serials_in nss)
first_and_rest q ns nss =
    ap (count_by q) (map-append serial_of ns.objects (flat_map (λ (m : Namespace). m.objects) nss)) ∙ sum_by-append (λ d. cond (q d) 1 0) (map serial_of ns.objects) (serials_in nss)

fewer_left : (q : ℕ → Bool) (set : List ℕ) (os : List Loaded) → count_by q (map serial_of (filter (λ o. not (has set o.serial)) os)) ≤ count_by q (map serial_of os)
fewer_left q set [] = omega arith
fewer_left q set (o ∷ os) =
    by (not (has set o.serial)) (fewer_left q set os) (sum_by-cons (λ d. cond (q d) 1 0) o.serial (map serial_of os)) (sum_by-cons (λ d. cond (q d) 1 0) o.serial (map serial_of (filter (λ x. not (has set x.serial)) os)))
  where
    by : (b : Bool) → count_by q (map serial_of (filter (λ x. not (has set x.serial)) os)) ≤ count_by q (map serial_of os)
        → count_by q (o.serial ∷ map serial_of os) ≡ cond (q o.serial) 1 0 + count_by q (map serial_of os)
        → count_by q (o.serial ∷ map serial_of (filter (λ x. not (has set x.serial)) os)) ≡ cond (q o.serial) 1 0 + count_by q (map serial_of (filter (λ x. not (has set x.serial)) os))
        → count_by q (map serial_of (cond b (o ∷ filter (λ x. not (has set x.serial)) os) (filter (λ x. not (has set x.serial)) os))) ≤ count_by q (o.serial ∷ map serial_of os)
    by true le all some = omega (arith, le, all, some)
    by false le all some = omega (arith, le, all)

fewer_serials : (q : ℕ → Bool) (set : List ℕ) (nss : List Namespace) → count_by q (serials_in (filter is_left (map (gone_in set) nss))) ≤ count_by q (serials_in nss)
fewer_serials q set [] = omega arith
fewer_serials q set (ns ∷ nss) =
    by (is_left (gone_in set ns)) (fewer_serials q set nss) (fewer_left q set ns.objects) (first_and_rest q ns nss) (first_and_rest q (gone_in set ns) (filter is_left (map (gone_in set) nss)))
  where
    by : (b : Bool) → count_by q (serials_in (filter is_left (map (gone_in set) nss))) ≤ count_by q (serials_in nss) → count_by q (map serial_of (gone_in set ns).objects) ≤ count_by q (map serial_of ns.objects)
        → count_by q (serials_in (ns ∷ nss)) ≡ count_by q (map serial_of ns.objects) + count_by q (serials_in nss)
        → count_by q (serials_in (gone_in set ns ∷ filter is_left (map (gone_in set) nss))) ≡ count_by q (map serial_of (gone_in set ns).objects) + count_by q (serials_in (filter is_left (map (gone_in set) nss)))
        → count_by q (serials_in (cond b (gone_in set ns ∷ filter is_left (map (gone_in set) nss)) (filter is_left (map (gone_in set) nss)))) ≤ count_by q (serials_in (ns ∷ nss))
    by true rest own all some = omega (arith, rest, own, all, some)
    by false rest own all some = omega (arith, rest, all)

edge_stays : (b : Bool) → not b ≡ true → b ≡ false
edge_stays true e = absurd (true≢false (sym e))
edge_stays false e = refl

pub all_unmapped : (s : State) (hart : ℕ) (set : List ℕ) (l : Lists) (held : List Namespace) (reserved : RangeList) (modules : ModuleTable) (blocks : BlockList) (parts : PartsWithRoom)
    (edges : EdgesWithRoom) (closings : PendingList) → HoldsAll s l → EdgesFollow s (Unmapped hart set)
    → ((images : List Linked) → map part_of (filter (λ m. not (has set m.serial)) images) ≡ filter (λ p. not (has set p.serial)) (map part_of images))
    → AreWithout hart set l held reserved modules blocks parts edges closings
    → HoldsAll (unmap hart set s) (record l { namespaces = held; reserved = reserved; modules = modules; blocks = blocks; parts = parts; edges = edges; closings = closings })
unfolding unmap
all_unmapped s hart set l held reserved modules blocks parts edges closings holds follow go out = record {
  faults = holds.faults;
  running = record {
    opens = holds.running.opens;
    count = holds.running.count;
    serials = holds.running.serials;
    room = holds.running.room;
    spaces = out.spaces ∙ ap (λ (nss : List Namespace). filter is_left (map (gone_in set) nss)) holds.running.spaces;
  };
  memory = record {
    ranges = out.ranges ∙ ap (filter (λ (r : Range). not (goes_with set r))) holds.memory.ranges;
    modules = out.numbered ∙ ap (filter (λ (m : Module). not (has set m.serial))) holds.memory.modules;
    size = out.size ∙ holds.memory.size;
    tp = out.tp ∙ holds.memory.tp;
    generation = out.generation ∙ ap (λ n. n + length (filter (is_of_set set) l.modules.modules)) holds.memory.generation
        ∙ ap (λ (ms : List Module). s.generation + length (filter (is_of_set set) ms)) holds.memory.modules;
    blocks = out.late ∙ ap (filter (λ (b : Block). not (has set b.serial))) holds.memory.blocks;
    parts = out.kept ∙ ap (filter (λ p. not (has set p.serial))) holds.memory.parts ∙ sym (go s.images);
  };
  keeping = record {
    every = λ x inside. subst (λ (es : List Edge). Contains es x) (sym out.from) (⊎_elim
        (λ (gained : Contains {X = Edge} [] x). absurd (none_in x gained))
        (λ (kept : Contains (held_edges s) x × (has set x.source ≡ false)). in_filter (λ (e : Edge). not (has set e.source)) l.edges.edges x (holds.keeping.every x kept.0) (ap not kept.1))
        (follow.from x inside));
    only = λ x inside.
        let was = from_filter (λ (e : Edge). not (has set e.source)) l.edges.edges x (subst (λ (es : List Edge). Contains es x) out.from inside) in
        follow.keeps x (holds.keeping.only x was.0) (edge_stays (has set x.source) was.1);
    room = omega (arith, holds.keeping.room, out.room);
    closings = ap (map closing_of) out.waiting ∙ others_wait hart set l.closings.closings ∙ ap (filter (λ c. not (is_closing hart set c))) holds.keeping.closings;
    roomy = λ p inside.
        let was = from_filter (λ (q : PendingClosing). not (is_of hart set q)) l.closings.closings p (subst (λ (ps : List PendingClosing). Contains ps p) out.waiting inside) in
        let roomy : IsRoomy (map serial_of (mapped s)) s.ranges p = holds.keeping.roomy p was.0 in
        let objects : count_by (has p.set) (serials_in (filter is_left (map (gone_in set) s.namespaces))) ≤ count_by (has p.set) (serials_in s.namespaces) = fewer_serials (has p.set) set s.namespaces in
        let ranges : count_by (goes_with p.set) (filter (λ (r : Range). not (goes_with set r)) s.ranges) ≤ count_by (goes_with p.set) s.ranges =
        fewer_pass (goes_with p.set) (λ (r : Range). not (goes_with set r)) s.ranges in
        record { objects = omega (arith, objects, roomy.objects); ranges = omega (arith, ranges, roomy.ranges) };
  };
  opening = holds.opening;
}

-- ---- what holds objects in memory

pub free_if : (s : State) (set : List ℕ) (granted : List Granting) (found : Option ℕ) → (find (is_touching set) (filter is_open s.grants) ≡ None → IsUngranted s set)
    → granted ≡ filter is_open s.grants → found ≡ option_map (λ (g : Granting). g.number) (find (is_touching set) granted) → IfNone found (IsUngranted s set)
free_if s set granted found none are is =
    subst (λ (o : Option ℕ). IfNone o (IsUngranted s set)) (sym (is ∙ ap (λ (gs : List Granting). option_map (λ (g : Granting). g.number) (find (is_touching set) gs)) are))
    (by (find (is_touching set) (filter is_open s.grants)) refl)
  where
    by : (o : Option Granting) → find (is_touching set) (filter is_open s.grants) ≡ o → IfNone (option_map (λ (g : Granting). g.number) o) (IsUngranted s set)
    by None e = none e
    by (Some g) e = tt

pub may_unmap : (s : State) (hart : ℕ) (set : List ℕ) → HasFinished s hart set → IsUngranted s set → MayUnmap s hart set
may_unmap s hart set done free = record {
  some = done.some;
  closing = done.closing;
  there = done.there;
  by = done.by;
  whole = done.whole;
  done = done.done;
  free = free;
}
