-- What grants put into slots is code, as long as the slot's object is mapped.
use Rattle.std.proofs.Common.{◌≡◌, ◌⊎◌, inl, inr, ⊎_elim, ℕ, ◌<◌, ◌≤◌, Bool, true, false, not, eqb, List, [], ◌∷◌, ◌++◌, map, Option, Some, None, refl, sym, ap, subst, ◌∙◌, arith}
use Rattle.std.specs.Prelude.{if◌then◌else◌}
use Rattle.std.specs.List.{Contains, filter, list_any}
use Rattle.std.specs.Option.{option_map_or}
use Rattle.std.proofs.lemmas.Bool.{and_parts, eqb-true, true≢false}
use Rattle.std.proofs.lemmas.List.Elements.{Contains-append_cases, Contains-append_left, Contains-push_cases}
use Rattle.ld_base.specs.declared.linking.Choice.{Choice}
use Rattle.ld_base.specs.declared.linking.Choice.TheVariants.{Def, WeakZero, Missing}
use Rattle.ld_base.specs.declared.linking.Loaded.{Loaded}
use Rattle.history_event.specs.declared.event.Event.{Event}
use Rattle.history_event.specs.declared.state.Granting.{Granting}
use Rattle.history_event.specs.declared.state.Standing.TheVariants.{Open}
use Rattle.scope_rule.specs.Opening.{opened}
use Rattle.scope_rule.specs.declared.namespace.Namespace.{Namespace}
use Rattle.history_state.specs.State.{State, empty_namespace}
use Rattle.history_state.specs.Addresses.{address, is_code_in, is_code_of, is_linkers_page, leads_to_code}
use Rattle.history_state.specs.Objects.{has, has_id, mapped, object_at, serial_of}
use Rattle.history_state.specs.Flags.{is_global}
use Rattle.history_state.specs.Grants.{target_of}
use Rattle.history_state.specs.Step.{changed_at, die, dying_in, dying_object, gone_in, initialise, is_left, loaded, lower, lowered_in, namespace_before, ready_in, ready_object, unmap, with_namespace}
use Rattle.history_state.specs.After.{after}
use Rattle.history_state.specs.Laws.{EntersBy, SlotsEnterCode}
use Rattle.history_state.specs.Legal.{Lawful}
use Rattle.history_state.specs.Setting.{Machine}
use Rattle.history_state.specs.Lemmas.Lists.{found_in, from_flat, has_in, here, in_filter, in_map, none_in}
use Rattle.history_state.specs.Lemmas.Good.{Along, Core, Good, Has, Keeps, core, each_mapped, is_live}
use Rattle.history_state.specs.Lemmas.Granted.{was_there}
use Rattle.history_state.specs.Lemmas.Changed.{Leaves, leaves_dying, leaves_ready}
use Rattle.history_state.specs.Lemmas.Dying.{keeps_dying, keeps_lowered, keeps_ready}
use Rattle.history_state.specs.Lemmas.Closed.{each_left, stayed}
use Rattle.history_state.specs.Lemmas.Opened.{before_of, members}
use Rattle.history_state.specs.Lemmas.Arrived.{Arrived}
use Rattle.history_state.specs.Lemmas.Brought.{LoadLaws}
use Rattle.history_state.specs.Lemmas.Steps.{Law, by_law}
use Rattle.history_state.specs.Lemmas.Dangling.{Mapped, left_nonempty, lives}

-- ---- code of a mapped object

abbrev pub Code : List Namespace → ℕ → ℕ → Type 0
Code all d v = (ns : Namespace) × (o : Loaded) × Contains all ns × Contains ns.objects o × (o.serial ≡ d) × (is_code_in o v ≡ true)

-- the value of a choice enters code of a mapped object, or the linker's page, or is 0
abbrev pub Enters : List Namespace → Choice → ℕ → Type 0
Enters all (Def serial index) v = ((serial ≡ 0) × (is_linkers_page v ≡ true)) ⊎ Code all serial v
Enters all WeakZero v = v ≡ 0
Enters all Missing v = ⊥

pub enters_more : (all more : List Namespace) (choice : Choice) (v : ℕ) → ((d : ℕ) → Contains (target_of choice) d → Code all d v → Code more d v) → Enters all choice v → Enters more choice v
enters_more all more (Def serial index) v keeps enters = ⊎_elim
    (λ (h : (serial ≡ 0) × (is_linkers_page v ≡ true)). inl h)
    (λ (h : Code all serial v). inr (keeps serial (here serial []) h))
    enters
enters_more all more WeakZero v keeps enters = enters
enters_more all more Missing v keeps enters = enters

-- ---- changes of namespaces

pub code_by : (change : Namespace → Namespace) (each : Loaded → Loaded) → Leaves each → ((ns : Namespace) → (change ns).objects ≡ map each ns.objects)
    → (all : List Namespace) (d v : ℕ) → Code all d v → Code (map change all) d v
code_by change each leaves is all d v c = (
  change c.0,
  each c.1,
  in_map change all c.0 c.2,
  subst (λ (os : List Loaded). Contains os (each c.1)) (sym (is c.0)) (in_map each c.0.objects c.1 c.3),
  ap serial_of (leaves c.1).1 ∙ c.4,
  ap (λ (q : Loaded). is_code_in q v) (leaves c.1).1 ∙ c.5,
)

mapped_back : (change : Namespace → Namespace) → Keeps change → (all : List Namespace) (d : ℕ) → Mapped (map change all) d → Mapped all d
mapped_back change keeps all d m = each_mapped change all (λ n. Has n d → Mapped all d)
    (λ ns there h. let q = keeps.back ns h.0 h.1 in (ns, there, (q.0, q.1, q.2 ∙ h.2))) m.0 m.1 m.2

-- ---- the law

abbrev Entering : Core → Type 0
Entering c = (g : Granting) → Contains c.grants g → is_live g.standing ≡ true → Mapped c.namespaces g.owner → Enters c.namespaces g.choice g.value

-- an opening: an old object is mapped before if it is after
mapped_before : (s : State) (id root : ℕ) (g : Bool) (added : List Loaded) → Good (core s) → Arrived (core s) (namespace_before s id) added root → (d : ℕ) → d < s.next
    → Mapped (with_namespace id (λ n. opened n added root g) s.namespaces) d → Mapped s.namespaces d
mapped_before s id root g added good came d low m = ⊎_elim
    (λ (is : m.0 ≡ opened (namespace_before s id) added root g). here_in (subst (λ (n : Namespace). Has n d) is m.2))
    (λ (old : Contains s.namespaces m.0 × (m.0.id ≡ id → ⊥)). (m.0, old.0, m.2))
    (members s.namespaces id (namespace_before s id) (before_of s id good) (λ n. opened n added root g) m.0 m.1)
  where
    here_in : Has (opened (namespace_before s id) added root g) d → Mapped s.namespaces d
    here_in h = ⊎_elim
        (λ (i : Contains (namespace_before s id).objects h.0). ⊎_elim
        (λ (there : Contains s.namespaces (namespace_before s id)). (namespace_before s id, there, (h.0, i, h.2)))
        (λ (is : namespace_before s id ≡ empty_namespace id). absurd (none_in h.0 (subst (λ (n : Namespace). Contains n.objects h.0) is i)))
        (before_of s id good).was)
        (λ (i : Contains added h.0). absurd (let from : s.next ≤ h.0.serial = (came.fresh h.0 i).0 in let is : h.0.serial ≡ d = h.2 in omega (arith, from, is, low)))
        (Contains-append_cases (namespace_before s id).objects added h.0 h.1)

pub code_open : (id root : ℕ) (g : Bool) (added : List Loaded) (all : List Namespace) (d v : ℕ) → Code all d v → Code (with_namespace id (λ n. opened n added root g) all) d v
code_open id root g added all d v c = by (list_any (has_id id) all)
  where
    still : (t : Bool) → Contains (if t then opened c.0 added root g else c.0).objects c.1
    still true = Contains-append_left c.0.objects added c.1 c.3
    still false = c.3

    by : (t : Bool) → Code (if t then map (changed_at id (λ n. opened n added root g)) all else all ++ opened (empty_namespace id) added root g ∷ []) d v
    by true = (changed_at id (λ n. opened n added root g) c.0, c.1, in_map (changed_at id (λ n. opened n added root g)) all c.0 c.2, still (has_id id c.0), c.4, c.5)
    by false = (c.0, c.1, Contains-append_left all (opened (empty_namespace id) added root g ∷ []) c.0 c.2, c.3, c.4, c.5)

pub code_unmap : (set : List ℕ) (all : List Namespace) (d v : ℕ) → (Contains set d → ⊥) → Code all d v → Code (filter is_left (map (gone_in set) all)) d v
code_unmap set all d v out c =
    let kept : Contains (gone_in set c.0).objects c.1 = in_filter (λ (o : Loaded). not (has set o.serial)) c.0.objects c.1 c.3 (ap not (none (has set c.1.serial) refl)) in
    (gone_in set c.0, c.1, in_filter is_left (map (gone_in set) all) (gone_in set c.0) (in_map (gone_in set) all c.0 c.2) (left_nonempty (gone_in set c.0) c.1.serial (c.1, kept, refl)), kept, c.4, c.5)
  where
    none : (t : Bool) → has set c.1.serial ≡ t → has set c.1.serial ≡ false
    none true e = absurd (out (subst (Contains set) c.4 (has_in set c.1.serial e)))
    none false e = e

-- a new grant leads to code
code_there : (s : State) (serial v : ℕ) (found : Option Loaded) → object_at s serial ≡ found → option_map_or (λ o. is_code_in o v) found false ≡ true → Code s.namespaces serial v
code_there s serial v (Some o) e code =
    let at = found_in (λ (q : Loaded). eqb q.serial serial) (mapped s) o e in
    let home = from_flat (λ (n : Namespace). n.objects) s.namespaces o at.0 in
    (home.0, o, home.1, home.2, eqb-true o.serial serial at.1, code)
code_there s serial v None e code = absurd (true≢false (sym code))

code_of : (s : State) (serial v : ℕ) (t : Bool) → eqb serial 0 ≡ t → (if t then is_linkers_page v else option_map_or (λ o. is_code_in o v) (object_at s serial) false) ≡ true
    → ((serial ≡ 0) × (is_linkers_page v ≡ true)) ⊎ Code s.namespaces serial v
code_of s serial v true e code = inl (eqb-true serial 0 e, code)
code_of s serial v false e code = inr (code_there s serial v (object_at s serial) refl code)

pub grant_enters : (s : State) (lazy : ℕ) (choice : Choice) → leads_to_code s lazy choice ≡ true → Enters s.namespaces choice (address s choice)
unfolding leads_to_code is_code_of address
grant_enters s lazy (Def serial index) code =
    code_of s serial _ (eqb serial 0) refl (and_parts _ _ code).0
grant_enters s lazy WeakZero code = refl
grant_enters s lazy Missing code = absurd (true≢false (sym code))

-- a lowered opening changes no object
pub code_lowered : (handle : ℕ) (all : List Namespace) (d v : ℕ) → Code all d v → Code (map (lowered_in handle) all) d v
code_lowered handle all d v c = (lowered_in handle c.0, c.1, in_map (lowered_in handle) all c.0 c.2, c.3, c.4, c.5)

pub no_zero : (s : State) → Good (core s) → (d v : ℕ) → Code s.namespaces d v → d ≡ 0 → ⊥
no_zero s good d v c e = let some : 1 ≤ c.1.serial = good.some c.0 c.1 (c.2, c.3) in let is : c.1.serial ≡ d = c.4 in omega (arith, some, is, e)

entering_law : Law Entering
unfolding loaded die lower unmap initialise
entering_law = record {
  starts = λ g there. absurd (none_in g there);
  opens = λ w s hart ask id root added ranges good enters opens came g there live m.
      enters_more s.namespaces (with_namespace id (λ n. opened n added root (is_global ask.flags)) s.namespaces) g.choice g.value (λ d h c. code_open id root (is_global ask.flags) added s.namespaces d g.value c)
      (enters g there live (mapped_before s id root (is_global ask.flags) added good came g.owner (good.grants_low g there) m));
  closes = λ s hart handle set good enters closes g there live m.
      enters_more s.namespaces (map (dying_in hart set) (map (lowered_in handle) s.namespaces)) g.choice g.value
      (λ d h c. code_by (dying_in hart set) (dying_object hart set) (leaves_dying hart set) (λ ns. refl) (map (lowered_in handle) s.namespaces) d g.value
      (code_lowered handle s.namespaces d g.value c))
      (enters g there live (mapped_back (lowered_in handle) (keeps_lowered handle) s.namespaces g.owner
      (mapped_back (dying_in hart set) (keeps_dying hart set) (map (lowered_in handle) s.namespaces) g.owner m)));
  unmaps = λ s hart set good enters may g there live m.
      let back = unmapped_back set s.namespaces g.owner m in
      enters_more s.namespaces (filter is_left (map (gone_in set) s.namespaces)) g.choice g.value
      (λ d h c. code_unmap set s.namespaces d g.value (λ (i : Contains set d). ⊎_elim
      (λ (e : d ≡ 0). no_zero s good d g.value c e)
      (λ (safe : Has back.0.0 d × Along s.closings back.0.2.0.serial d).
      back.1 (subst (λ (xs : List ℕ). Contains xs g.owner) may.whole (subst (Contains may.closing.set) back.0.2.2 (safe.1 may.closing may.there (subst (λ (xs : List ℕ). Contains xs d) (sym may.whole) i)))))
      (good.leads back.0.0 back.0.2.0 d (back.0.1, back.0.2.1) (inr (inr (g, there, sym back.0.2.2, live, h))))) c)
      (enters g there live back.0);
  grants = λ s number hart owner slot choice value good enters may g there live m. ⊎_elim
      (λ (h : Contains s.grants g). enters g h live m)
      (λ (e : record { number = number; hart = hart; owner = owner; slot = slot; choice = choice; value = value; standing = Open } ≡ g).
      subst (λ (q : Granting). Enters s.namespaces q.choice q.value) e (subst (Enters s.namespaces choice) (sym may.is) (grant_enters s _ choice may.may.code)))
      (Contains-push_cases s.grants (record { number = number; hart = hart; owner = owner; slot = slot; choice = choice; value = value; standing = Open }) g there);
  settles = λ s number standing good enters shut g there live m.
      let old = was_there number standing s.grants g there in
      subst (λ (v : ℕ). Enters s.namespaces g.choice v) old.2.value
      (subst (λ (q : Choice). Enters s.namespaces q old.0.value) old.2.choice (enters old.0 old.1 (old.2.live live) (subst (Mapped s.namespaces) (sym old.2.owner) m)));
  initialises = λ s object good enters g there live m.
      enters_more s.namespaces (map (ready_in object) s.namespaces) g.choice g.value
      (λ d h c. code_by (ready_in object) (ready_object object) (leaves_ready object) (λ ns. refl) s.namespaces d g.value c)
      (enters g there live (mapped_back (ready_in object) (keeps_ready object) s.namespaces g.owner m));
}
  where
    unmapped_back : (set : List ℕ) (all : List Namespace) (d : ℕ) → Mapped (filter is_left (map (gone_in set) all)) d → Mapped all d × (Contains set d → ⊥)
    unmapped_back set all d m = each_left set all (λ n. Has n d → Mapped all d × (Contains set d → ⊥))
        (λ ns there h. let was = stayed set ns h.0 h.1 in ((ns, there, (h.0, was.0, h.2)), λ (i : Contains set d). was.1 (subst (Contains set) (sym h.2) i)))
        m.0 m.1 m.2

pub enters_by : (s : State) (choice : Choice) (v : ℕ) → Enters s.namespaces choice v → EntersBy s choice v
enters_by s (Def serial index) v enters = ⊎_elim
    (λ (h : (serial ≡ 0) × (is_linkers_page v ≡ true)). inl h)
    (λ (c : Code s.namespaces serial v). inr (record { namespace = c.0; object = c.1; inside = record { there = c.2; inside = c.3 }; is = c.4; code = c.5 }))
    enters
enters_by s WeakZero v enters = enters
enters_by s Missing v enters = enters

pub slots_enter : LoadLaws → (m : Machine) (journal : List Event) → Lawful m journal → SlotsEnterCode (after journal)
slots_enter laws m journal lawful g there kept at =
    enters_by (after journal) g.choice g.value
    ((by_law laws Entering entering_law m journal lawful).1 g there (lives g.standing kept) (at.namespace, at.there, (at.object, at.inside, at.is)))
