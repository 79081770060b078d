-- What slots got at load is code, as long as their object is mapped.
use Rattle.std.proofs.Common.{◌≡◌, ◌⊎◌, inl, inr, ⊎_elim, ℕ, zero, suc, ◌+◌, ◌<◌, ◌≤◌, Bool, true, false, not, eqb, List, [], ◌∷◌, ◌++◌, map, length, Option, Some, None, refl, sym, ap, subst, ◌∙◌, arith}
use Rattle.std.specs.Prelude.{if◌then◌else◌}
use Rattle.std.specs.List.{Contains, filter, find, slice_get}
use Rattle.std.specs.Option.{option_and_then, option_map, option_or}
use Rattle.std.proofs.lemmas.Bool.{and_parts, eqb-true, eq-eqb, not-true, true≢false}
use Rattle.std.proofs.lemmas.List.{length-map}
use Rattle.std.proofs.lemmas.List.Elements.{Contains-append_cases}
use Rattle.ld_base.specs.declared.fault.DlFault.{DlFault}
use Rattle.ld_base.specs.declared.linking.Choice.{Choice}
use Rattle.ld_base.specs.declared.linking.Choice.TheVariants.{Def, WeakZero, Missing}
use Rattle.ld_base.specs.declared.linking.Loaded.{Loaded}
use Rattle.ld_base.specs.declared.object.Reloc.{Reloc}
use Rattle.history_event.specs.declared.event.Event.{Event}
use Rattle.history_event.specs.declared.event.OpenAsk.{OpenAsk}
use Rattle.history_event.specs.declared.event.Range.{Range}
use Rattle.history_event.specs.declared.state.Chosen.{Chosen}
use Rattle.history_event.specs.declared.state.Closing.{Closing}
use Rattle.scope_rule.specs.Opening.{opened}
use Rattle.scope_rule.specs.Relocation.{choice_at}
use Rattle.scope_rule.specs.Seen.{Seen}
use Rattle.scope_rule.specs.declared.namespace.Namespace.{Namespace}
use Rattle.history_state.specs.State.{State, empty_namespace}
use Rattle.history_state.specs.Addresses.{address, leads_to_code}
use Rattle.history_state.specs.After.{after}
use Rattle.history_state.specs.Bound.{binds_now, chosen_of, lazy_word, reloc_choices, slot_choice, slot_choices}
use Rattle.history_state.specs.Flags.{is_global}
use Rattle.history_state.specs.Grants.{chosen_target, target_of}
use Rattle.history_state.specs.Laws.{LoadsEnterCode}
use Rattle.history_state.specs.Legal.{Lawful}
use Rattle.history_state.specs.Objects.{has, serial_of}
use Rattle.history_state.specs.Opening.{OpensName, refused}
use Rattle.history_state.specs.Relocating.{first_fault, is_missing, missing_symbol, not_code, object_fault, relocation_fault, slot_fault, slot_fault_by}
use Rattle.history_state.specs.Setting.{Machine, Setting}
use Rattle.history_state.specs.Slots.{value_at_load}
use Rattle.history_state.specs.Step.{binds, die, dying_in, dying_object, gone_in, initialise, is_left, loaded, lower, lowered_in, namespace_before, ready_in, ready_object, seen_after, unmap, with_namespace}
use Rattle.history_state.specs.Lemmas.Lists.{at_in, first_or_later, found_in, from_map, in_flat, none_in, only_in}
use Rattle.history_state.specs.Lemmas.Good.{Along, Good, Has, core, each_mapped}
use Rattle.history_state.specs.Lemmas.Changed.{Leaves, leaves_dying, leaves_ready}
use Rattle.history_state.specs.Lemmas.Closed.{each_left, fewer_chosen, stayed}
use Rattle.history_state.specs.Lemmas.Opened.{before_of, members}
use Rattle.history_state.specs.Lemmas.Arrived.{Arrived, old_in}
use Rattle.history_state.specs.Lemmas.Brought.{LoadLaws}
use Rattle.history_state.specs.Lemmas.Entering.{Code, Enters, code_by, code_lowered, code_open, code_unmap, enters_by, enters_more, grant_enters, no_zero}
use Rattle.history_state.specs.Lemmas.Steps.{Law, by_law}

-- ---- places of lists

get_behind : {X : Type 0} (xs ys : List X) (k i : ℕ) → i ≡ length xs + k → slice_get (xs ++ ys) i ≡ slice_get ys k
get_behind [] ys k i e = let same : i ≡ k = omega (arith, e) in ap (slice_get ys) same
get_behind (x ∷ xs) ys k zero e = absurd (omega (arith, e))
get_behind (x ∷ xs) ys k (suc i) e = get_behind xs ys k i (omega (arith, e))

pub get_map : {X Y : Type 0} (f : X → Y) (xs : List X) (k : ℕ) (y : Y) → slice_get (map f xs) k ≡ Some y → (x : X) × (slice_get xs k ≡ Some x) × (f x ≡ y)
get_map {X} {Y} f [] k y e = absurd (let d : None ≡ Some y = e in cc)
get_map {X} {Y} f (x ∷ xs) zero y e = let same : f x ≡ y = cc in (x, refl, same)
get_map f (x ∷ xs) (suc k) y e = get_map f xs k y e

-- ---- no relocation is refused

pub first_none : {X : Type 0} (fault : X → Option DlFault) (xs : List X) → first_fault fault xs ≡ None → (x : X) → Contains xs x → fault x ≡ None
first_none fault [] none x h = absurd (none_in x h)
first_none {X} fault (y ∷ xs) none x h = at (λ n i. first_none fault xs n x i) (fault y) refl none
  where
    at : (first_fault fault xs ≡ None → Contains xs x → fault x ≡ None) → (f : Option DlFault) → fault y ≡ f → option_or f (first_fault fault xs) ≡ None → fault x ≡ None
    at again (Some why) e n = absurd (let d : Some why ≡ None = n in cc)
    at again None e n = ⊎_elim (λ (same : y ≡ x). sym (ap fault same) ∙ e) (λ (i : Contains xs x). again n i) (first_or_later y xs x h)

pub second_none : (f g : Option DlFault) → option_or f g ≡ None → g ≡ None
second_none (Some why) g e = absurd (let d : Some why ≡ None = e in cc)
second_none None g e = e

-- a slot that is bound at load leads to code
leads : (s : State) (o : Loaded) (r : Reloc) (choice : Choice) → slot_fault_by s o r choice ≡ None → leads_to_code s (lazy_word o r) choice ≡ true
leads s o r choice none = at (is_missing choice) (leads_to_code s (lazy_word o r) choice) refl none
  where
    at : (missing code : Bool) → leads_to_code s (lazy_word o r) choice ≡ code → (if missing then Some (missing_symbol o r) else if not code then Some (not_code o r) else None) ≡ None → leads_to_code s (lazy_word o r) choice ≡ true
    at true code e n = absurd (let d : Some (missing_symbol o r) ≡ None = n in cc)
    at false true e n = e
    at false false e n = absurd (let d : Some (not_code o r) ≡ None = n in cc)

pub slots_lead : (s : State) (ns : Seen) (now : Bool) (added : List Loaded) → relocation_fault s ns now added ≡ None → (o : Loaded) (r : Reloc) → Contains added o → Contains o.object.plt_relocs r
    → binds_now now o.object ≡ true → leads_to_code s (lazy_word o r) (choice_at ns o r) ≡ true
unfolding relocation_fault
slots_lead s ns now added none o r new inside binds =
    let object : object_fault s ns now o ≡ None = first_none (object_fault s ns now) added none o new in
    let slots : first_fault (slot_fault s ns now o) o.object.plt_relocs ≡ None = second_none _ _ object in
    let slot : slot_fault s ns now o r ≡ None = first_none (slot_fault s ns now o) o.object.plt_relocs slots r inside in
    leads s o r (choice_at ns o r) (subst (λ (b : Bool). (if b then slot_fault_by s o r (choice_at ns o r) else None) ≡ None) binds slot)

-- ---- the invariant

-- the value of a slot is that of a choice, which enters code, and no value but 0 is what the slot holds until it is bound
pub record LoadOf (all : List Namespace) (k : Chosen) (o : Loaded) (slot v : ℕ) : Type 0 where
  pub choice : Choice
  pub chose : slice_get k.choices (length o.object.relocs + slot) ≡ Some (Some choice)
  pub enters : Enters all choice v
  pub lazy : (r : Reloc) → slice_get o.object.plt_relocs slot ≡ Some r → v ≡ lazy_word o r → v ≡ 0

abbrev pub LoadsIn : List Namespace → List Chosen → Type 0
LoadsIn all chosen = (ns : Namespace) (o : Loaded) (k : Chosen) (slot v : ℕ) → Contains all ns → Contains ns.objects o → Contains chosen k → k.owner ≡ o.serial
    → slice_get k.values slot ≡ Some (Some v) → LoadOf all k o slot v

more_load : (all more : List Namespace) (k : Chosen) (o : Loaded) (slot v : ℕ) → ((choice : Choice) → slice_get k.choices (length o.object.relocs + slot) ≡ Some (Some choice) → Enters all choice v → Enters more choice v)
    → LoadOf all k o slot v → LoadOf more k o slot v
more_load all more k o slot v keeps load = record { choice = load.choice; chose = load.chose; enters = keeps load.choice load.chose load.enters; lazy = load.lazy }

-- a choice that is code differs from the lazy word, or is 0
pub not_lazy : (s : State) (lazy : ℕ) (choice : Choice) → leads_to_code s lazy choice ≡ true → address s choice ≡ lazy → address s choice ≡ 0
unfolding leads_to_code address
not_lazy s lazy (Def serial index) code same =
    absurd (true≢false (sym (eq-eqb _ _ same) ∙ not-true _ (and_parts _ _ code).1))
not_lazy s lazy WeakZero code same = refl
not_lazy s lazy Missing code same = absurd (true≢false (sym code))

-- what a new object got
new_load : (s : State) (ns : Seen) (now : Bool) (added : List Loaded) → relocation_fault s ns now added ≡ None → (o : Loaded) → Contains added o → (slot v : ℕ)
    → slice_get (chosen_of s ns now o).values slot ≡ Some (Some v) → LoadOf s.namespaces (chosen_of s ns now o) o slot v
new_load s ns now added none o new slot v at =
    let value = get_map (option_map (address s)) (slot_choices ns now o) slot (Some v) at in
    let reloc = get_map (slot_choice ns now o) o.object.plt_relocs slot value.0 value.1 in
    by value.0 (binds_now now o.object) refl reloc.0 reloc.1 reloc.2 value.1 value.2
  where
    by : (found : Option Choice) (b : Bool) → binds_now now o.object ≡ b → (r : Reloc) → slice_get o.object.plt_relocs slot ≡ Some r → (if b then Some (choice_at ns o r) else None) ≡ found
        → slice_get (slot_choices ns now o) slot ≡ Some found → option_map (address s) found ≡ Some v → LoadOf s.namespaces (chosen_of s ns now o) o slot v
    by None b e r there is chose value = absurd (let d : None ≡ Some v = value in cc)
    by (Some choice) false e r there is chose value = absurd (let d : None ≡ Some choice = is in cc)
    by (Some choice) true e r there is chose value =
        let chosen_is : choice_at ns o r ≡ choice = cc in
        let value_is : address s choice ≡ v = cc in
        let code : leads_to_code s (lazy_word o r) choice ≡ true =
        subst (λ (c : Choice). leads_to_code s (lazy_word o r) c ≡ true) chosen_is (slots_lead s ns now added none o r new (at_in o.object.plt_relocs slot r there) e) in
        record {
          choice = choice;
          chose = get_behind (reloc_choices ns o) (slot_choices ns now o) slot (length o.object.relocs + slot)
              (ap (λ (n : ℕ). n + slot) (sym (length-map o.object.relocs (λ (q : Reloc). Some (choice_at ns o q))))) ∙ chose;
          enters = subst (Enters s.namespaces choice) value_is (grant_enters s (lazy_word o r) choice code);
          lazy = λ q at' same.
              let is_r : Some r ≡ Some q = sym there ∙ at' in
              let one : r ≡ q = cc in
              sym value_is ∙ not_lazy s (lazy_word o r) choice code (value_is ∙ same ∙ ap (lazy_word o) (sym one));
        }

pub opens_none : (w : Setting) (s : State) (hart : ℕ) (ask : OpenAsk) (id root : ℕ) (added : List Loaded) (ranges : List Range) (name : Option (List ℕ)) → OpensName w s hart ask name id root added ranges
    → refused s hart ask id root added ranges ≡ None
unfolding relocation_fault
opens_none w s hart ask id root added ranges (Some name) loads = loads.relocated
opens_none w s hart ask id root added ranges None program =
    subst (λ (os : List Loaded). relocation_fault (loaded s hart ask id root os ranges) (seen_after s ask id root os) (binds s ask) os ≡ None) (sym program.none) refl

-- ---- the law

-- changes in place
loads_map : (change : Namespace → Namespace) (each : Loaded → Loaded) → Leaves each → ((ns : Namespace) → (change ns).objects ≡ map each ns.objects) → (all : List Namespace) (chosen : List Chosen)
    → LoadsIn all chosen → LoadsIn (map change all) chosen
loads_map change each leaves is all chosen loads ms o k slot v there inside chose owner at = each_mapped change all (λ n. Contains n.objects o → LoadOf (map change all) k o slot v)
    (λ ns home h.
    let q = from_map each ns.objects o (subst (λ (os : List Loaded). Contains os o) (is ns) h) in
    let serial : k.owner ≡ q.0.serial = owner ∙ ap serial_of (sym q.2 ∙ (leaves q.0).1) in
    let was : LoadOf all k q.0 slot v = loads ns q.0 k slot v home q.1 chose serial at in
    let now : LoadOf (map change all) k q.0 slot v = more_load all (map change all) k q.0 slot v (λ choice e. enters_more all (map change all) choice v (λ d i. code_by change each leaves is all d v)) was in
    subst (λ (p : Loaded). LoadOf (map change all) k p slot v) (sym (leaves q.0).1 ∙ q.2)
    (record { choice = now.choice; chose = now.chose; enters = now.enters; lazy = now.lazy }))
    ms there inside

loads_lowered : (handle : ℕ) (all : List Namespace) (chosen : List Chosen) → LoadsIn all chosen → LoadsIn (map (lowered_in handle) all) chosen
loads_lowered handle all chosen loads ms o k slot v there inside chose owner at = each_mapped (lowered_in handle) all (λ n. Contains n.objects o → LoadOf (map (lowered_in handle) all) k o slot v)
    (λ ns home h. more_load all (map (lowered_in handle) all) k o slot v (λ choice e. enters_more all (map (lowered_in handle) all) choice v (λ d i. code_lowered handle all d v)) (loads ns o k slot v home h chose owner at))
    ms there inside

module _ (s : State) (hart : ℕ) (ask : OpenAsk) (id root : ℕ) (added : List Loaded) (ranges : List Range) (good : Good (core s)) (came : Arrived (core s) (namespace_before s id) added root) where
  abbrev b : Namespace
  b = namespace_before s id

  abbrev after_load : State
  after_load = loaded s hart ask id root added ranges

  abbrev seen : Seen
  seen = seen_after s ask id root added

  abbrev all : List Namespace
  all = with_namespace id (λ n. opened n added root (is_global ask.flags)) s.namespaces

  abbrev pub Old : Loaded → Type 0
  Old o = (ms : Namespace) × Contains s.namespaces ms × Contains ms.objects o

  -- an object is an old one or a new one
  pub cases : (ns : Namespace) (o : Loaded) → Contains all ns → Contains ns.objects o → Old o ⊎ Contains added o
  cases ns o there inside = ⊎_elim
      (λ (is : ns ≡ opened b added root (is_global ask.flags)). ⊎_elim
      (λ (i : Contains b.objects o). inl (b, old_in (core s) good id root (is_global ask.flags) added b (before_of s id good) came o i, i))
      (λ (i : Contains added o). inr i)
      (Contains-append_cases b.objects added o (subst (λ (n : Namespace). Contains n.objects o) is inside)))
      (λ (old : Contains s.namespaces ns × (ns.id ≡ id → ⊥)). inl (ns, old.0, inside))
      (members s.namespaces id b (before_of s id good) (λ n. opened n added root (is_global ask.flags)) ns there)

  pub was_old : (o : Loaded) → o.serial < s.next → Old o ⊎ Contains added o → Old o
  was_old o low (inl old) = old
  was_old o low (inr new) = absurd (let from : s.next ≤ o.serial = (came.fresh o new).0 in omega (arith, from, low))

  pub was_new : (a o : Loaded) → Contains added a → a.serial ≡ o.serial → Old o ⊎ Contains added o → a ≡ o
  was_new a o i serial (inl old) =
      absurd (let from : s.next ≤ a.serial = (came.fresh a i).0 in let low : o.serial < s.next = good.low old.0 o (old.1, old.2) in omega (arith, from, low, serial))
  was_new a o i serial (inr new) = came.one a o i new serial

  loads_open : refused s hart ask id root added ranges ≡ None → LoadsIn s.namespaces s.chosen → LoadsIn all (s.chosen ++ map (chosen_of after_load seen (binds s ask)) added)
  unfolding loaded
  loads_open none loads ns o k slot v there inside chose owner at = ⊎_elim
      (λ (i : Contains s.chosen k).
      let home = was_old o (subst (λ (n : ℕ). n < s.next) owner (good.chosen_low k i)) (cases ns o there inside) in
      more_load s.namespaces all k o slot v (λ choice e. enters_more s.namespaces all choice v (λ d j. code_open id root (is_global ask.flags) added s.namespaces d v))
      (loads home.0 o k slot v home.1 home.2 i owner at))
      (λ (i : Contains (map (chosen_of after_load seen (binds s ask)) added) k).
      let from = from_map (chosen_of after_load seen (binds s ask)) added k i in
      let serial : from.0.serial ≡ o.serial = ap (λ (c : Chosen). c.owner) from.2 ∙ owner in
      let same : from.0 ≡ o = was_new from.0 o from.1 serial (cases ns o there inside) in
      subst (λ (c : Chosen). LoadOf all c o slot v) from.2 (subst (λ (q : Loaded). LoadOf all (chosen_of after_load seen (binds s ask) from.0) q slot v) same
      (new_load after_load seen (binds s ask) added none from.0 from.1 slot v (subst (λ (c : Chosen). slice_get c.values slot ≡ Some (Some v)) (sym from.2) at))))
      (Contains-append_cases s.chosen (map (chosen_of after_load seen (binds s ask)) added) k chose)

abbrev gone : List ℕ → State → List Namespace
gone set s = filter is_left (map (gone_in set) s.namespaces)

loads_unmap : (s : State) (hart : ℕ) (set : List ℕ) → Good (core s) → (closing : Closing) → Contains s.closings closing → closing.set ≡ set → LoadsIn s.namespaces s.chosen
    → LoadsIn (filter is_left (map (gone_in set) s.namespaces)) (filter (λ c. not (has set c.owner)) s.chosen)
loads_unmap s hart set good closing there_k whole loads ms o k slot v there inside chose owner at = each_left set s.namespaces (λ n. Contains n.objects o → LoadOf (gone set s) k o slot v)
    (λ ns home h.
    let was = stayed set ns o h in
    let old = fewer_chosen s.chosen set k chose in
    more_load s.namespaces (gone set s) k o slot v (λ choice e. enters_more s.namespaces (gone set s) choice v (λ d i c. code_unmap set s.namespaces d v (stays ns home was.0 was.1 old choice e d i c) c))
    (loads ns o k slot v home was.0 old owner at))
    ms there inside
  where
    stays : (ns : Namespace) → Contains s.namespaces ns → Contains ns.objects o → (Contains set o.serial → ⊥) → Contains s.chosen k → (choice : Choice)
        → slice_get k.choices (length o.object.relocs + slot) ≡ Some (Some choice) → (d : ℕ) → Contains (target_of choice) d → Code s.namespaces d v → Contains set d → ⊥
    stays ns home in_ns out old choice e d i c set_d = ⊎_elim
        (λ (zero_is : d ≡ 0). no_zero s good d v c zero_is)
        (λ (safe : Has ns d × Along s.closings o.serial d).
        out (subst (λ (xs : List ℕ). Contains xs o.serial) whole (safe.1 closing there_k (subst (λ (xs : List ℕ). Contains xs d) (sym whole) set_d))))
        (good.leads ns o d (home, in_ns) (inr (inl (k, old, owner, in_flat chosen_target k.choices (Some choice) d (at_in k.choices (length o.object.relocs + slot) (Some choice) e) i))))

loads_law : Law (λ c. LoadsIn c.namespaces c.chosen)
unfolding loaded die lower unmap initialise
loads_law = record {
  starts = λ ns o k slot v there inside. absurd (none_in o (subst (λ (n : Namespace). Contains n.objects o) (sym (only_in (empty_namespace 0) ns there)) inside));
  opens = λ w s hart ask id root added ranges good loads may came. loads_open s hart ask id root added ranges good came (opens_none w s hart ask id root added ranges ask.name may.name) loads;
  closes = λ s hart handle set good loads closes.
      loads_map (dying_in hart set) (dying_object hart set) (leaves_dying hart set) (λ ns. refl) (map (lowered_in handle) s.namespaces) s.chosen (loads_lowered handle s.namespaces s.chosen loads);
  unmaps = λ s hart set good loads may. loads_unmap s hart set good may.closing may.there may.whole loads;
  grants = λ s number hart owner slot choice value good loads may. loads;
  settles = λ s number standing good loads shut. loads;
  initialises = λ s object good loads. loads_map (ready_in object) (ready_object object) (leaves_ready object) (λ ns. refl) s.namespaces s.chosen loads;
}

pub loads_after : LoadLaws → (m : Machine) (journal : List Event) → Lawful m journal → LoadsIn (after journal).namespaces (after journal).chosen
loads_after laws m journal lawful = (by_law laws (λ c. LoadsIn c.namespaces c.chosen) loads_law m journal lawful).1

-- the value of a slot at load is one of what its object chose
pub chosen_at : (s : State) (owner slot v : ℕ) → value_at_load s owner slot ≡ Some v → (k : Chosen) × Contains s.chosen k × (k.owner ≡ owner) × (slice_get k.values slot ≡ Some (Some v))
chosen_at s owner slot v e = at (find (λ c. eqb c.owner owner) s.chosen) refl e
  where
    value : (found : Option (Option ℕ)) → option_and_then (λ x. x) found ≡ Some v → found ≡ Some (Some v)
    value None h = absurd (let d : None ≡ Some v = h in cc)
    value (Some x) h = ap (λ (y : Option ℕ). Some y) h

    at : (found : Option Chosen) → find (λ c. eqb c.owner owner) s.chosen ≡ found → option_and_then (λ c. option_and_then (λ x. x) (slice_get c.values slot)) found ≡ Some v
        → (k : Chosen) × Contains s.chosen k × (k.owner ≡ owner) × (slice_get k.values slot ≡ Some (Some v))
    at None is h = absurd (let d : None ≡ Some v = h in cc)
    at (Some k) is h = let found = found_in (λ (c : Chosen). eqb c.owner owner) s.chosen k is in (k, found.0, eqb-true k.owner owner found.1, value (slice_get k.values slot) h)

pub loads_enter : LoadLaws → (m : Machine) (journal : List Event) → Lawful m journal → LoadsEnterCode (after journal)
loads_enter laws m journal lawful ns o slot value inside at =
    let k = chosen_at (after journal) o.serial slot value at in
    let load = loads_after laws m journal lawful ns o k.0 slot value inside.there inside.inside k.1 k.2 k.3 in
    record { chosen = k.0; there = k.1; owner = k.2; choice = load.choice; chose = load.chose; enters = enters_by (after journal) load.choice value load.enters }
