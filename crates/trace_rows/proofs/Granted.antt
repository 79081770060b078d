-- What slots choose, and grants of them.
use Rattle.std.proofs.Common.{◌≡◌, ⊎_elim, ℕ, ◌+◌, ◌&&◌, Bool, true, false, not, eqb, List, [], ◌∷◌, ◌++◌, length, Option, Some, None, Ok, refl, sym, ap, subst, ◌∙◌, arith}
use Rattle.std.specs.Bool.{Decides}
use Rattle.std.specs.Prelude.{IsTrue, nat_lt}
use Rattle.std.specs.List.{Contains, filter, find, flat_map, list_all, slice_get}
use Rattle.std.proofs.lemmas.Bool.{and_parts, and_from, eq-eqb, eqb-true, ltb-true, ne_eqb, not-true, true≢false}
use Rattle.std.proofs.lemmas.Bool.Decides.{Decides-and, Decides-like}
use Rattle.std.proofs.lemmas.List.Elements.{All-contains, Contains-append_right}
use Rattle.elf_object.specs.Object.{names_own_symbols}
use Rattle.history_calls.specs.Lemmas.Unique.{both_found, not_both, same_slot}
use Rattle.history_event.specs.declared.event.Event.{Event}
use Rattle.history_event.specs.declared.state.Granting.{Granting}
use Rattle.history_journal.specs.Following.{machine_of}
use Rattle.history_state.specs.Addresses.{address, leads_to_code}
use Rattle.history_state.specs.After.{after}
use Rattle.history_state.specs.Allowed.{IsUnresolved, MayGrant}
use Rattle.history_state.specs.Grants.{is_open, is_open_standing}
use Rattle.history_state.specs.Laws.{AreApart}
use Rattle.history_state.specs.Legal.{Lawful}
use Rattle.history_state.specs.Lemmas.Lists.{any_in, at_in, first_or_later, found_in, from_filter, from_flat, here, in_any, in_filter, later, not_found}
use Rattle.history_state.specs.Objects.{has_object, object_at}
use Rattle.history_state.specs.Read.{ObjectsAreRead, WasRead}
use Rattle.history_state.specs.Setting.{Machine}
use Rattle.history_state.specs.Slots.{HasNoGrant, IsSlot, lazy_of}
use Rattle.history_state.specs.State.{State}
use Rattle.ld_base.specs.declared.linking.Choice.{Choice}
use Rattle.ld_base.specs.declared.linking.Loaded.{Loaded}
use Rattle.ld_base.specs.declared.object.Object.{Object}
use Rattle.ld_base.specs.declared.object.Reloc.{Reloc}
use Rattle.ld_base.specs.declared.parts.HashTable.{HashTable}
use Rattle.link_spaces.specs.ObjectHolders.Holders.{AllAccepted}
use Rattle.scope_rule.specs.Loading.{with_serial}
use Rattle.scope_rule.specs.declared.namespace.Namespace.{Namespace}
use Rattle.seg_image.specs.Accepted.{Accepted, IsPlace, IsSegment}
use Rattle.trace_replay.specs.Lists.{Lists}
use Rattle.trace_replay.specs.Shown.{IsHistory, IsShown}
use Rattle.trace_rows.specs.Slots.{Chooses, ChoosesOf, ComesOfSlot, IsSlotOf, IsUnboundTo}
use Rattle.trace_rows.specs.declared.rows.slots.SlotChoice.{SlotChoice}
use Rattle.trace_rows.proofs.Valued.{open_is}

-- ---- objects as they were read

abbrev pub ReadLaw : Type 0
ReadLaw = (m : Machine) (events : List Event) → Lawful m events → ObjectsAreRead m (after events)

abbrev pub ImageLaw : Type 0
ImageLaw = (bytes : List ℕ) (program : Bool) (o : Object) (table : HashTable) → (machine_of 0).verdict bytes program ≡ Ok (o, table) → Accepted o

abbrev pub NamesLaw : Type 0
NamesLaw = (bytes : List ℕ) (program : Bool) (o : Object) (table : HashTable) → (machine_of 0).verdict bytes program ≡ Ok (o, table) → IsTrue (names_own_symbols o)

pub read_in : ReadLaw → (l : Lists) → IsHistory l → (ns : Namespace) (o : Loaded) → Contains l.namespaces ns → Contains ns.objects o → WasRead (machine_of l.harts) o
read_in read l kept ns o there inside = read (machine_of l.harts) kept.past kept.shows.lawful ns o
    (record { there = subst (λ (nss : List Namespace). Contains nss ns) kept.shows.state.namespaces there; inside = inside })

pub all_accepted : ReadLaw → ImageLaw → (l : Lists) → IsHistory l → AllAccepted l.namespaces
all_accepted read image l kept ns o there inside = let was = read_in read l kept ns o there inside in image was.bytes was.program o.object o.table was.is

passes : (p : Reloc → Bool) (xs : List Reloc) (x : Reloc) → list_all p xs ≡ true → Contains xs x → p x ≡ true
passes p [] x all (i, lt, at) = absurd (omega (arith, lt))
passes p (y ∷ xs) x all inside =
    let parts = and_parts (p y) (list_all p xs) all in
    ⊎_elim (λ (same : y ≡ x). subst (λ (z : Reloc). p z ≡ true) same parts.0) (λ (rest : Contains xs x). passes p xs x parts.1 rest) (first_or_later y xs x inside)

pub slot_of : ReadLaw → ImageLaw → NamesLaw → (l : Lists) → IsHistory l → (owner slot : ℕ) (o : Loaded) (r : Reloc) → Some o ≡ with_serial (flat_map (λ (ns : Namespace). ns.objects) l.namespaces) owner
    → slice_get o.object.plt_relocs slot ≡ Some r → IsSlotOf o r
slot_of read image names l kept owner slot o r found at =
    let inside = (found_in (λ (p : Loaded). eqb p.serial owner) (flat_map (λ (ns : Namespace). ns.objects) l.namespaces) o (sym found)).0 in
    let ns = from_flat (λ (ns : Namespace). ns.objects) l.namespaces o inside in
    let was : WasRead (machine_of l.harts) o = read_in read l kept ns.0 o ns.1 ns.2 in
    let accepted : Accepted o.object = image was.bytes was.program o.object o.table was.is in
    let named : names_own_symbols o.object ≡ true = names was.bytes was.program o.object o.table was.is in
    let place : IsPlace o.object r.place = All-contains (λ (x : Reloc). IsPlace o.object x.place) o.object.plt_relocs r accepted.slots (at_in o.object.plt_relocs slot r at) in
    let seg : IsSegment place.writable.segment =
    All-contains IsSegment o.object.segments place.writable.segment accepted.segments (at_in o.object.segments place.writable.at place.writable.segment place.writable.is) in
    record {
      accepted = accepted;
      symbol = ltb-true r.symbol (length o.object.symbols)
          (passes (λ (x : Reloc). nat_lt x.symbol (length o.object.symbols)) (o.object.relocs ++ o.object.plt_relocs) r named
          (Contains-append_right o.object.relocs o.object.plt_relocs r (at_in o.object.plt_relocs slot r at)));
      low = omega (arith, seg.low, place.writable.high);
    }

-- ---- the slot that is found

-- the object of a slot is the one with its serial
slot_object : (s : State) → AreApart s → (owner slot : ℕ) (choice : Choice) → (x : IsSlot s owner slot choice) → object_at s owner ≡ Some x.object
slot_object s apart owner slot choice x =
    subst (λ n. object_at s n ≡ Some x.object) x.is (apart.found x.namespace x.object (record { there = x.there; inside = x.inside }))

pub not_home : (s : State) (l : Lists) (owner slot : ℕ) → IsShown s l → None ≡ find (has_object owner) l.namespaces → ComesOfSlot s owner slot None
not_home s l owner slot x none choice is =
    let there : Contains l.namespaces is.namespace = subst (λ (nss : List Namespace). Contains nss is.namespace) (sym x.namespaces) is.there in
    let has : has_object owner is.namespace ≡ true = in_any (λ (o : Loaded). eqb o.serial owner) is.namespace.objects is.object is.inside (eq-eqb is.object.serial owner is.is) in
    true≢false (sym has ∙ not_found (has_object owner) l.namespaces is.namespace (sym none) there)

found_at : (s : State) (l : Lists) (owner : ℕ) (found : Option Loaded) → IsShown s l → found ≡ with_serial (flat_map (λ (ns : Namespace). ns.objects) l.namespaces) owner → object_at s owner ≡ found
found_at s l owner found x is = ap (λ (nss : List Namespace). with_serial (flat_map (λ (ns : Namespace). ns.objects) nss) owner) (sym x.namespaces) ∙ sym is

pub not_mapped : (s : State) (l : Lists) (owner slot : ℕ) → AreApart s → IsShown s l → None ≡ with_serial (flat_map (λ (ns : Namespace). ns.objects) l.namespaces) owner → ComesOfSlot s owner slot None
not_mapped s l owner slot apart x none choice is = not_both (object_at s owner) is.object (found_at s l owner None x none) (slot_object s apart owner slot choice is)

pub not_slot : (s : State) (l : Lists) (owner slot : ℕ) (o : Loaded) → AreApart s → IsShown s l → Some o ≡ with_serial (flat_map (λ (ns : Namespace). ns.objects) l.namespaces) owner
    → None ≡ slice_get o.object.plt_relocs slot → ComesOfSlot s owner slot None
not_slot s l owner slot o apart x found none choice is =
    let same : is.object ≡ o = both_found (object_at s owner) is.object o (slot_object s apart owner slot choice is) (found_at s l owner (Some o) x found) in
    not_both (slice_get o.object.plt_relocs slot) is.reloc (sym none) (subst (λ (p : Loaded). slice_get p.object.plt_relocs slot ≡ Some is.reloc) same is.at)

pub is_slot : (s : State) (l : Lists) (owner slot : ℕ) (ns : Namespace) (o : Loaded) (r : Reloc) (chosen : SlotChoice) → AreApart s → IsShown s l → Some ns ≡ find (has_object owner) l.namespaces
    → Some o ≡ with_serial (flat_map (λ (m : Namespace). m.objects) l.namespaces) owner → slice_get o.object.plt_relocs slot ≡ Some r → ChoosesOf s ns o r chosen → Chooses s owner slot chosen
is_slot s l owner slot ns o r chosen apart x home found at chooses =
    let in_home = found_in (has_object owner) l.namespaces ns (sym home) in
    let one = any_in (λ (p : Loaded). eqb p.serial owner) ns.objects in_home.1 in
    let there : Contains s.namespaces ns = subst (λ (nss : List Namespace). Contains nss ns) x.namespaces in_home.0 in
    let at_one : object_at s one.0.serial ≡ Some one.0 = apart.found ns one.0 (record { there = there; inside = one.1 }) in
    let same : one.0 ≡ o = both_found (object_at s owner) one.0 o (subst (λ n. object_at s n ≡ Some one.0) (eqb-true one.0.serial owner one.2) at_one) (found_at s l owner (Some o) x found) in
    record {
      is_slot = record {
        namespace = ns;
        object = o;
        there = there;
        inside = subst (Contains ns.objects) same one.1;
        is = subst (λ (p : Loaded). p.serial ≡ owner) same (eqb-true one.0.serial owner one.2);
        reloc = r;
        at = at;
        chooses = chooses.choice;
      };
      value = chooses.value;
      code = chooses.code;
    }

-- ---- grants

pub none_open : (s : State) (l : Lists) (hart : ℕ) (none : Bool) → IsShown s l → none ≡ list_all (λ (g : Granting). not (eqb g.hart hart)) (filter is_open l.grants) → Decides none (HasNoGrant s hart)
none_open s l hart none x is =
    let at : none ≡ list_all (λ (g : Granting). not (eqb g.hart hart)) (filter is_open s.grants) = is ∙ ap (λ (gs : List Granting). list_all (λ (g : Granting). not (eqb g.hart hart)) (filter is_open gs)) x.grants in (
      (λ e g inside waits own.
          let has : Contains (filter is_open s.grants) g = in_filter is_open s.grants g inside (ap is_open_standing waits) in
          true≢false (sym (eq-eqb g.hart hart own) ∙ not-true (eqb g.hart hart) (each (filter is_open s.grants) g (sym at ∙ e) has))),
      (λ free. at ∙ all (filter is_open s.grants) (λ g has.
          let was = from_filter is_open s.grants g has in ap not (ne_eqb g.hart hart (free g was.0 (open_is g.standing was.1))))),
    )
  where
    each : (gs : List Granting) (g : Granting) → list_all (λ (h : Granting). not (eqb h.hart hart)) gs ≡ true → Contains gs g → not (eqb g.hart hart) ≡ true
    each [] g e (i, lt, eq) = absurd (omega (arith, lt))
    each (h ∷ gs) g e inside =
        let parts = and_parts (not (eqb h.hart hart)) (list_all (λ (q : Granting). not (eqb q.hart hart)) gs) e in
        ⊎_elim (λ (same : h ≡ g). subst (λ (q : Granting). not (eqb q.hart hart) ≡ true) same parts.0) (λ (rest : Contains gs g). each gs g parts.1 rest) (first_or_later h gs g inside)

    all : (gs : List Granting) → ((g : Granting) → Contains gs g → not (eqb g.hart hart) ≡ true) → list_all (λ (h : Granting). not (eqb h.hart hart)) gs ≡ true
    all [] f = refl
    all (h ∷ gs) f = and_from (not (eqb h.hart hart)) (list_all (λ (q : Granting). not (eqb q.hart hart)) gs) (f h (here h gs)) (all gs (λ g inside. f g (later h gs g inside)))

-- a slot that chooses something chooses what was found
same_choice : (s : State) → AreApart s → (owner slot : ℕ) (x : SlotChoice) (choice : Choice) → Chooses s owner slot x → (is : IsSlot s owner slot choice)
    → (x.choice ≡ choice) × (x.code ≡ leads_to_code s (lazy_of is) choice)
same_choice s apart owner slot x choice chosen is =
    let same = same_slot s apart owner slot x.choice choice chosen.is_slot is in
    (same.choice, chosen.code ∙ ap (λ (w : ℕ). leads_to_code s w x.choice) same.lazy ∙ ap (leads_to_code s (lazy_of is)) same.choice)

pub grants_so : (s : State) (l : Lists) (number hart owner slot : ℕ) (choice : Choice) (value : ℕ) (found : Option SlotChoice) (next none leads : Bool) → AreApart s → IsShown s l
    → ComesOfSlot s owner slot found → Decides next (number ≡ length l.grants + 1) → Decides none (HasNoGrant s hart)
    → Decides leads (found ≡ Some (record { choice = choice; value = value; code = true })) → Decides ((next && none) && leads) (MayGrant s number hart owner slot choice value)
grants_so s l number hart owner slot choice value found next none leads apart x comes numbered free is =
    Decides-like ((next && none) && leads)
    (λ (p : ((number ≡ length l.grants + 1) × HasNoGrant s hart) × (found ≡ Some (record { choice = choice; value = value; code = true }))).
    let chosen : Chooses s owner slot (record { choice = choice; value = value; code = true }) = subst (ComesOfSlot s owner slot) p.1 comes in
    record {
      numbered = p.0.0 ∙ ap (λ (gs : List Granting). length gs + 1) x.grants;
      free = p.0.1;
      may = record { is_slot = chosen.is_slot; code = sym chosen.code };
      is = chosen.value;
    })
    (λ (m : MayGrant s number hart owner slot choice value). ((m.numbered ∙ ap (λ (gs : List Granting). length gs + 1) (sym x.grants), m.free), by found comes m))
    (Decides-and (next && none) leads (Decides-and next none numbered free) is)
  where
    by : (f : Option SlotChoice) → ComesOfSlot s owner slot f → MayGrant s number hart owner slot choice value → f ≡ Some (record { choice = choice; value = value; code = true })
    by None isnt m = absurd (isnt choice m.may.is_slot)
    by (Some y) chosen m =
        let same = same_choice s apart owner slot y choice chosen m.may.is_slot in
        let one : y.value ≡ value = chosen.value ∙ ap (address s) same.0 ∙ sym m.is in
        let code : y.code ≡ true = same.1 ∙ m.may.code in
        λ i. Some (record { choice = same.0 i; value = one i; code = code i })

pub unbound_is : (x : SlotChoice) (choice : Choice) (b : Bool) → Decides b (x ≡ record { choice = choice; value = x.value; code = false }) → Decides b (IsUnboundTo (Some x) choice)
unbound_is x choice b is = (
  (λ e. record { value = x.value; is = ap (λ (y : SlotChoice). Some y) (is.0 e) }),
  (λ u.
      let one : x ≡ record { choice = choice; value = u.value; code = false } = let f : Some x ≡ Some (record { choice = choice; value = u.value; code = false }) = u.is in cc in
      let value : x.value ≡ u.value = ap (λ (y : SlotChoice). y.value) one in
      is.1 (one ∙ ap (λ (n : ℕ). record { choice = choice; value = n; code = false }) (sym value))),
)

pub unbound_so : (s : State) (hart owner slot : ℕ) (choice : Choice) (found : Option SlotChoice) (none leads : Bool) → AreApart s → ComesOfSlot s owner slot found → Decides none (HasNoGrant s hart)
    → Decides leads (IsUnboundTo found choice) → Decides (none && leads) (IsUnresolved s hart owner slot choice)
unbound_so s hart owner slot choice found none leads apart comes free is =
    Decides-like (none && leads)
    (λ (p : HasNoGrant s hart × IsUnboundTo found choice).
    let chosen : Chooses s owner slot (record { choice = choice; value = p.1.value; code = false }) = subst (ComesOfSlot s owner slot) p.1.is comes in
    record { free = p.0; may_not = record { is_slot = chosen.is_slot; code = sym chosen.code } })
    (λ (u : IsUnresolved s hart owner slot choice). (u.free, by found comes u))
    (Decides-and none leads free is)
  where
    by : (f : Option SlotChoice) → ComesOfSlot s owner slot f → IsUnresolved s hart owner slot choice → IsUnboundTo f choice
    by None isnt u = absurd (isnt choice u.may_not.is_slot)
    by (Some y) chosen u =
        let same = same_choice s apart owner slot y choice chosen u.may_not.is_slot in
        let code : y.code ≡ false = same.1 ∙ u.may_not.code in
        record { value = y.value; is = λ i. Some (record { choice = same.0 i; value = y.value; code = code i }) }
