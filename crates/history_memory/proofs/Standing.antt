-- Each slot of a mapped object has its address, and each open grant its slot.
use Rattle.std.proofs.Common.{◌≡◌, ⊎_elim, ℕ, ◌+◌, ◌-◌, ◌*◌, ◌%◌, ◌^◌, ◌<◌, ◌≤◌, List, [], ◌∷◌, ◌++◌, map, length, get_or, Some, refl, sym, ap, subst, ◌∙◌, arith}
use Rattle.std.specs.Prelude.{pos}
use Rattle.std.specs.List.{Contains, filter, slice_get}
use Rattle.std.proofs.lemmas.Option.{get_or_from_slice_get, slice_get-get_or, slice_get_within}
use Rattle.std.proofs.lemmas.List.Elements.{Contains-push_cases}
use Rattle.ld_base.specs.declared.linking.Choice.{Choice}
use Rattle.ld_base.specs.declared.linking.Loaded.{Loaded}
use Rattle.ld_base.specs.declared.object.Object.{Object}
use Rattle.ld_base.specs.declared.object.Reloc.{Reloc}
use Rattle.history_event.specs.declared.event.Event.{Event}
use Rattle.history_event.specs.declared.state.Granting.{Granting}
use Rattle.history_event.specs.declared.state.Standing.TheVariants as standings
use Rattle.scope_rule.specs.declared.namespace.Namespace.{Namespace}
use Rattle.seg_image.specs.Accepted.{IsPlace}
use Rattle.seg_image.specs.Pages.{IsInside, guest_address, low_of, pages_of}
use Rattle.history_state.specs.State.{Linked, State}
use Rattle.history_state.specs.Accepted.{IsAccepted}
use Rattle.history_state.specs.After.{after}
use Rattle.history_state.specs.Allowed.{MayGrant}
use Rattle.history_state.specs.Laws.{GrantsAreHeld, ImagesAreMapped, slot_address}
use Rattle.history_state.specs.Legal.{Lawful}
use Rattle.history_state.specs.Setting.{Machine}
use Rattle.history_state.specs.Slots.{IsSlot}
use Rattle.history_state.specs.Step.{die, dying_in, dying_object, gone_in, initialise, is_left, loaded, lower, lowered_in, ready_in, ready_object, unmap}
use Rattle.history_state.specs.Lemmas.Alone.{Alone, alone_law, one_object}
use Rattle.history_state.specs.Lemmas.AtLoad.{cases, was_old}
use Rattle.history_state.specs.Lemmas.Brought.{LoadLaws}
use Rattle.history_state.specs.Lemmas.Changed.{Leaves, leaves_dying, leaves_ready}
use Rattle.history_state.specs.Lemmas.Closed.{each_left, stayed}
use Rattle.history_state.specs.Lemmas.Good.{Good, core, each_mapped}
use Rattle.history_state.specs.Lemmas.Granted.{was_there}
use Rattle.history_state.specs.Lemmas.Lazy.{PageLaws}
use Rattle.history_state.specs.Lemmas.Lists.{from_map, none_in}
use Rattle.history_state.specs.Lemmas.Map.{Mapped, image_there, in_pages, own_at, placed, range_lies, start_at}
use Rattle.history_state.specs.Lemmas.Modular.{guest_of}
use Rattle.history_state.specs.Lemmas.Steps.{Law, by_law}
use Rattle.history_memory.specs.Holds.{IsSlotAt}
use Rattle.history_memory.specs.Memory.{IsDoubleword}
use Rattle.history_memory.specs.Remade.{HasSlot}
use Rattle.history_memory.proofs.Whole.{low_page}

-- ---- addresses

module _ (pages : PageLaws) (s : State) (m : Mapped s) (i : Linked) (there : Contains s.images i) (k : ℕ) (r : Reloc) (at : slice_get i.object.plt_relocs k ≡ Some r) where
  abbrev o : Object
  o = i.object

  abbrev A : ℕ
  A = start_at pages s m i there

  accepted : IsAccepted o
  accepted = m.accepted i there

  place : IsPlace o r.place
  place = subst (λ (q : Reloc). IsPlace o q.place) (get_or_from_slice_get o.plt_relocs k r r at) (accepted.image.slots k r (slice_get_within o.plt_relocs k r at))

  inside : IsInside o r.place
  inside =
      let low : place.writable.segment.vaddr ≤ r.place = place.writable.low in
      let high : r.place + 8 ≤ place.writable.segment.vaddr + place.writable.segment.memsz = place.writable.high in
      record { segment = place.writable.segment; at = place.writable.at; is = place.writable.is; low = low; high = omega (arith, high) }

  from : low_of o ≤ r.place
  from = pages.low o r.place accepted.image inside

  to : r.place < low_of o + 4096 * pages_of o
  to = pages.high o r.place accepted.image inside

  high : A + 4096 * pages_of o ≤ 0x80f000
  high = (placed pages s m i there).high

  stands : slot_address i r ≡ A + (r.place - low_of o)
  stands =
      let few : low_of o + 4096 * pages_of o < 2 ^ 33 = pages.few o accepted.image in
      let fit : A + 4096 * pages_of o ≤ 0x80f000 = high in
      ap (λ (b : ℕ). guest_address b r.place) (placed pages s m i there).base
      ∙ guest_of (low_of o) A r.place (4096 * pages_of o) (omega (arith, few)) (omega (arith, fit)) from to

  a_from : A ≤ slot_address i r
  a_from = let is = stands in omega (arith, is)

  a_to : slot_address i r < A + 4096 * pages_of o
  a_to = let is = stands in let low = from in let last = to in omega (arith, is, low, last)

  word : slot_address i r < 2 ^ 64
  word = let fit : A + 4096 * pages_of o ≤ 0x80f000 = high in let below = a_to in omega (arith, fit, below)

  pub slot_stands : IsSlotAt s (slot_address i r) i.serial k
  slot_stands = record {
    image = i;
    found = image_there pages s m i there (slot_address i r) word (in_pages pages s m i there (slot_address i r) a_from a_to);
    serial = refl;
    reloc = r;
    at = at;
    place = own_at pages s m i there (slot_address i r) a_from a_to ∙ (let is = stands in let low = from in omega (arith, is, low));
  }

  pub slot_is_doubleword : IsDoubleword (slot_address i r)
  slot_is_doubleword =
      let first : 0x10000 ≤ A = (placed pages s m i there).low in
      let fit : A + 4096 * pages_of o ≤ 0x80f000 = high in
      let low = low_page o in
      let page : low_of o ≡ 4096 * low.0 = low.1 in
      let some : 0 < (m.range i there).range.pages = (let all : (m.range i there).range.pages ≡ pages_of o = (m.range i there).pages in let below = a_to in let above = a_from in omega (arith, all, below, above)) in
      let lies = range_lies s.ranges m.apart (m.range i there).range (m.range i there).there some in
      let start : A ≡ 0x10000 + 4096 * lies.0 = lies.1 in
      let aligned : r.place % 8 ≡ 0 = place.aligned in
      let is : slot_address i r ≡ A + (r.place - low_of o) = stands in
      let above : A ≤ slot_address i r = a_from in
      let below : slot_address i r < A + 4096 * pages_of o = a_to in
      let behind : low_of o ≤ r.place = from in
      record { low = omega (arith, first, above); high = omega (arith, below, fit); whole = whole (slot_address i r) A (low_of o) r.place low.0 lies.0 page start aligned is behind }
    where
      whole : (a A low p l n : ℕ) → low ≡ 4096 * l → A ≡ 0x10000 + 4096 * n → p % 8 ≡ 0 → a ≡ A + (p - low) → low ≤ p → a % 8 ≡ 0
      whole a A low p l n page start aligned is behind = omega (arith, page, start, aligned, is, behind)

-- ---- grants

-- a grant is of a slot that its owner has
abbrev Slotted : List Namespace → List Granting → Type 0
Slotted all grants = (ns : Namespace) (o : Loaded) (g : Granting) → Contains all ns → Contains ns.objects o → Contains grants g → g.owner ≡ o.serial → g.slot < length o.object.plt_relocs

slotted_map : (change : Namespace → Namespace) (each : Loaded → Loaded) → Leaves each → ((ns : Namespace) → (change ns).objects ≡ map each ns.objects) → (all : List Namespace) (grants : List Granting)
    → Slotted all grants → Slotted (map change all) grants
slotted_map change each leaves is all grants slotted ms o g there inside granted = each_mapped change all
    (λ n. Contains n.objects o → g.owner ≡ o.serial → g.slot < length o.object.plt_relocs)
    (λ ns at h.
    let q = from_map each ns.objects o (subst (λ (os : List Loaded). Contains os o) (is ns) h) in
    subst (λ (p : Loaded). g.owner ≡ p.serial → g.slot < length p.object.plt_relocs) (sym (leaves q.0).1 ∙ q.2) (slotted ns q.0 g at q.1 granted))
    ms there inside

slotted_lowered : (handle : ℕ) (all : List Namespace) (grants : List Granting) → Slotted all grants → Slotted (map (lowered_in handle) all) grants
slotted_lowered handle all grants slotted ms o g there inside granted = each_mapped (lowered_in handle) all
    (λ n. Contains n.objects o → g.owner ≡ o.serial → g.slot < length o.object.plt_relocs)
    (λ ns at h. slotted ns o g at h granted) ms there inside

slotted_left : (set : List ℕ) (all : List Namespace) (grants : List Granting) → Slotted all grants → Slotted (filter is_left (map (gone_in set) all)) grants
slotted_left set all grants slotted ms o g there inside granted = each_left set all
    (λ n. Contains n.objects o → g.owner ≡ o.serial → g.slot < length o.object.plt_relocs)
    (λ ns at h. slotted ns o g at (stayed set ns o h).0 granted) ms there inside

slotted_grant : (s : State) → Good (core s) → Alone s.namespaces → (number hart owner slot : ℕ) (choice : Choice) (value : ℕ) → MayGrant s number hart owner slot choice value → Slotted s.namespaces s.grants
    → Slotted s.namespaces (s.grants ++ record { number = number; hart = hart; owner = owner; slot = slot; choice = choice; value = value; standing = standings.Open } ∷ [])
slotted_grant s good alone number hart owner slot choice value may slotted ns o g there inside granted of = ⊎_elim
    (λ (old : Contains s.grants g). slotted ns o g there inside old of)
    (λ (e : record { number = number; hart = hart; owner = owner; slot = slot; choice = choice; value = value; standing = standings.Open } ≡ g).
    let sl : IsSlot s owner slot choice = may.may.is_slot in
    let owner_is : owner ≡ o.serial = ap (λ (q : Granting). q.owner) e ∙ of in
    let object : sl.object ≡ o = one_object s good alone sl.namespace ns sl.object o sl.there sl.inside there inside (sl.is ∙ owner_is) in
    subst (λ (n : ℕ). n < length o.object.plt_relocs) (ap (λ (q : Granting). q.slot) e)
    (subst (λ (q : Loaded). slot < length q.object.plt_relocs) object (slice_get_within sl.object.object.plt_relocs slot sl.reloc sl.at)))
    (Contains-push_cases s.grants _ g granted)

slotted_law : Law (λ c. Alone c.namespaces × Slotted c.namespaces c.grants)
unfolding loaded die lower unmap initialise
slotted_law = record {
  starts = (alone_law.starts, λ ns o g there inside granted. absurd (none_in g granted));
  opens = λ w s hart ask id root added ranges good both opens came. (
    alone_law.opens w s hart ask id root added ranges good both.0 opens came,
    λ ns o g there inside granted of.
        let home = was_old s hart ask id root added ranges good came o (subst (λ (n : ℕ). n < s.next) of (good.grants_low g granted)) (cases s hart ask id root added ranges good came ns o there inside) in
        both.1 home.0 o g home.1 home.2 granted of,
  );
  closes = λ s hart handle set good both closes. (
    alone_law.closes s hart handle set good both.0 closes,
    slotted_map (dying_in hart set) (dying_object hart set) (leaves_dying hart set) (λ ns. refl) (map (lowered_in handle) s.namespaces) s.grants (slotted_lowered handle s.namespaces s.grants both.1),
  );
  unmaps = λ s hart set good both may. (alone_law.unmaps s hart set good both.0 may, slotted_left set s.namespaces s.grants both.1);
  grants = λ s number hart owner slot choice value good both may. (
    alone_law.grants s number hart owner slot choice value good both.0 may,
    slotted_grant s good both.0 number hart owner slot choice value may both.1,
  );
  settles = λ s number standing good both shut. (
    both.0,
    λ ns o g there inside granted of.
        let old = was_there number standing s.grants g granted in
        subst (λ (n : ℕ). n < length o.object.plt_relocs) old.2.slot (both.1 ns o old.0 there inside old.1 (old.2.owner ∙ of)),
  );
  initialises = λ s object good both. (
    alone_law.initialises s object good both.0,
    slotted_map (ready_in object) (ready_object object) (leaves_ready object) (λ ns. refl) s.namespaces s.grants both.1,
  );
}

pub granted_slots : LoadLaws → PageLaws → (m : Machine) (events : List Event) → Lawful m events → Mapped (after events) → ImagesAreMapped (after events) → GrantsAreHeld (after events)
    → (g : Granting) → Contains (after events).grants g → g.standing ≡ standings.Open → HasSlot (after events) g
granted_slots loads pages m events lawful mapped images held g there open_yet =
    let s : State = after events in
    let home = (held g there open_yet).owner in
    let within : g.slot < length home.object.object.plt_relocs = (by_law loads _ slotted_law m events lawful).1.1 home.namespace home.object g home.there home.inside there (sym home.is) in
    let image = images.mapped home.namespace home.object (record { there = home.there; inside = home.inside }) in
    let d : Reloc = record { place = 0; kind = 0; symbol = 0; addend = pos 0 } in
    let r : Reloc = get_or home.object.object.plt_relocs g.slot d in
    let at : slice_get image.image.object.plt_relocs g.slot ≡ Some r = subst (λ (x : Object). slice_get x.plt_relocs g.slot ≡ Some r) (sym image.object) (slice_get-get_or home.object.object.plt_relocs g.slot d within) in (
      slot_address image.image r,
      record {
        place = slot_is_doubleword pages s mapped image.image image.there g.slot r at;
        there = there;
        open_yet = open_yet;
        of = subst (λ (n : ℕ). IsSlotAt s (slot_address image.image r) n g.slot) (image.serial ∙ home.is) (slot_stands pages s mapped image.image image.there g.slot r at);
      },
    )
