-- A grant is made, and posted.
use Rattle.std.proofs.Common.{◌≡◌, ◌≢◌, ⊎_elim, inl, inr, ℕ, suc, ◌+◌, ◌-◌, ◌*◌, ◌/◌, ◌^◌, ◌<◌, ◌≤◌, true, eqb, List, [], ◌∷◌, ◌++◌, length, length-append, take, drop, Some, refl, sym, ap, subst, ◌∙◌, append-nil, arith}
use Rattle.std.specs.List.{Contains, slice_get}
use Rattle.std.proofs.lemmas.Bool.{eqb-true}
use Rattle.std.proofs.lemmas.List.{length-map, take-append-drop}
use Rattle.std.proofs.lemmas.List.Elements.{Contains-append_right}
use Rattle.ld_base.specs.declared.linking.Choice.{Choice}
use Rattle.ld_base.specs.declared.linking.Role.TheVariants.{Rx, Slot}
use Rattle.ld_base.specs.declared.object.Reloc.{Reloc}
use Rattle.history_event.specs.declared.event.CloseAnswer.TheVariants as closes
use Rattle.history_event.specs.declared.event.Event.{Event}
use Rattle.history_event.specs.declared.event.Event.TheVariants as events
use Rattle.history_event.specs.declared.event.OpenAnswer.TheVariants as opens
use Rattle.history_event.specs.declared.event.SymAnswer.TheVariants as syms
use Rattle.history_event.specs.declared.state.Granting.{Granting}
use Rattle.history_event.specs.declared.state.Standing.TheVariants.{Lost, Open}
use Rattle.relocator.specs.Relocated.{moved_word}
use Rattle.word_rule.specs.declared.entry.Grant.{Grant}
use Rattle.word_rule.specs.declared.view.KeeperView.{KeeperView}
use Rattle.word_rule.specs.Allowed.{IsOf, IsPostable, IsSlot, LeadsTo}
use Rattle.word_rule.specs.KeeperSteps.{Waits}
use Rattle.word_rule.specs.Layout.{address_of, doublewords, harts_at_most, place_of}
use Rattle.word_rule.specs.Views.{kept_at}
use Rattle.word_steps.specs.Knowing.{counted}
use Rattle.slot_bind.specs.Grants.{MayPost, grant_of}
use Rattle.history_state.specs.After.{after}
use Rattle.history_state.specs.Laws.{ImagesAreMapped, NoneIsLazy, SlotsBegin, SlotsLeadToRx, slot_address}
use Rattle.history_state.specs.Legal.{Lawful}
use Rattle.history_state.specs.Memory.{role_at}
use Rattle.history_state.specs.Objects.{IsMapped}
use Rattle.history_state.specs.Setting.{Machine, Setting}
use Rattle.history_state.specs.State.{Linked, State}
use Rattle.history_state.specs.Step.{die, initialise, loaded, lower, step, unmap}
use Rattle.history_state.specs.Lemmas.History.{after_push, after_take, legal_is_lawful, one_behind}
use Rattle.history_state.specs.Lemmas.Lists.{found_in, here}
use Rattle.history_state.specs.Lemmas.Map.{Mapped}
use Rattle.history_memory.specs.Holds.{IsSlotAt, lazy_at}
use Rattle.history_memory.specs.Memory.{IsDoubleword, doubleword_of}
use Rattle.history_memory.specs.Lemmas.Exchanged.{fits}
use Rattle.history_memory.specs.Lemmas.Slots.{image_in, lazy_is as slot_lazy, loaded_at, one_address, role_is}
use Rattle.hart_moves.specs.Harts.{Offered}
use Rattle.kept_words.specs.Handed.{IsGrantEntry}
use Rattle.kept_words.specs.Kept.{AreKept}
use Rattle.kept_words.specs.Posted.{Posts}
use Rattle.kept_words.specs.Posting.{IsNew, NewGrant, event_of, granting_of, offer_behind}
use Rattle.kept_words.specs.Staying.{number_by, number_in}
use Rattle.kept_words.proofs.Keeping.{later_number}
use Rattle.kept_words.proofs.Posted.{role_stays}

-- what stands at the end of a list
pub at_end : {X : Type 0} (xs : List X) (x : X) (n : ℕ) → n ≡ length xs → slice_get (xs ++ x ∷ []) n ≡ Some x
at_end {X} [] x n is = ap (slice_get (x ∷ [])) is
at_end {X} (y ∷ xs) x n is = ap (slice_get (y ∷ xs ++ x ∷ [])) is ∙ at_end xs x (length xs) refl

-- ---- numbers of grants

-- an event brings a grant at most, and takes none away
no_fewer : (s : State) (e : Event) → length s.grants ≤ length (step s e).grants
unfolding loaded die lower unmap initialise
no_fewer s (events.Open hart ask (opens.Done id root added ranges)) = omega arith
no_fewer s (events.Open hart ask opens.Absent) = omega arith
no_fewer s (events.Open hart ask (opens.Refused fault)) = omega arith
no_fewer s (events.Close hart handle (closes.Done set)) = omega arith
no_fewer s (events.Close hart handle (closes.Refused fault)) = omega arith
no_fewer s (events.Unmapped hart set) = omega arith
no_fewer s (events.Grant number hart owner slot choice value) = omega (arith, length-append s.grants (granting_of (record { number = number; hart = hart; owner = owner; slot = slot; choice = choice; value = value }) ∷ []))
no_fewer s (events.Bound number) = omega (arith, length-map {A = Granting} {B = Granting})
no_fewer s (events.Lost number saw) = omega (arith, length-map {A = Granting} {B = Granting})
no_fewer s (events.Unresolved hart owner slot choice) = omega arith
no_fewer s (events.Sym hart ask (syms.Found serial index value)) = omega arith
no_fewer s (events.Sym hart ask (syms.Refused fault)) = omega arith
no_fewer s (events.Tls hart owner address) = omega arith
no_fewer s (events.Init hart object) = omega arith
no_fewer s (events.Fini hart object) = omega arith
no_fewer s (events.Wrote hart bytes) = omega arith
no_fewer s (events.Told hart fault) = omega arith
no_fewer s (events.Ended hart reason) = omega arith

none_fewer : (front back : List Event) → length (after front).grants ≤ length (after (front ++ back)).grants
none_fewer front [] = subst (λ (es : List Event). length (after front).grants ≤ length (after es).grants) (sym (append-nil front)) (omega arith)
none_fewer front (e ∷ back) =
    let first : length (after front).grants ≤ length (after (front ++ e ∷ [])).grants =
    subst (λ (s : State). length (after front).grants ≤ length s.grants) (sym (after_push front e)) (no_fewer (after front) e) in
    let more : length (after (front ++ e ∷ [])).grants ≤ length (after (front ++ e ∷ back)).grants =
    subst (λ (es : List Event). length (after (front ++ e ∷ [])).grants ≤ length (after es).grants) (one_behind front e back) (none_fewer (front ++ e ∷ []) back) in
    omega (arith, first, more)

-- a grant's number is at most the number of grants that the state has
pub number_low : (m : Machine) (journal : List Event) → Lawful m journal → (i number hart owner slot : ℕ) (choice : Choice) (value : ℕ)
    → slice_get journal i ≡ Some (events.Grant number hart owner slot choice value) → number ≤ length (after journal).grants
unfolding Lawful
number_low m journal lawful i number hart owner slot choice value at =
    let may = (lawful i (events.Grant number hart owner slot choice value) at).2 in
    let is : number ≡ length (after (take i journal)).grants + 1 = may.numbered in
    let longer : length (after (take (suc i) journal)).grants ≡ length (after (take i journal)).grants + 1 =
    ap (λ (s : State). length s.grants) (after_take journal i (events.Grant number hart owner slot choice value) at)
    ∙ length-append (after (take i journal)).grants (granting_of (record { number = number; hart = hart; owner = owner; slot = slot; choice = choice; value = value }) ∷ []) in
    let whole : take (suc i) journal ++ drop (suc i) journal ≡ journal = take-append-drop (suc i) journal in
    let few : length (after (take (suc i) journal)).grants ≤ length (after journal).grants =
    subst (λ (es : List Event). length (after (take (suc i) journal)).grants ≤ length (after es).grants) whole (none_fewer (take (suc i) journal) (drop (suc i) journal)) in
    omega (arith, is, longer, few)

-- the number of a grant's event
pub number_of : (number hart owner slot : ℕ) (choice : Choice) (value : ℕ) → number_by (Some (events.Grant number hart owner slot choice value)) ≡ number
unfolding number_by
number_of number hart owner slot choice value = refl

-- ---- the slot

-- what is known of a state's slots and code
pub record Places (s : State) : Type 0 where
  pub mapped : Mapped s
  pub begins : SlotsBegin s
  pub images : ImagesAreMapped s
  pub there : (i : Linked) (slot : ℕ) (r : Reloc) → Contains s.images i → slice_get i.object.plt_relocs slot ≡ Some r → IsSlotAt s (slot_address i r) i.serial slot
  pub whole : (i : Linked) (slot : ℕ) (r : Reloc) → Contains s.images i → slice_get i.object.plt_relocs slot ≡ Some r → IsDoubleword (slot_address i r)

-- and of the state with the grant in it
pub record Granted (s : State) : Type 0 where
  pub lazy : NoneIsLazy s
  pub leads : SlotsLeadToRx s
  pub code : (a : ℕ) → a < 2 ^ 64 → role_at s a ≡ Rx → IsDoubleword (doubleword_of a) × (role_at s (doubleword_of a) ≡ Rx)
  pub small : (x : Granting) → Contains s.grants x → x.value < 2 ^ 64

-- an address and its doubleword have one place
place_whole : (a : ℕ) → IsDoubleword (doubleword_of a) → place_of (doubleword_of a) ≡ place_of a
unfolding place_of
place_whole a is = let low = is.low in omega (arith, low)

place_low : (a : ℕ) → IsDoubleword a → place_of a < doublewords
unfolding place_of doublewords
place_low a is = let high = is.high in omega (arith, high)

-- an address in a doubleword of guest memory is one of guest memory
in_memory : (a : ℕ) → IsDoubleword (doubleword_of a) → 0x10000 ≤ a
in_memory a is = let low : 0x10000 ≤ a / 8 * 8 = is.low in omega (arith, low)

address_back : (a : ℕ) → IsDoubleword a → a ≡ address_of (place_of a)
unfolding place_of
address_back a is = let low = is.low in let whole = is.whole in omega (arith, low, whole)

module _ (w : Setting) (begun : List Event) (k : KeeperView) (g : NewGrant) (o : Offered) (is : IsNew w begun k g o) (places : Places (after k.events))
    (granted : Granted (step (after k.events) (event_of g))) where
  s : State
  s = after k.events

  kept : AreKept w begun k
  kept = is.kept

  few : g.hart < harts_at_most
  few = let harts : w.machine.harts ≤ harts_at_most = is.kept.few in let own : g.hart < w.machine.harts = is.hart in omega (arith, harts, own)

  -- the grant as it is posted
  abbrev pub grant_in : Grant
  grant_in = grant_of (offer_behind k.events o) k.generation

  image : Linked
  image = is.offer.image

  found : Contains (after k.events).images is.offer.image × (eqb is.offer.image.serial g.owner ≡ true)
  found = found_in (λ m. eqb m.serial g.owner) (after k.events).images is.offer.image is.offer.found

  serial : is.offer.image.serial ≡ g.owner
  serial = eqb-true is.offer.image.serial g.owner found.1

  slot_is : o.slot ≡ slot_address is.offer.image is.offer.reloc
  slot_is = ap (λ (q : Offered). q.slot) is.offer.is

  value_is : o.value ≡ g.value
  value_is = ap (λ (q : Offered). q.value) is.offer.is

  word : IsDoubleword o.slot
  word = subst IsDoubleword (sym slot_is) (places.whole is.offer.image g.slot is.offer.reloc found.0 is.offer.at)

  at : IsSlotAt (after k.events) o.slot g.owner g.slot
  at =
      subst (λ (a : ℕ). IsSlotAt (after k.events) a g.owner g.slot) (sym slot_is)
      (subst (λ (n : ℕ). IsSlotAt (after k.events) (slot_address is.offer.image is.offer.reloc) n g.slot) serial
      (places.there is.offer.image g.slot is.offer.reloc found.0 is.offer.at))

  role : role_at (after k.events) o.slot ≡ Slot
  role = role_is (after k.events) places.mapped places.begins o.slot (fits o.slot word) g.owner g.slot at

  -- ---- its lazy word

  same_image : at.image ≡ is.offer.image
  same_image = places.mapped.one at.image is.offer.image (image_in (after k.events) places.mapped places.begins o.slot (fits o.slot word) g.owner g.slot at) found.0 (at.serial ∙ sym serial)

  same_reloc : at.reloc ≡ is.offer.reloc
  same_reloc =
      let there : slice_get is.offer.image.object.plt_relocs g.slot ≡ Some at.reloc = subst (λ (i : Linked). slice_get i.object.plt_relocs g.slot ≡ Some at.reloc) same_image at.at in
      let both : Some at.reloc ≡ Some is.offer.reloc = sym there ∙ is.offer.at in
      cc

  lazy_is : o.lazy ≡ lazy_at (after k.events) o.slot
  lazy_is =
      ap (λ (q : Offered). q.lazy) is.offer.is
      ∙ ap (λ (i : Linked). moved_word i.object i.base is.offer.reloc.place) (sym same_image)
      ∙ ap (λ (r : Reloc). moved_word at.image.object at.image.base r.place) (sym same_reloc)
      ∙ sym (slot_lazy (after k.events) places.mapped places.begins o.slot (fits o.slot word) g.owner g.slot at)

  there : Contains (step (after k.events) (event_of g)).grants (granting_of g)
  there = Contains-append_right (after k.events).grants (granting_of g ∷ []) (granting_of g) (here (granting_of g) [])

  other : o.value ≢ o.lazy
  other same =
      let at_load = loaded_at (after k.events) places.mapped places.begins places.images o.slot (fits o.slot word) g.owner g.slot at in
      granted.lazy.granted at_load.namespace at_load.object (granting_of g) at_load.reloc
      (record { there = at_load.inside.there; inside = at_load.inside.inside }) there (sym at_load.serial) at_load.at
      (sym value_is ∙ same ∙ lazy_is ∙ at_load.lazy)

  -- ---- its value

  not_lost : (saw : ℕ) → Open ≢ Lost saw
  not_lost saw same = cc

  leads : LeadsTo (kept_at k) o.value
  leads = subst (LeadsTo (kept_at k)) (sym value_is) (⊎_elim
      (λ (none : g.value ≡ 0). inl none)
      (λ (rx : role_at (step (after k.events) (event_of g)) g.value ≡ Rx).
      let code = granted.code g.value (granted.small (granting_of g) there) rx in
      inr (
        (in_memory g.value code.0, subst (λ (d : ℕ). d < doublewords) (place_whole g.value code.0) (place_low (doubleword_of g.value) code.0)),
        ap (λ (d : ℕ). (kept_at k d).role) (sym (place_whole g.value code.0)) ∙ is.kept.words.role (doubleword_of g.value) code.0
            ∙ sym (role_stays ((after k.events).grants ++ granting_of g ∷ []) (after k.events) (doubleword_of g.value)) ∙ code.1,
      ))
      (granted.leads.granted (granting_of g) there not_lost mapped))
    where
      mapped : IsMapped (step (after k.events) (event_of g)) g.owner
      mapped = record {
        namespace = is.may.may.is_slot.namespace;
        object = is.may.may.is_slot.object;
        there = is.may.may.is_slot.there;
        inside = is.may.may.is_slot.inside;
        is = is.may.may.is_slot.is;
      }

  -- ---- it may be posted

  pub slot_of : IsOf (kept_at k) (place_of o.slot) grant_in
  slot_of =
      let is_slot : IsSlot (kept_at k) (place_of o.slot) = (place_low o.slot word, is.kept.words.role o.slot word ∙ role) in
      let since : (kept_at k (place_of o.slot)).since ≤ length k.events = is.kept.rows.since (place_of o.slot) is_slot in
      (is_slot, address_back o.slot word, (omega (arith, since)))

  pub postable : IsPostable (kept_at k) grant_in
  postable = record { of_slot = slot_of; lazy_is = lazy_is ∙ sym (is.kept.words.lazy o.slot word role); other = other; leads = leads }

  pub may_post : (since : ℕ) → Waits k g.hart since → since ≤ length k.events → MayPost (counted (event_of g) k) g.hart (offer_behind k.events o)
  may_post since waits before = record {
    waits = (since, waits);
    number = sym (length-append k.events (event_of g ∷ []));
    new = omega (arith, before);
    postable = postable;
  }

  -- ---- and the view is that of the state then

  own_number : slice_get (k.events ++ event_of g ∷ []) (length k.events + 1 - 1) ≡ Some (event_of g)
  own_number = at_end k.events (event_of g) (length k.events + 1 - 1) (omega arith)

  pub posts : Posts (after k.events) k (number_in k.events) (number_in (k.events ++ event_of g ∷ [])) g.hart grant_in (granting_of g)
  posts = record {
    low = few;
    settled = is.settled;
    open_yet = refl;
    value = sym value_is;
    slot = at;
    place = λ a is_word of. one_address (after k.events) places.mapped places.begins a o.slot (fits a is_word) (fits o.slot word) g.owner g.slot of at;
    numbered = ap number_by own_number ∙ number_of g.number g.hart g.owner g.slot g.choice g.value;
    same = λ j p low stands. later_number k.events (event_of g ∷ []) j p (is.kept.granted j p low stands);
    fresh = λ j p low stands same.
        let event = is.kept.granted j p low stands in
        let small : event.number ≤ length (after k.events).grants =
        number_low w.machine k.events (legal_is_lawful w k.events is.kept.legal) (p.entry.number - 1) event.number j event.owner event.slot event.choice p.entry.value event.at in
        let new : g.number ≡ length (after k.events).grants + 1 = is.may.numbered in
        let its : event.number ≡ g.number = sym (ap number_by event.at ∙ number_of event.number j event.owner event.slot event.choice p.entry.value) ∙ same in
        omega (arith, small, new, its);
  }

  pub entry : IsGrantEntry k.events g.hart g.number g.owner g.slot g.choice g.value grant_in.entry
  entry = record {
    mark = refl;
    number_is = refl;
    slot_is = at;
    value_is = value_is;
    generation_is = is.kept.generation ∙ ap (λ (t : State). t.generation) (sym (after_push k.events (event_of g)));
  }
