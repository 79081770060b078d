-- Each turn leaves a slot that isn't lazy as it was.
use Rattle.std.proofs.Common.{◌≡◌, ◌≢◌, ℕ, ◌%◌, Bool, true, false, cond, eqb, List, [], ◌∷◌, ◌++◌, Some, refl, sym, ap, subst, ◌∙◌, append-nil, arith}
use Rattle.std.specs.List.{Contains, slice_get}
use Rattle.std.proofs.lemmas.Bool.{eqb-true}
use Rattle.ld_base.specs.declared.linking.Role.TheVariants.{Rw, Slot}
use Rattle.ld_base.specs.declared.object.Reloc.{Reloc}
use Rattle.history_event.specs.declared.event.Event.{Event}
use Rattle.history_event.specs.declared.event.Event.TheVariants as events
use Rattle.rv_hart.specs.Doublewords.{DoesIn, with_word_at}
use Rattle.rv_hart.specs.Trail.{Chain}
use Rattle.rv_hart.specs.declared.bus.Item.{Item}
use Rattle.rv_hart.specs.declared.doubleword.Doubleword.{Doubleword}
use Rattle.history_state.specs.Accepted.{AcceptsOnly}
use Rattle.history_state.specs.After.{after}
use Rattle.history_state.specs.Allowed.{Allowed}
use Rattle.history_state.specs.Laws.{slot_address}
use Rattle.history_state.specs.Legal.{Lawful, Legal}
use Rattle.history_state.specs.Memory.{role_at}
use Rattle.history_state.specs.Setting.{Machine, Setting}
use Rattle.history_state.specs.State.{Linked, State}
use Rattle.history_state.specs.Lemmas.History.{after_push, lawful_push, legal_is_lawful, one_behind}
use Rattle.history_memory.specs.Enters.{SlotStays}
use Rattle.history_memory.specs.Holds.{lazy_at}
use Rattle.history_memory.specs.Memory.{IsDoubleword, Memory, doubleword_of}
use Rattle.history_memory.specs.Remade.{Remade}
use Rattle.hart_moves.specs.Harts.{Offered, Resolving}
use Rattle.hart_moves.specs.Moves.{AreAllowed, Did, events_of}
use Rattle.hart_moves.specs.Lemmas.Legality.{turns_allowed}
use Rattle.hart_moves.specs.TurnEvents.Appends.{Appends}
use Rattle.hart_moves.specs.TurnEvents.Lemmas.Turning.{turns_append}
use Rattle.world_turns.specs.Laws.{TurnsAreSound}
use Rattle.world_turns.specs.Memory.{Does, Remakes, RemakesAll, doubleword, exchanged, lowest, memory_of, with_value}
use Rattle.world_turns.specs.Sound.{Fits, HasOffer, Sound}
use Rattle.world_turns.specs.Turn.{Turn}
use Rattle.world_turns.specs.World.{World, found_journal, winners}
use Rattle.world_turns.specs.Lemmas.Events.{legal_front, remade}
use Rattle.world_turns.specs.Lemmas.Offers.{Know, Stands, stands}
use Rattle.world_turns.specs.Lemmas.Resolution.{Resolution, resolution}
use Rattle.world_turns.specs.Lemmas.Words.{keeps_chain, puts}
use Rattle.world_turns.specs.WorldEnds.Lemmas.Settled.{found_keeps}
use Rattle.world_laws.specs.WorldSlots.Laws.{TurnsKeepSlots}
use Rattle.world_laws.specs.WorldSlots.Lemmas.Images.{AllKeep, sparing_all, with_end}

-- what is needed of the linker's state and of memory
pub record Needs (m : Machine) : Type 0 where
  pub know : Know m
  pub keep : (w : Setting) (past : List Event) (e : Event) (old new : Memory) (a : ℕ) → w.machine ≡ m → Lawful m past → Allowed w past e → Remade (after past) e old new → IsDoubleword a → role_at (after past) a ≡ Slot
      → role_at (after (past ++ e ∷ [])) a ≡ Slot → SlotStays (after past) (after (past ++ e ∷ [])) old new a

-- ---- one change after another

both : (s t u : State) (old mid new : Memory) (a : ℕ) → SlotStays s t old mid a → SlotStays t u mid new a → SlotStays s u old new a
both s t u old mid new a x y = record { value = y.value ∙ x.value; lazy = y.lazy ∙ x.lazy }

module _ (w : Setting) (needs : Needs w.machine) (i : Linked) (slot : ℕ) (r : Reloc) (at : slice_get i.object.plt_relocs slot ≡ Some r) where
  abbrev a : ℕ
  a = slot_address i r

  whole : (journal : List Event) → Lawful w.machine journal → Contains (after journal).images i → IsDoubleword (slot_address i r)
  whole journal lawful there = (needs.know journal lawful).whole i slot r there at

  role : (journal : List Event) → Lawful w.machine journal → Contains (after journal).images i → role_at (after journal) (slot_address i r) ≡ Slot
  role journal lawful there = (needs.know journal lawful).begins.role i slot r there at

  -- ---- an event

  event_stays : (past : List Event) (e : Event) (old new : List Doubleword) → Lawful w.machine past → Allowed w past e → Contains (after past).images i → Contains (after (past ++ e ∷ [])).images i → Remakes (after past) e old new
      → SlotStays (after past) (after (past ++ e ∷ [])) (memory_of old) (memory_of new) (slot_address i r)
  event_stays past e old new lawful may there behind remakes =
      needs.keep w past e (memory_of old) (memory_of new) (slot_address i r) refl lawful may (remade (after past) e old new remakes) (whole past lawful there) (role past lawful there)
      (role (past ++ e ∷ []) (lawful_push w.machine w past e refl lawful may) behind)

  events_stay : (past added : List Event) (old new : List Doubleword) → Lawful w.machine past → AreAllowed w past added → AllKeep added → Contains (after past).images i → RemakesAll (after past) added old new
      → SlotStays (after past) (after (past ++ added)) (memory_of old) (memory_of new) (slot_address i r)
  events_stay past [] old new lawful may keep there is = record {
    value = ap (λ (ws : List Doubleword). (doubleword ws (slot_address i r)).value) is;
    lazy = ap (λ (es : List Event). lazy_at (after es) (slot_address i r)) (append-nil past);
  }
  events_stay past (e ∷ rest) old new lawful may keep there (between, one, more) =
      let behind : Contains (after (past ++ e ∷ [])).images i = subst (λ (s : State). Contains s.images i) (sym (after_push past e)) (keep.0 (after past) i there) in
      both (after past) (after (past ++ e ∷ [])) (after (past ++ e ∷ rest)) (memory_of old) (memory_of between) (memory_of new) (slot_address i r)
      (event_stays past e old between lawful may.0 there behind one)
      (subst (λ (es : List Event). SlotStays (after (past ++ e ∷ [])) (after es) (memory_of between) (memory_of new) (slot_address i r)) (one_behind past e rest)
      (events_stay (past ++ e ∷ []) rest between new (lawful_push w.machine w past e refl lawful may.0) may.1 keep.1 behind (subst (λ (s : State). RemakesAll s rest between new) (sym (after_push past e)) more)))

  -- ---- a turn

  module _ (h : ℕ) (old new : World) (sound : Sound w old) (legal : Legal w new.journal) (turn : Turn w h old new) (there : Contains (after old.journal).images i) (behind : Contains (after new.journal).images i)
      (bound : (doubleword old.words (slot_address i r)).value ≢ lazy_at (after old.journal) (slot_address i r)) where
    abbrev past : List Event
    past = found_journal old turn.did

    abbrev Stays : List Event → List Doubleword → Type 0
    Stays journal words = SlotStays (after old.journal) (after journal) (memory_of old.words) (memory_of words) (slot_address i r)

    lawful : Lawful w.machine past
    lawful = legal_is_lawful w past (legal_front w past (events_of turn.did) (subst (Legal w) turn.journal legal))

    is : IsDoubleword (slot_address i r)
    is = whole old.journal (legal_is_lawful w old.journal sound.legal) there

    there_yet : Contains (after past).images i
    there_yet = subst (λ (is : List Linked). Contains is i) (sym (found_keeps (List Linked) (λ s. s.images) (λ s number standing. refl) old turn.did)) there

    -- the settling, and calls of the bus
    found_stays : (words : List Doubleword) → (doubleword words (slot_address i r)).value ≡ (doubleword old.words (slot_address i r)).value → Stays past words
    found_stays words same = record { value = same; lazy = found_keeps ℕ (λ s. lazy_at s (slot_address i r)) (λ s number standing. refl) old turn.did }

    no_store : (words : List Doubleword) (items : List Item) → Chain (DoesIn lowest) old.words items words → (doubleword words (slot_address i r)).value ≡ (doubleword old.words (slot_address i r)).value
    no_store words items chain =
        ap (λ (d : Doubleword). d.value)
        ((keeps_chain (after old.journal) (winners old.harts) items old.words words chain).leaves.fixed (slot_address i r) is
        (λ rw. let no : Slot ≡ Rw = sym ((sound.holds.words (slot_address i r) is).role ∙ role old.journal (legal_is_lawful w old.journal sound.legal) there) ∙ rw in cc))

    to_new : (did : Did) (words : List Doubleword) → turn.did ≡ did → Stays (past ++ events_of did) words → Stays new.journal words
    to_new did words same x = subst (λ (es : List Event). Stays es words) (sym (turn.journal ∙ ap (λ (d : Did). past ++ events_of d) same)) x

    no_event : (words : List Doubleword) → Stays past words → Stays (past ++ []) words
    no_event words x = subst (λ (es : List Event). Stays es words) (sym (append-nil past)) x

    -- an exchange on another slot, or on one that isn't lazy
    value_by : (o : Offered) → HasOffer (after old.journal) h o → (t : Bool) → eqb (doubleword old.words o.slot).value o.lazy ≡ t → (doubleword (exchanged o old.words) (slot_address i r)).value ≡ (doubleword old.words (slot_address i r)).value
    value_by o offer false lost = ap (λ (t : Bool). (doubleword (cond t (with_word_at lowest old.words o.slot (with_value o.value (doubleword old.words o.slot))) old.words) (slot_address i r)).value) lost
    value_by o offer true won =
        ap (λ (t : Bool). (doubleword (cond t (with_word_at lowest old.words o.slot (with_value o.value (doubleword old.words o.slot))) old.words) (slot_address i r)).value) won
        ∙ ap (λ (d : Doubleword). d.value) ((puts old.words o.slot (with_value o.value (doubleword old.words o.slot))).others (slot_address i r) is (λ same. other (same ∙ sym doubleword_is)))
      where
        st : Stands (after old.journal) offer.grant o
        st = stands (after old.journal) (needs.know old.journal (legal_is_lawful w old.journal sound.legal)) offer.grant o offer.offer

        doubleword_is : o.slot ≡ doubleword_of o.slot
        doubleword_is = let w8 : o.slot % 8 ≡ 0 = st.place.whole in omega (arith, w8)

        other : slot_address i r ≢ o.slot
        other same = bound (ap (λ (b : ℕ). (doubleword old.words b).value) same ∙ eqb-true (doubleword old.words o.slot).value o.lazy won ∙ sym st.lazy ∙ ap (λ (b : ℕ). lazy_at (after old.journal) b) (sym same))

    offer_by : (o : Offered) (found : ℕ) → turn.did ≡ Did.exchanges o found → Resolution past h turn.before turn.did turn.left → HasOffer (after old.journal) h o
    offer_by o found same (Resolution.quietly items did_so kept) = absurd (let no : Did.exchanges o found ≡ Did.quiet items = sym same ∙ did_so in cc)
    offer_by o found same (Resolution.serving items added did_so kept none) = absurd (let no : Did.exchanges o found ≡ Did.serves items added = sym same ∙ did_so in cc)
    offer_by o found same (Resolution.granting g p did_so hart open_yet kept offer idle runs) =
        absurd (let no : Did.exchanges o found ≡ Did.serves [] (events.Grant g.number h g.owner g.slot g.choice g.value ∷ []) = sym same ∙ did_so in cc)
    offer_by o found same (Resolution.waiting for did_so kept) = absurd (let no : Did.exchanges o found ≡ Did.waits for = sym same ∙ did_so in cc)
    offer_by o found same (Resolution.exchanging p f did_so was kept) =
        let one : o ≡ p = (let both_so : Did.exchanges o found ≡ Did.exchanges p f = sym same ∙ did_so in cc) in
        subst (λ (x : Offered). HasOffer (after old.journal) h x) (sym one) (subst (λ (x : Resolving). Fits (after old.journal) old.words h x) was (sound.fits h turn.before turn.there))
    offer_by o found same (Resolution.finishing p f did_so was kept) = absurd (let no : Did.exchanges o found ≡ Did.finishes = sym same ∙ did_so in cc)

    served_stays : (items : List Item) (added : List Event) (between : List Doubleword) → turn.did ≡ Did.serves items added → Chain (DoesIn lowest) old.words items between → RemakesAll (after past) added between new.words
        → Appends past h turn.before turn.did turn.left → Stays (past ++ added) new.words
    served_stays items added between same chain remakes appends =
        both (after old.journal) (after past) (after (past ++ added)) (memory_of old.words) (memory_of between) (memory_of new.words) (slot_address i r) (found_stays between (no_store between items chain)) (by appends)
      where
        are : events_of turn.did ≡ added
        are = ap events_of same

        may : AreAllowed w past added
        may = subst (AreAllowed w past) are (turns_allowed w past h turn.before turn.left turn.did turn.moves)

        kept : AllKeep (events_of turn.did) → SlotStays (after past) (after (past ++ added)) (memory_of between) (memory_of new.words) (slot_address i r)
        kept keep = events_stay past added between new.words lawful may (subst AllKeep are keep) there_yet remakes

        by : Appends past h turn.before turn.did turn.left → SlotStays (after past) (after (past ++ added)) (memory_of between) (memory_of new.words) (slot_address i r)
        by (Appends.no_end spares so) = kept (sparing_all (events_of turn.did) spares)
        by (Appends.unmapping set one so) =
            let alone : added ≡ events.Unmapped h set ∷ [] = sym are ∙ one in
            let remade_so : RemakesAll (after past) (events.Unmapped h set ∷ []) between new.words = subst (λ (es : List Event). RemakesAll (after past) es between new.words) alone remakes in
            subst (λ (es : List Event). SlotStays (after past) (after (past ++ es)) (memory_of between) (memory_of new.words) (slot_address i r)) (sym alone)
            (event_stays past (events.Unmapped h set) between new.words lawful (subst (AreAllowed w past) alone may).0 there_yet
            (subst (λ (es : List Event). Contains (after es).images i) (turn.journal ∙ ap (λ (es : List Event). past ++ es) one) behind)
            (subst (λ (ws : List Doubleword). Remakes (after past) (events.Unmapped h set) between ws) (sym remade_so.2) remade_so.1))
        by (Appends.an_end front reason spares one so) = kept (subst AllKeep (sym one) (with_end front h reason spares))
        by (Appends.after_finals code spares finals so none) = kept (sparing_all (events_of turn.did) spares)

    by_did : (did : Did) → turn.did ≡ did → Does past old.words did new.words → Stays new.journal new.words
    by_did (Did.quiet items) same does = to_new (Did.quiet items) new.words same (no_event new.words (found_stays new.words (no_store new.words items does)))
    by_did (Did.serves items added) same (between, chain, remakes) =
        to_new (Did.serves items added) new.words same (served_stays items added between same chain remakes (turns_append w past h turn.before turn.left turn.did turn.moves))
    by_did (Did.waits for) same words = to_new (Did.waits for) new.words same (no_event new.words (found_stays new.words (ap (λ (ws : List Doubleword). (doubleword ws (slot_address i r)).value) words)))
    by_did (Did.exchanges o found) same (saw, words) =
        let offer = offer_by o found same (resolution w past h turn.before turn.did turn.left turn.moves) in
        to_new (Did.exchanges o found) new.words same
        (no_event new.words (found_stays new.words (ap (λ (ws : List Doubleword). (doubleword ws (slot_address i r)).value) words ∙ value_by o offer (eqb (doubleword old.words o.slot).value o.lazy) refl)))
    by_did Did.finishes same words = to_new Did.finishes new.words same (no_event new.words (found_stays new.words (ap (λ (ws : List Doubleword). (doubleword ws (slot_address i r)).value) words)))

    pub stays_so : Stays new.journal new.words
    stays_so = by_did turn.did refl turn.does

pub turns_keep : TurnsAreSound → ((m : Machine) → AcceptsOnly m → Needs m) → TurnsKeepSlots
turns_keep turns needs w h old new i slot r only sound turn there behind at bound =
    stays_so w (needs w.machine only) i slot r at h old new sound (turns w h old new only sound turn).legal turn there behind bound
