-- What a lost grant saw stays in its slot.
use Rattle.std.proofs.Common.{◌≡◌, ⊎_elim, ℕ, ◌<◌, Bool, true, false, cond, List, [], ◌++◌, Some, refl, sym, ap, subst, ◌∙◌, append-nil, ◌==◌}
use Rattle.std.specs.List.{Contains, slice_get}
use Rattle.std.proofs.lemmas.Bool.{eq-eqb, eqb-true, true≢false}
use Rattle.history_event.specs.declared.event.Event.{Event}
use Rattle.history_event.specs.declared.event.Event.TheVariants as events
use Rattle.history_event.specs.declared.hart_end.HartEnd.TheVariants as ends
use Rattle.history_event.specs.declared.state.Granting.{Granting}
use Rattle.history_event.specs.declared.state.Standing.TheVariants as standings
use Rattle.rv_hart.specs.Registers.{Registers}
use Rattle.rv_hart.specs.declared.doubleword.Doubleword.{Doubleword}
use Rattle.history_state.specs.Accepted.{AcceptsOnly}
use Rattle.history_state.specs.After.{after}
use Rattle.history_state.specs.Laws.{slot_address}
use Rattle.history_state.specs.Legal.{Lawful, Legal}
use Rattle.history_state.specs.Setting.{Machine, Setting}
use Rattle.history_state.specs.State.{Linked, State}
use Rattle.history_state.specs.Step.{step}
use Rattle.history_state.specs.Lemmas.Brought.{LoadLaws}
use Rattle.history_state.specs.Lemmas.History.{after_push, legal_is_lawful}
use Rattle.history_state.specs.Lemmas.Lists.{found_in}
use Rattle.history_state.specs.Lemmas.Steps.{good_after}
use Rattle.history_state.specs.Lemmas.Tidy.{one_number}
use Rattle.history_memory.specs.Holds.{lazy_at}
use Rattle.hart_moves.specs.Harts.{Offered, Resolving}
use Rattle.hart_moves.specs.Moves.{AreAllowed, IsOffer, events_of, settles}
use Rattle.hart_moves.specs.Lemmas.Legality.{turns_allowed, turns_own}
use Rattle.world_turns.specs.Laws.{TurnsAreSound}
use Rattle.world_turns.specs.Memory.{doubleword}
use Rattle.world_turns.specs.Run.{RunBegins, LacksMemory, settled}
use Rattle.world_turns.specs.Sound.{Fits, HasExchanged, Sound}
use Rattle.world_turns.specs.Turn.{Turn}
use Rattle.world_turns.specs.World.{World, found_journal, settling}
use Rattle.world_turns.specs.Lemmas.Events.{legal_front}
use Rattle.world_turns.specs.Lemmas.Offers.{Know, Stands, stands}
use Rattle.world_turns.specs.WorldEnds.Lemmas.Settled.{found_keeps, settling_keeps}
use Rattle.world_laws.specs.WorldSlots.Laws.{TurnsKeepSlots}
use Rattle.world_laws.specs.WorldSlots.Lemmas.Serials.{SerialLaws, was_there}
use Rattle.world_laws.specs.WorldWhole.Laws.{TurnsKeepSeen}
use Rattle.world_laws.specs.WorldWhole.Saw.{LostSaw, SeesSlots, SlotHas}
use Rattle.world_laws.proofs.WorldWhole.Lost.{Came, IsDone, came, lost_before}

-- ---- what was settled

module _ (w : Setting) (know : Know w.machine) (old : World) (sound : Sound w old) (sees : SeesSlots old) where
  abbrev s : State
  s = after old.journal

  lawful : Lawful w.machine old.journal
  lawful = legal_is_lawful w old.journal sound.legal

  -- the word that an exchange found stands in the slot
  done_has : (g : Granting) (saw : ℕ) (i : Linked) → Contains (after old.journal).images i → i.serial ≡ g.owner → (was : Granting) → Contains (after old.journal).grants was → was.owner ≡ g.owner → was.slot ≡ g.slot
      → IsDone old.harts was.number saw → SlotHas (after old.journal) old.words g saw i
  done_has g saw i there serial was at owner slot x = record {
    reloc = offer.reloc;
    at = subst (λ (k : Linked). slice_get k.object.plt_relocs g.slot ≡ Some offer.reloc) (sym image) (subst (λ (n : ℕ). slice_get offer.image.object.plt_relocs n ≡ Some offer.reloc) (ap (λ (q : Granting). q.slot) (sym same) ∙ slot) offer.at);
    holds = ap (λ (a : ℕ). (doubleword old.words a).value) place ∙ it.holds ∙ ap (λ (t : Bool). cond t x.offered.value saw) x.other;
    taken = λ e. true≢false (sym (eq-eqb saw x.offered.lazy (e ∙ ap (λ (a : ℕ). lazy_at (after old.journal) a) place ∙ st.lazy)) ∙ x.other);
  }
    where
      it : HasExchanged (after old.journal) old.words x.hart x.offered saw
      it = subst (λ (r : Resolving). Fits (after old.journal) old.words x.hart r) x.is (sound.fits x.hart x.state x.at)

      offer : IsOffer (after old.journal) it.offers.grant x.offered
      offer = it.offers.offer

      st : Stands (after old.journal) it.offers.grant x.offered
      st = stands (after old.journal) (know old.journal lawful) it.offers.grant x.offered offer

      same : was ≡ it.offers.grant
      same = one_number (after old.journal).grants (know old.journal lawful).tidy was it.offers.grant at it.offers.is.there (x.numbered ∙ sym it.offers.is.numbered)

      found : Contains (after old.journal).images offer.image × ((offer.image.serial == it.offers.grant.owner) ≡ true)
      found = found_in (λ q. q.serial == it.offers.grant.owner) (after old.journal).images offer.image offer.found

      image : i ≡ offer.image
      image = (know old.journal lawful).mapped.one i offer.image there found.0 (serial ∙ sym owner ∙ ap (λ (q : Granting). q.owner) same ∙ sym (eqb-true offer.image.serial it.offers.grant.owner found.1))

      place : slot_address i offer.reloc ≡ x.offered.slot
      place = ap (λ (k : Linked). slot_address k offer.reloc) image ∙ sym (ap (λ (p : Offered). p.slot) offer.is)

  has_of : (was g : Granting) (saw : ℕ) (i : Linked) → was.slot ≡ g.slot → SlotHas (after old.journal) old.words was saw i → SlotHas (after old.journal) old.words g saw i
  has_of was g saw i slot x = record { reloc = x.reloc; at = subst (λ (n : ℕ). slice_get i.object.plt_relocs n ≡ Some x.reloc) slot x.at; holds = x.holds; taken = x.taken }

  -- in the state before the settling, of each grant that is lost behind it
  pub settled_saw : (g : Granting) (saw : ℕ) (i : Linked) → Contains (after (old.journal ++ settling old.harts)).grants g → g.standing ≡ standings.Lost saw → Contains (after old.journal).images i → i.serial ≡ g.owner
      → SlotHas (after old.journal) old.words g saw i
  settled_saw g saw i there lost inside serial = by (came old.journal old.harts g saw lost there)
    where
      by : Came old.journal old.harts g saw → SlotHas (after old.journal) old.words g saw i
      by x = ⊎_elim
          (λ (was_lost : x.was.standing ≡ standings.Lost saw). has_of x.was g saw i x.slot (sees x.was saw i x.there was_lost inside (serial ∙ sym x.owner)))
          (λ (y : IsDone old.harts x.was.number saw). done_has g saw i inside serial x.was x.there x.owner x.slot y)
          x.how

  found_saw : (t : Bool) (g : Granting) (saw : ℕ) (i : Linked) → Contains (after (old.journal ++ cond t (settling old.harts) [])).grants g → g.standing ≡ standings.Lost saw → Contains (after old.journal).images i → i.serial ≡ g.owner
      → SlotHas (after old.journal) old.words g saw i
  found_saw true g saw i there lost inside serial = settled_saw g saw i there lost inside serial
  found_saw false g saw i there lost inside serial = sees g saw i (subst (λ (es : List Event). Contains (after es).grants g) (append-nil old.journal) there) lost inside serial

  images_settled : (after (old.journal ++ settling old.harts)).images ≡ (after old.journal).images
  images_settled = settling_keeps (List Linked) (λ t. t.images) (λ t number standing. refl) old.journal old.harts

  -- so it is behind it
  pub settled_sees : SeesSlots (settled old)
  settled_sees g saw i there lost inside serial =
      let x = settled_saw g saw i there lost (subst (λ (is : List Linked). Contains is i) images_settled inside) serial in
      record {
        reloc = x.reloc;
        at = x.at;
        holds = x.holds;
        taken = λ e. x.taken (e ∙ settling_keeps ℕ (λ t. lazy_at t (slot_address i x.reloc)) (λ t number standing. refl) old.journal old.harts);
      }

-- ---- a turn

module _ (w : Setting) (only : AcceptsOnly w.machine) (know : Know w.machine) (load : LoadLaws) (serials : SerialLaws w.machine) (slots : TurnsKeepSlots) (h : ℕ) (old new : World) (sound : Sound w old) (legal : Legal w new.journal)
    (turn : Turn w h old new) (sees : SeesSlots old) where
  abbrev past : List Event
  past = found_journal old turn.did

  past_lawful : Lawful w.machine past
  past_lawful = legal_is_lawful w past (legal_front w past (events_of turn.did) (subst (Legal w) turn.journal legal))

  may : AreAllowed w past (events_of turn.did)
  may = turns_allowed w past h turn.before turn.left turn.did turn.moves

  turn_sees : SeesSlots new
  turn_sees g saw i there lost inside serial =
      let g_then : Contains (after past).grants g = lost_before past (events_of turn.did) h (turns_own w past h turn.before turn.left turn.did turn.moves) g saw
      (subst (λ (es : List Event). Contains (after es).grants g) turn.journal there) lost in
      let low : i.serial < (after past).next = subst (λ (n : ℕ). n < (after past).next) (sym serial) ((good_after load w.machine past past_lawful).grants_low g g_then) in
      let i_then : Contains (after past).images i = was_there w.machine serials w past (events_of turn.did) refl past_lawful may i low (subst (λ (es : List Event). Contains (after es).images i) turn.journal inside) in
      let i_old : Contains (after old.journal).images i = subst (λ (is : List Linked). Contains is i) (found_keeps (List Linked) (λ t. t.images) (λ t number standing. refl) old turn.did) i_then in
      let x = found_saw w know old sound sees (settles turn.did) g saw i g_then lost i_old serial in
      let stays = slots w h old new i g.slot x.reloc only sound turn i_old inside x.at (λ e. x.taken (sym x.holds ∙ e)) in
      record {
        reloc = x.reloc;
        at = x.at;
        holds = stays.value ∙ x.holds;
        taken = λ e. x.taken (e ∙ stays.lazy);
      }

pub turns_keep_seen : ((m : Machine) → AcceptsOnly m → Know m) → LoadLaws → ((m : Machine) → SerialLaws m) → TurnsAreSound → TurnsKeepSlots → TurnsKeepSeen
turns_keep_seen know load serials turns slots w h old new only sound turn sees =
    turn_sees w only (know w.machine only) load (serials w.machine) slots h old new sound (turns w h old new only sound turn).legal turn sees

-- ---- the final destructors begin, or lack memory

pub begins_sees : (registers : Registers) (old new : World) → RunBegins registers old new → SeesSlots old → SeesSlots new
begins_sees registers old new x sees = subst SeesSlots (sym x.begun) sees

-- an end changes nothing of it
ended_sees : (s : State) (words : List Doubleword) → LostSaw s words → LostSaw (step s (events.Ended 0 ends.Memory)) words
ended_sees s words sees g saw i there lost inside serial =
    let x = sees g saw i there lost inside serial in record { reloc = x.reloc; at = x.at; holds = x.holds; taken = x.taken }

pub lacks_sees : (w : Setting) → Know w.machine → (old new : World) → LacksMemory w old new → Sound w old → SeesSlots old → SeesSlots new
lacks_sees w know old new x sound sees =
    subst SeesSlots (sym x.leaves)
    (subst (λ (t : State). LostSaw t old.words) (sym (after_push (old.journal ++ settling old.harts) (events.Ended 0 ends.Memory)))
    (ended_sees (after (old.journal ++ settling old.harts)) old.words (settled_sees w know old sound sees)))
