-- A run is whole at its end.
use Rattle.std.proofs.Common.{◌≡◌, ◌≢◌, inl, inr, ℕ, ◌^◌, ◌<◌, ◌&&◌, true, List, eqb, Option, Some, None, refl, sym, ap, subst, ◌∙◌}
use Rattle.std.specs.List.{Contains, slice_get}
use Rattle.std.proofs.lemmas.Bool.{and_from, and_parts, eq-eqb, eqb-true}
use Rattle.history_event.specs.declared.state.Granting.{Granting}
use Rattle.history_event.specs.declared.state.Standing.TheVariants.{Bound, Lost, Open}
use Rattle.history_calls.specs.declared.link_served.startup.Setup.{Setup}
use Rattle.rv_hart.specs.Registers.{Registers}
use Rattle.seg_image.specs.Pages.{own_address}
use Rattle.history_state.specs.Accepted.{AcceptsOnly}
use Rattle.history_state.specs.After.{after}
use Rattle.history_state.specs.Laws.{slot_address}
use Rattle.history_state.specs.Legal.{Lawful, Settled}
use Rattle.history_state.specs.Memory.{first_word_at}
use Rattle.history_state.specs.Objects.{IsMapped}
use Rattle.history_state.specs.Setting.{Machine, Setting}
use Rattle.history_state.specs.Slots.{value_at_load}
use Rattle.history_state.specs.State.{Linked, State}
use Rattle.history_state.specs.Lemmas.History.{legal_is_lawful}
use Rattle.history_state.specs.Lemmas.Lists.{none_in}
use Rattle.history_state.specs.Lemmas.LoadWords.{load_word}
use Rattle.history_memory.specs.Holds.{IsSlotAt, SlotHolds, Took, TookAt, lazy_at}
use Rattle.history_memory.specs.Holds.SlotHolds.{exchanged, first}
use Rattle.history_memory.specs.Lemmas.Distinct.{one_slot}
use Rattle.history_memory.specs.Lemmas.Exchanged.{fits}
use Rattle.history_memory.specs.Lemmas.Settled.{LoadFits, first_bound, first_lazy}
use Rattle.history_memory.specs.Lemmas.Slots.{image_in, one_image_at}
use Rattle.hart_moves.specs.Starting.{starting_registers}
use Rattle.world_turns.specs.declared.schedules.schedule.TurnItem.{TurnItem}
use Rattle.world_turns.specs.Laws.{FinalsBeginSound, FinalsLackSound, TurnsAreSound}
use Rattle.world_turns.specs.Memory.{doubleword}
use Rattle.world_turns.specs.Run.{Finalises, IsStarted, Run}
use Rattle.world_turns.specs.Sound.{Sound}
use Rattle.world_turns.specs.Throughout.{RunsAreSound, RunsSettle}
use Rattle.world_turns.specs.Turn.{Turn}
use Rattle.world_turns.specs.World.{World, winners}
use Rattle.world_turns.specs.Lemmas.Offers.{Know, Known}
use Rattle.world_turns.specs.Lemmas.Running.{constructs, finals, finishes, items_keep}
use Rattle.world_turns.specs.Lemmas.Starting.{start_grants}
use Rattle.world_turns.specs.WorldEnds.Laws.{RunsFinish}
use Rattle.world_laws.specs.WorldWhole.Laws.{RunsAreWhole, TurnsKeepSeen}
use Rattle.world_laws.specs.WorldWhole.Saw.{SeesSlots}
use Rattle.world_laws.proofs.WorldWhole.Turns.{begins_sees, lacks_sees, settled_sees}

-- ---- the value of a slot

module _ (s : State) (known : Known s) (won : List ℕ) (none_open : (g : Granting) → Contains s.grants g → g.standing ≢ Open) (g : Granting) (saw a : ℕ) (word : a < 2 ^ 64) (at : IsSlotAt s a g.owner g.slot) (fit : LoadFits s g.owner g.slot) (taken : saw ≢ lazy_at s a) where
  -- another grant that took the slot is of it
  of_slot : (q : Granting) → TookAt s won a q → (q.owner ≡ g.owner) × (q.slot ≡ g.slot)
  of_slot q took =
      let image : took.of.image ≡ at.image = one_image_at s a q.owner q.slot g.owner g.slot took.of at in
      let got : slice_get at.image.object.plt_relocs q.slot ≡ Some took.of.reloc = subst (λ (i : Linked). slice_get i.object.plt_relocs q.slot ≡ Some took.of.reloc) image took.of.at in
      let places : took.of.reloc.place ≡ at.reloc.place = sym took.of.place ∙ ap (λ (i : Linked). own_address i.base a) image ∙ at.place in (
        sym took.of.serial ∙ ap (λ (i : Linked). i.serial) image ∙ at.serial,
        one_slot at.image.object (known.mapped.accepted at.image (image_in s known.mapped known.begins a word g.owner g.slot at)).image q.slot g.slot took.of.reloc at.reloc got at.at places,
      )

  bound_of : (q : Granting) → Contains s.grants q → Took won q → q.standing ≡ Bound
  bound_of q there (inl bound) = bound
  bound_of q there (inr both) = absurd (none_open q there both.0)

  -- a bound grant of the slot took it
  took_of : (q : Granting) → Contains s.grants q → (eqb q.owner g.owner && eqb q.slot g.slot) ≡ true → q.standing ≡ Bound → TookAt s won a q
  took_of q there of bound =
      let parts = and_parts (eqb q.owner g.owner) (eqb q.slot g.slot) of in
      record {
        there = there;
        of = subst (λ (n : ℕ). IsSlotAt s a n q.slot) (sym (eqb-true q.owner g.owner parts.0)) (subst (λ (n : ℕ). IsSlotAt s a g.owner n) (sym (eqb-true q.slot g.slot parts.1)) at);
        took = inl bound;
      }

  at_load : (value : Option ℕ) → value_at_load s g.owner g.slot ≡ value → saw ≡ first_word_at s a → Settled s g saw
  at_load None got is = absurd (taken (is ∙ first_lazy s known.mapped known.begins a word g.owner g.slot at got))
  at_load (Some value) got is = inl (got ∙ ap (λ (v : ℕ). Some v) (sym (is ∙ first_bound s known.mapped known.begins a word g.owner g.slot fit at value got)))

  pub is_settled : (value : ℕ) → value ≡ saw → SlotHolds s won a value → Settled s g saw
  is_settled value same (first is none) = at_load (value_at_load s g.owner g.slot) refl (sym same ∙ is)
  is_settled value same (exchanged q took is lazy only) =
      let of = of_slot q took in
      inr (record {
        grant = q;
        there = took.there;
        of = and_from (eqb q.owner g.owner) (eqb q.slot g.slot) (eq-eqb q.owner g.owner of.0) (eq-eqb q.slot g.slot of.1);
        bound = bound_of q took.there took.took;
        holds = sym is ∙ same;
        only = λ other there other_of bound. only other (took_of other there other_of bound);
      })

-- ---- a world that is sound and has nothing open

module _ (w : Setting) (only : AcceptsOnly w.machine) (know : Know w.machine) (world : World) (sound : Sound w world) (sees : SeesSlots world)
    (none_open : (g : Granting) → Contains (after world.journal).grants g → g.standing ≢ Open) where
  lawful : Lawful w.machine world.journal
  lawful = legal_is_lawful w world.journal sound.legal

  known : Known (after world.journal)
  known = know world.journal lawful

  pub lost_settled : (g : Granting) (saw : ℕ) → Contains (after world.journal).grants g → g.standing ≡ Lost saw → IsMapped (after world.journal) g.owner → Settled (after world.journal) g saw
  lost_settled g saw there lost mapped =
      let image = known.images.mapped mapped.namespace mapped.object (record { there = mapped.there; inside = mapped.inside }) in
      let serial : image.image.serial ≡ g.owner = image.serial ∙ mapped.is in
      let x = sees g saw image.image there lost image.there serial in
      let a : ℕ = slot_address image.image x.reloc in
      let place = known.whole image.image g.slot x.reloc image.there x.at in
      let at : IsSlotAt (after world.journal) (slot_address image.image x.reloc) g.owner g.slot = subst (λ (n : ℕ). IsSlotAt (after world.journal) (slot_address image.image x.reloc) n g.slot) serial (known.stand image.image g.slot x.reloc image.there x.at) in
      is_settled (after world.journal) known (winners world.harts) none_open g saw (slot_address image.image x.reloc) (fits (slot_address image.image x.reloc) place) at (load_word w.machine world.journal lawful g.owner g.slot) x.taken
      (doubleword world.words (slot_address image.image x.reloc)).value x.holds
      ((sound.holds.words (slot_address image.image x.reloc) place).slot (known.begins.role image.image g.slot x.reloc image.there x.at))

-- ---- a run

-- a sound world in which lost grants see their slots
record Seen (w : Setting) (world : World) : Type 0 where
  pub sound : Sound w world
  pub sees : SeesSlots world

start_sees : (w : Setting) (setup : Setup) (world : World) → IsStarted w setup world → SeesSlots world
start_sees w setup world is g saw i there lost inside serial = absurd (none_in g (subst (λ (gs : List Granting). Contains gs g) (start_grants w setup world is) there))

-- the laws of turns and runs that this stands on
pub record RunLaws : Type 1 where
  pub know : (m : Machine) → AcceptsOnly m → Know m
  pub turns : TurnsAreSound
  pub begins : FinalsBeginSound
  pub lacks : FinalsLackSound
  pub seen : TurnsKeepSeen
  pub runs : RunsAreSound
  pub settle : RunsSettle
  pub finish : RunsFinish

module _ (laws : RunLaws) (w : Setting) (only : AcceptsOnly w.machine) where
  turn_seen : (h : ℕ) (old new : World) → Seen w old → Turn w h old new → Seen w new
  turn_seen h old new x turn =
      record { sound = laws.turns w h old new only x.sound turn; sees = laws.seen w h old new only x.sound turn x.sees }

  finals_seen : (registers : Registers) (old new : World) → Finalises w registers old new → Seen w old → Seen w new
  finals_seen registers old new final x = finals w (Seen w) turn_seen registers old new
      (λ begun b. record { sound = laws.begins w registers old begun b x.sound; sees = begins_sees registers old begun b x.sees })
      (λ lack. record { sound = laws.lacks w old new only x.sound lack; sees = lacks_sees w (laws.know w.machine only) old new lack x.sound x.sees })
      final x

  pub run_sees : (setup : Setup) (items : List TurnItem) (world : World) → Run w setup items world → SeesSlots world
  run_sees setup items world run =
      let sounds = laws.runs w setup items world run only in
      let started : Seen w run.started = record { sound = sounds.started; sees = start_sees w setup run.started run.starts } in
      let constructed : Seen w run.constructed = constructs w (Seen w) turn_seen run.started run.constructed run.constructs started in
      let scheduled : Seen w run.scheduled = items_keep w (Seen w) turn_seen items run.constructed run.scheduled run.follows constructed in
      let finished : Seen w run.finished = finishes w (Seen w) turn_seen run.scheduled run.finished run.finishes scheduled in
      let finalised : Seen w run.finalised = finals_seen (starting_registers run.entry) run.finished run.finalised run.finalises finished in
      subst SeesSlots (sym run.ends) (settled_sees w (laws.know w.machine only) run.finalised finalised.sound finalised.sees)

pub runs_whole : RunLaws → RunsAreWhole
runs_whole laws w setup items world only run =
    let sound : Sound w world = (laws.runs w setup items world run only).ended in
    let none_open = laws.settle w setup items world run only in
    record {
      settled = none_open;
      lost = lost_settled w only (laws.know w.machine only) world sound (run_sees laws w only setup items world run) none_open;
      finished = laws.finish w setup items world run;
    }
