-- From a world of a run to a later one: it is sound, what it maps was mapped, and slots read the same.
use Rattle.std.proofs.Common.{◌≡◌, ◌≢◌, ℕ, ◌<◌, ◌≤◌, List, [], ◌∷◌, ◌++◌, length, Some, refl, sym, ap, subst, ◌∙◌, append-nil, append_assoc, le_trans, arith}
use Rattle.std.specs.List.{Contains, slice_get}
use Rattle.std.proofs.Math.Seq.{take-append_seam}
use Rattle.ld_base.specs.declared.object.Reloc.{Reloc}
use Rattle.history_event.specs.declared.event.Event.{Event}
use Rattle.history_event.specs.declared.event.Event.TheVariants as events
use Rattle.history_event.specs.declared.hart_end.HartEnd.TheVariants as ends
use Rattle.rv_hart.specs.Registers.{Registers}
use Rattle.history_state.specs.Accepted.{AcceptsOnly}
use Rattle.history_state.specs.After.{after}
use Rattle.history_state.specs.Allowed.{Allowed}
use Rattle.history_state.specs.Laws.{ImagesAreMapped, slot_address}
use Rattle.history_state.specs.Legal.{Lawful, Legal}
use Rattle.history_state.specs.Setting.{Machine, Setting}
use Rattle.history_state.specs.State.{Linked, State}
use Rattle.history_state.specs.Lemmas.Brought.{LoadLaws}
use Rattle.history_state.specs.Lemmas.History.{after_push, legal_is_lawful, one_behind}
use Rattle.history_state.specs.Lemmas.Steps.{good_after}
use Rattle.history_memory.specs.Enters.{SlotStays}
use Rattle.history_memory.specs.Holds.{lazy_at}
use Rattle.hart_moves.specs.Moves.{AreAllowed, events_of}
use Rattle.hart_moves.specs.Starting.{starting_registers}
use Rattle.world_turns.specs.Laws.{FinalsBeginSound, FinalsLackSound, SettlingIsSound, TurnsAreSound}
use Rattle.world_turns.specs.Memory.{doubleword, memory_of}
use Rattle.world_turns.specs.Run.{RunBegins, RunEnds, Finalises, LacksMemory, settled}
use Rattle.world_turns.specs.Sound.{Sound}
use Rattle.world_turns.specs.Turn.{Turn}
use Rattle.world_turns.specs.World.{World, settling}
use Rattle.world_turns.specs.Lemmas.Running.{constructs, finishes, items_keep}
use Rattle.world_turns.specs.WorldEnds.Lemmas.Settled.{settling_keeps}
use Rattle.world_laws.specs.WorldSlots.Later.{Later, Part, Steps}
use Rattle.world_laws.specs.WorldSlots.Lemmas.Joined.{joined}
use Rattle.world_laws.specs.WorldSlots.Laws.{LaterIsSound, LaterKeepsSlots, RunsGoOn, TurnsKeepSlots}
use Rattle.world_laws.specs.WorldSlots.Lemmas.Serials.{SerialLaws, below_grows, next_grows, was_there}

pub record SoundLaws : Type 0 where
  pub turns : TurnsAreSound
  pub begins : FinalsBeginSound
  pub lacks : FinalsLackSound
  pub settles : SettlingIsSound

-- ---- sound worlds

module _ (laws : SoundLaws) (w : Setting) (only : AcceptsOnly w.machine) where
  step_sound : (part other : Part) (old new : World) → Sound w old → Steps w part old other new → Sound w new
  step_sound part other old new x (Steps.by_turn _ h _ _ t) = laws.turns w h old new only x t
  step_sound part other old new x (Steps.by_beginning registers _ _ exited begins) = laws.begins w registers old new begins x
  step_sound part other old new x (Steps.by_lacking _ _ exited lacks) = laws.lacks w old new only x lacks
  step_sound part other old new x (Steps.by_settling _ _ _ is) = subst (Sound w) (sym is) (laws.settles w old only x)

  pub sound_later : (part other : Part) (old new : World) → Sound w old → Later w part old other new → Sound w new
  sound_later part other old new x (Later.no_more _ _) = x
  sound_later part other old new x (Later.one_more _ middle _ _ between _ step more) =
      sound_later middle other between new (step_sound part middle old between x step) more

pub later_is_sound : SoundLaws → LaterIsSound
later_is_sound laws w part other old new only x later = sound_later laws w only part other old new x later

-- ---- journals grow

record Grows (old new : World) : Type 0 where
  pub added : List Event
  pub is : new.journal ≡ old.journal ++ added

step_grows : (w : Setting) (part other : Part) (old new : World) → Steps w part old other new → Grows old new
step_grows w part other old new (Steps.by_turn _ h _ _ t) = turn_grows t
  where
    turn_grows : Turn w h old new → Grows old new
    turn_grows t = record { added = _; is = t.journal ∙ append_assoc old.journal _ (events_of t.did) }
step_grows w part other old new (Steps.by_beginning registers _ _ exited begins) =
    record { added = []; is = ap (λ (y : World). y.journal) begins.begun ∙ sym (append-nil old.journal) }
step_grows w part other old new (Steps.by_lacking _ _ exited lacks) = record {
  added = settling old.harts ++ events.Ended 0 ends.Memory ∷ [];
  is = ap (λ (y : World). y.journal) lacks.leaves ∙ append_assoc old.journal (settling old.harts) (events.Ended 0 ends.Memory ∷ []);
}
step_grows w part other old new (Steps.by_settling _ _ _ is) = record { added = settling old.harts; is = ap (λ (y : World). y.journal) is }

-- ---- events of legal histories

get_seam : (past rest : List Event) (e : Event) → slice_get (past ++ e ∷ rest) (length past) ≡ Some e
get_seam [] rest e = refl
get_seam (x ∷ past) rest e = get_seam past rest e

next_allowed : (w : Setting) (past rest : List Event) (e : Event) → Legal w (past ++ e ∷ rest) → Allowed w past e
unfolding Legal
next_allowed w past rest e legal =
    subst (λ (es : List Event). Allowed w es e) (take-append_seam past (e ∷ rest)) (legal (length past) e (get_seam past rest e))

all_allowed : (w : Setting) (past added : List Event) → Legal w (past ++ added) → AreAllowed w past added
all_allowed w past [] legal = tt
all_allowed w past (e ∷ rest) legal =
    (next_allowed w past rest e legal, all_allowed w (past ++ e ∷ []) rest (subst (Legal w) (sym (one_behind past e rest)) legal))

all_grow : (past added : List Event) → (after past).next ≤ (after (past ++ added)).next
all_grow past [] =
    let same : (after (past ++ [])).next ≡ (after past).next = ap (λ (es : List Event). (after es).next) (append-nil past) in omega (arith, same)
all_grow past (e ∷ rest) =
    let one : (after past).next ≤ (after (past ++ e ∷ [])).next = subst (λ (s : State). (after past).next ≤ s.next) (sym (after_push past e))
    (next_grows (after past) e) in
    let more : (after (past ++ e ∷ [])).next ≤ (after (past ++ e ∷ rest)).next = subst
    (λ (es : List Event). (after (past ++ e ∷ [])).next ≤ (after es).next) (one_behind past e rest) (all_grow (past ++ e ∷ []) rest) in
    le_trans one more

-- ---- images

pub record ImageLaws (m : Machine) : Type 0 where
  pub load : LoadLaws
  pub serials : SerialLaws m
  pub mapped : (journal : List Event) → Lawful m journal → ImagesAreMapped (after journal)

module _ (w : Setting) (laws : ImageLaws w.machine) where
  -- an image is of an object that was loaded
  image_low : (world : World) → Sound w world → (i : Linked) → Contains (after world.journal).images i → i.serial < (after world.journal).next
  image_low world x i there =
      let lawful = legal_is_lawful w world.journal x.legal in
      let of = (laws.mapped world.journal lawful).image i there in
      subst (λ (n : ℕ). n < (after world.journal).next) of.is
      ((good_after laws.load w.machine world.journal lawful).low of.namespace of.object (of.there, of.inside))

  step_next : (part other : Part) (old new : World) → Steps w part old other new → (after old.journal).next ≤ (after new.journal).next
  step_next part other old new step =
      let x = step_grows w part other old new step in subst (λ (es : List Event). (after old.journal).next ≤ (after es).next) (sym x.is)
      (all_grow old.journal x.added)

  step_was : (part other : Part) (old new : World) → Sound w old → Sound w new → Steps w part old other new → (i : Linked)
      → i.serial < (after old.journal).next
      → Contains (after new.journal).images i → Contains (after old.journal).images i
  step_was part other old new x y step i low there =
      let grown = step_grows w part other old new step in
      was_there w.machine laws.serials w old.journal grown.added refl (legal_is_lawful w old.journal x.legal)
      (all_allowed w old.journal grown.added (subst (Legal w) grown.is y.legal)) i low
      (subst (λ (es : List Event). Contains (after es).images i) grown.is there)

  module _ (sound : SoundLaws) (only : AcceptsOnly w.machine) where
    -- what is mapped later, of an object that was loaded, was mapped
    later_was : (part other : Part) (old new : World) → Sound w old → Later w part old other new → (i : Linked) → i.serial < (after old.journal).next
        → Contains (after new.journal).images i → Contains (after old.journal).images i
    later_was part other old new x (Later.no_more _ _) i low there = there
    later_was part other old new x (Later.one_more _ middle _ _ between _ step more) i low there =
        let y = step_sound sound w only part middle old between x step in
        step_was part middle old between x y step i low (later_was middle other between new y more i
        (below_grows i.serial (after old.journal).next (after between.journal).next low (step_next part middle old between step)) there)

-- ---- a slot

lazy_settled : (old : World) (a : ℕ) → lazy_at (after (old.journal ++ settling old.harts)) a ≡ lazy_at (after old.journal) a
lazy_settled old a = settling_keeps ℕ (λ s. lazy_at s a) (λ s number standing. refl) old.journal old.harts

module _ (keeps : TurnsKeepSlots) (w : Setting) (only : AcceptsOnly w.machine) (i : Linked) (slot : ℕ) (r : Reloc)
    (at : slice_get i.object.plt_relocs slot ≡ Some r) where
  abbrev Stays : World → World → Type 0
  Stays old new = SlotStays (after old.journal) (after new.journal) (memory_of old.words) (memory_of new.words) (slot_address i r)

  abbrev IsTaken : World → Type 0
  IsTaken world = (doubleword world.words (slot_address i r)).value ≢ lazy_at (after world.journal) (slot_address i r)

  both : (old between new : World) → Stays old between → Stays between new → Stays old new
  both old between new x y = record { value = y.value ∙ x.value; lazy = y.lazy ∙ x.lazy }

  taken_still : (old new : World) → Stays old new → IsTaken old → IsTaken new
  taken_still old new x taken lazy = taken (sym x.value ∙ lazy ∙ x.lazy)

  begun_stays : (registers : Registers) (old new : World) → RunBegins registers old new → Stays old new
  begun_stays registers old new x = subst (Stays old) (sym x.begun) (record { value = refl; lazy = refl })

  lacking_stays : (old new : World) → LacksMemory w old new → Stays old new
  lacking_stays old new x = subst (Stays old) (sym x.leaves) (record {
    value = refl;
    lazy = ap (λ (s : State). lazy_at s (slot_address i r))
        (after_push (old.journal ++ settling old.harts) (events.Ended 0 ends.Memory)) ∙ lazy_settled old (slot_address i r);
  })

  settling_stays : (old : World) → Stays old (settled old)
  settling_stays old = record { value = refl; lazy = lazy_settled old (slot_address i r) }

  step_stays : (part other : Part) (old new : World) → Sound w old → Steps w part old other new → Contains (after old.journal).images i
      → Contains (after new.journal).images i → IsTaken old → Stays old new
  step_stays part other old new x (Steps.by_turn _ h _ _ t) there behind taken = keeps w h old new i slot r only x t there behind at taken
  step_stays part other old new x (Steps.by_beginning registers _ _ exited begins) there behind taken = begun_stays registers old new begins
  step_stays part other old new x (Steps.by_lacking _ _ exited lacks) there behind taken = lacking_stays old new lacks
  step_stays part other old new x (Steps.by_settling _ _ _ is) there behind taken = subst (Stays old) (sym is) (settling_stays old)

  pub stays_later : (images : ImageLaws w.machine) → (sound : SoundLaws) → (part other : Part) (old new : World) → Sound w old → Later w part old other new
      → Contains (after old.journal).images i → Contains (after new.journal).images i → IsTaken old → Stays old new
  stays_later images sound part other old new x (Later.no_more _ _) there behind taken = record { value = refl; lazy = refl }
  stays_later images sound part other old new x (Later.one_more _ middle _ _ between _ step more) there behind taken =
      let y = step_sound sound w only part middle old between x step in
      let low : i.serial < (after between.journal).next =
      below_grows i.serial (after old.journal).next (after between.journal).next (image_low w images old x i there)
      (step_next w images part middle old between step) in
      let yet : Contains (after between.journal).images i = later_was w images sound only middle other between new y more i low behind in
      let one : Stays old between = step_stays part middle old between x step there yet taken in
      both old between new one (stays_later images sound middle other between new y more yet behind (taken_still old between one taken))

pub later_keeps_slots : ((m : Machine) → ImageLaws m) → SoundLaws → TurnsKeepSlots → LaterKeepsSlots
later_keeps_slots images sound keeps w part other old new i slot r only x later there behind at taken =
    stays_later keeps w only i slot r at (images w.machine) sound part other old new x later there behind taken

-- ---- a run

a_turn : (w : Setting) (begin : World) (h : ℕ) (old new : World) → Later w Part.of_program begin Part.of_program old → Turn w h old new
    → Later w Part.of_program begin Part.of_program new
a_turn w begin h old new later t =
    joined w Part.of_program Part.of_program Part.of_program begin old new later
    (Later.one_more Part.of_program Part.of_program Part.of_program old new new (Steps.by_turn Part.of_program h old new t) (Later.no_more Part.of_program new))

ends_later : (w : Setting) (old new : World) → RunEnds w old new → Later w Part.of_finals old Part.of_finals new
ends_later w old new (RunEnds.no_more _ all) = Later.no_more Part.of_finals old
ends_later w old new (RunEnds.one_more _ between _ runs t more) =
    Later.one_more Part.of_finals Part.of_finals Part.of_finals old between new (Steps.by_turn Part.of_finals 0 old between t) (ends_later w between new more)

finals_later : (w : Setting) (registers : Registers) (old new : World) → Finalises w registers old new → (last : Part) × Later w Part.of_program old last new
finals_later w registers old new (Finalises.none_runs exited same) =
    (Part.of_program, subst (λ (y : World). Later w Part.of_program old Part.of_program y) (sym same) (Later.no_more Part.of_program old))
finals_later w registers old new (Finalises.none_is_left none same) =
    (Part.of_program, subst (λ (y : World). Later w Part.of_program old Part.of_program y) (sym same) (Later.no_more Part.of_program old))
finals_later w registers old new (Finalises.no_memory exited lacks) =
    (Part.of_finals, Later.one_more Part.of_program Part.of_finals Part.of_finals old new new (Steps.by_lacking old new exited lacks) (Later.no_more Part.of_finals new))
finals_later w registers old new (Finalises.all_run begun exited begins run) = (
  Part.of_finals,
  Later.one_more Part.of_program Part.of_finals Part.of_finals old begun new (Steps.by_beginning registers old begun exited begins)
      (ends_later w begun new run),
)

pub runs_go_on : RunsGoOn
runs_go_on w setup items world run =
    let from : World → World → Type 0 = λ begin new. Later w Part.of_program begin Part.of_program new in
    let finals = finals_later w (starting_registers run.entry) run.finished run.finalised run.finalises in
    record {
      constructed = constructs w (from run.started) (a_turn w run.started) run.started run.constructed run.constructs
          (Later.no_more Part.of_program run.started);
      scheduled = items_keep w (from run.constructed) (a_turn w run.constructed) items run.constructed run.scheduled run.follows
          (Later.no_more Part.of_program run.constructed);
      finished = finishes w (from run.scheduled) (a_turn w run.scheduled) run.scheduled run.finished run.finishes (Later.no_more Part.of_program run.scheduled);
      last = finals.0;
      finalised = finals.1;
      ended = Later.one_more finals.0 finals.0 finals.0 run.finalised world world (Steps.by_settling finals.0 run.finalised world run.ends)
          (Later.no_more finals.0 world);
    }
