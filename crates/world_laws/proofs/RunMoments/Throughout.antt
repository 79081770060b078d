-- What holds of each world that a run may come to, and from each to each later one; and so of each run.
use Rattle.std.proofs.Common.{◌≡◌, ℕ, Bool, true, false, cond, List, [], ◌++◌, Some, Contains, refl, sym, subst, append-nil}
use Rattle.std.specs.List.{slice_get}
use Rattle.ld_base.specs.declared.object.Reloc.{Reloc}
use Rattle.history_event.specs.declared.event.Event.{Event}
use Rattle.history_calls.specs.declared.link_served.startup.Setup.{Setup}
use Rattle.history_state.specs.Accepted.{AcceptsOnly}
use Rattle.history_state.specs.After.{after}
use Rattle.history_state.specs.Laws.{slot_address}
use Rattle.history_state.specs.Legal.{Lawful, Legal}
use Rattle.history_state.specs.Setting.{Machine, Setting}
use Rattle.history_state.specs.State.{Linked}
use Rattle.history_state.specs.Lemmas.History.{legal_is_lawful}
use Rattle.history_state.specs.Lemmas.Map.{Mapped}
use Rattle.history_memory.specs.Holds.{IsSlotAt}
use Rattle.link_open_images.specs.NewBlocks.Laws.{HartsHaveNewBlocks}
use Rattle.hart_moves.specs.Moves.{settles}
use Rattle.world_turns.specs.declared.schedules.schedule.TurnItem.{TurnItem}
use Rattle.world_turns.specs.Laws.{SoundIsSlotTrue}
use Rattle.world_turns.specs.Memory.{memory_of}
use Rattle.world_turns.specs.Run.{Run, settled}
use Rattle.world_turns.specs.Sound.{Sound}
use Rattle.world_turns.specs.World.{World, found_journal, settling, winners}
use Rattle.world_laws.specs.WorldSlots.Later.{IsReached, Later, Part, Steps}
use Rattle.world_laws.specs.WorldSlots.Laws.{LaterIsSound, LaterKeepsSlots, RunsGoOn}
use Rattle.world_laws.specs.WorldSlots.Lemmas.Joined.{joined}
use Rattle.world_laws.specs.RunMoments.Laws.{IsTrueThroughout, JournalsAreTrue, ReachedIsTrue, ReachedStaysTrue, RunsAreTrue, TurnsAreTrue}
use Rattle.world_laws.specs.RunMoments.OfWords.{SlotsAreTrue}
use Rattle.world_laws.specs.RunMoments.True.{ClosesItsOwn, IsTrueAt, StaysTrue}
use Rattle.world_laws.proofs.RunMoments.Answered.{answers_look_up, enters_its_slot}
use Rattle.world_laws.proofs.RunMoments.Ended.{AllAreTold, last_ends, later_told, start_told}
use Rattle.world_laws.proofs.RunMoments.Entered.{leads_so}
use Rattle.world_laws.proofs.RunMoments.Framed.{FrameLaws, closes_own, later_stands, stands_sound, start_stands}
use Rattle.world_laws.proofs.RunMoments.Grown.{later_has_more}
use Rattle.world_laws.proofs.RunMoments.Inside.{grants_in_calls}
use Rattle.world_laws.proofs.RunMoments.Made.{grants_made}
use Rattle.world_laws.proofs.RunMoments.Own.{locates_own}
use Rattle.world_laws.proofs.RunMoments.Standing.{closings_stand}
use Rattle.world_laws.proofs.RunMoments.Unmapped.{UnmapLaws, answers_dlclose, returns_behind}

-- ---- turns

pub record TurnLaws : Type 0 where
  pub new_blocks : HartsHaveNewBlocks
  pub unmaps : UnmapLaws

pub turns_true : TurnLaws → TurnsAreTrue
turns_true laws w past h b c did only legal moves =
    let behind = returns_behind laws.unmaps w past h b c did only legal moves in
    record {
      grants = grants_in_calls w past h b c did moves;
      enters = enters_its_slot w past h b c did moves;
      locates = locates_own laws.new_blocks w past h b c did moves;
      finds = answers_look_up w past h b c did moves;
      closes = answers_dlclose w past h b c did moves;
      stand = closings_stand w past h b c did moves behind;
      returns_behind = behind;
    }

-- ---- a world

pub record MomentLaws (m : Machine) : Type 0 where
  pub mapped : (journal : List Event) → Lawful m journal → Mapped (after journal)
  pub stands : (journal : List Event) (i : Linked) (slot : ℕ) (r : Reloc) → Lawful m journal → Contains (after journal).images i
      → slice_get i.object.plt_relocs slot ≡ Some r → IsSlotAt (after journal) (slot_address i r) i.serial slot
  pub journals : JournalsAreTrue
  pub slot_true : SoundIsSlotTrue
  pub sound : LaterIsSound
  pub slots : LaterKeepsSlots
  pub frames : FrameLaws
  pub turns : TurnsAreTrue

module _ (w : Setting) (laws : MomentLaws w.machine) (only : AcceptsOnly w.machine) where
  slots_true : (world : World) → Sound w world → SlotsAreTrue (after world.journal) (winners world.harts) (memory_of world.words)
  slots_true world sound =
      let slots = laws.slot_true w world only sound in
      let lawful = legal_is_lawful w world.journal sound.legal in
      record {
        holds = sound.holds;
        slots = slots;
        lead = λ i slot r there at.
            leads_so w world.journal (laws.mapped world.journal lawful) (laws.journals w world.journal only sound.legal)
            (winners world.harts) i slot r there at (laws.stands world.journal i slot r lawful there at)
            ((memory_of world.words).value (slot_address i r)) (slots.holds i slot r there at);
      }

  -- what is settled first leaves the journal legal
  found_legal : (world : World) → Sound w world → (part : Part) (t : Bool) → Legal w (world.journal ++ cond t (settling world.harts) [])
  found_legal world sound part true =
      (laws.sound w part part world (settled world) only sound
      (Later.one_more part part part world (settled world) (settled world) (Steps.by_settling part world (settled world) refl) (Later.no_more part (settled world)))).legal
  found_legal world sound part false = subst (Legal w) (sym (append-nil world.journal)) sound.legal

  true_at : (part : Part) (world : World) → Sound w world → ClosesItsOwn world → AllAreTold world → IsTrueAt w world
  true_at part world sound own told = record {
    journal = laws.journals w world.journal only sound.legal;
    slots = slots_true world sound;
    harts = record { all = sound.harts; fits = sound.fits; closes_own = own; ends = λ h b reason at over. (told h b at).over reason over };
    next = λ h b c did at moves. laws.turns w (found_journal world did) h b c did only (found_legal world sound part (settles did)) moves;
  }

  -- ---- every interleaving

  pub reached_true : (setup : Setup) (part : Part) (world : World) → IsReached w setup part world → IsTrueAt w world
  reached_true setup part world x =
      let stands = later_stands laws.frames w only Part.of_program part x.start world x.leads (start_stands laws.frames w only setup x.start x.starts) in
      let told = later_told w Part.of_program part x.start world x.leads (start_told w setup x.start x.starts) in
      true_at part world (stands_sound w part world stands) (closes_own w part world stands) told

  pub reached_stays : (setup : Setup) (part other : Part) (old new : World) → IsReached w setup part old → Later w part old other new
      → IsReached w setup other new × StaysTrue old new
  reached_stays setup part other old new x later =
      let stands = later_stands laws.frames w only Part.of_program part x.start old x.leads (start_stands laws.frames w only setup x.start x.starts) in (
        record { start = x.start; starts = x.starts; leads = joined w Part.of_program part other x.start old new x.leads later },
        record {
          journal = later_has_more w part other old new later;
          slots = λ i slot r there behind at taken. laws.slots w part other old new i slot r only (stands_sound w part old stands) later there behind at taken;
        },
      )

pub reached_is_true : ((m : Machine) → AcceptsOnly m → MomentLaws m) → ReachedIsTrue
reached_is_true laws w setup part world only x = reached_true w (laws w.machine only) only setup part world x

pub reached_stays_true : ((m : Machine) → AcceptsOnly m → MomentLaws m) → ReachedStaysTrue
reached_stays_true laws w setup part other old new only x later = reached_stays w (laws w.machine only) only setup part other old new x later

-- ---- a run

module _ (is_true : ReachedIsTrue) (stays : ReachedStaysTrue) (go : RunsGoOn) (w : Setting) (setup : Setup) (items : List TurnItem) (world : World)
    (run : Run w setup items world)
    (only : AcceptsOnly w.machine) where
  -- it goes from its start to its end
  goes : (part : Part) × Later w Part.of_program run.started part world
  goes =
      let on = go w setup items world run in
      let program : Part = Part.of_program in (
        on.last,
        joined w program program on.last run.started run.constructed world on.constructed
            (joined w program program on.last run.constructed run.scheduled world on.scheduled
            (joined w program program on.last run.scheduled run.finished world on.finished
            (joined w program on.last on.last run.finished run.finalised world on.finalised on.ended))),
      )

  reached : (part : Part) (moment : World) → Later w Part.of_program run.started part moment → IsReached w setup part moment
  reached part moment leads = record { start = run.started; starts = run.starts; leads = leads }

  pub throughout : IsTrueThroughout run
  unfolding goes
  throughout = record {
    goes = go w setup items world run;
    each = λ part moment leads. is_true w setup part moment only (reached part moment leads);
    later = λ part other old new leads later. (stays w setup part other old new only (reached part old leads) later).1;
    ends = λ last are.
        let harts = (is_true w setup goes.0 world only (reached goes.0 world goes.1)).harts in
        last_ends w.machine.harts world.harts (after world.journal).endings harts.all harts.ends last are;
    made = λ k number hart owner slot value choice at. grants_made w setup goes.0 world k number hart owner slot value choice (reached goes.0 world goes.1) at;
  }

pub runs_true : ReachedIsTrue → ReachedStaysTrue → RunsGoOn → RunsAreTrue
runs_true is_true stays go w setup items world run only = throughout is_true stays go w setup items world run only
