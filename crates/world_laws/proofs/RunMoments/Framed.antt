-- What a hart has still to finalise and to unmap for a dlclose is of a closing of its own, in each world that a run may come to.
use Rattle.std.proofs.Common.{◌≡◌, ⊎_elim, ℕ, zero, suc, true, false, List, [], ◌∷◌, Option, Some, None, sym, ap, subst, ◌∙◌}
use Rattle.std.specs.List.{Contains, list_all, slice_get}
use Rattle.std.specs.Option.{is_some}
use Rattle.std.proofs.lemmas.Bool.{and_parts, true≢false}
use Rattle.std.proofs.lemmas.Option.{none-some}
use Rattle.std.proofs.lemmas.List.Elements.{Contains-append_cases}
use Rattle.history_event.specs.declared.handed.Function.{Function}
use Rattle.history_event.specs.declared.hart_end.HartEnd.{HartEnd}
use Rattle.history_event.specs.declared.hart_end.HartEnd.TheVariants as ends
use Rattle.history_calls.specs.declared.link_served.startup.Setup.{Setup}
use Rattle.history_calls.specs.Lemmas.Unique.{both_found}
use Rattle.history_state.specs.Accepted.{AcceptsOnly}
use Rattle.history_state.specs.After.{after}
use Rattle.history_state.specs.Setting.{Setting}
use Rattle.history_state.specs.State.{State}
use Rattle.history_state.specs.Lemmas.Lists.{first_or_later, none_in, only_in}
use Rattle.hart_moves.specs.Harts.{Frame, HartState, Purpose}
use Rattle.hart_moves.specs.Moves.{ended}
use Rattle.hart_moves.specs.TurnFrames.Closings.{closing_frame}
use Rattle.world_turns.specs.Laws.{StartIsSound}
use Rattle.world_turns.specs.Run.{IsStarted, LacksMemory, settled}
use Rattle.world_turns.specs.Sound.{Sound}
use Rattle.world_turns.specs.Turn.{Turn}
use Rattle.world_turns.specs.World.{World}
use Rattle.world_turns.specs.WorldEnds.Ends.{BeforeFinals, InFinals, has_exited}
use Rattle.world_turns.specs.WorldEnds.Laws.{FinalsBegin, FinalsLack, SettlingKeepsBefore, SettlingKeepsInFinals, StartFits, TurnsKeepBefore, TurnsKeepFinals}
use Rattle.world_turns.specs.WorldFrames.Belong.{AreFramesOf, FramesBelong, IsFrameOf, Origin}
use Rattle.world_turns.specs.WorldFrames.Finals.{FinalsBelong, final_frame}
use Rattle.world_turns.specs.WorldFrames.Laws.{FinalsBeginBelong, FinalsKeepFrames, SettlingKeepsFinals, SettlingKeepsFrames, StartBelongs, TurnsKeepFrames}
use Rattle.world_laws.specs.WorldSlots.Later.{Later, Part, Steps}
use Rattle.world_laws.specs.WorldSlots.Laws.{LaterIsSound}
use Rattle.world_laws.specs.RunMoments.True.{ClosesItsOwn}

pub record FrameLaws : Type 0 where
  pub start_sound : StartIsSound
  pub sound : LaterIsSound
  pub start_ends : StartFits
  pub turns_end : TurnsKeepBefore
  pub finals_end : TurnsKeepFinals
  pub finals_begin : FinalsBegin
  pub finals_lack : FinalsLack
  pub settled_before : SettlingKeepsBefore
  pub settled_finals : SettlingKeepsInFinals
  pub start : StartBelongs
  pub turns : TurnsKeepFrames
  pub begin : FinalsBeginBelong
  pub finals : FinalsKeepFrames
  pub settling : SettlingKeepsFrames
  pub settling_finals : SettlingKeepsFinals

-- ---- frames

frame_of : (s : State) (h to : ℕ) (set : List ℕ) (queue : List Function) (o : Origin) → IsFrameOf s h o (Purpose.of_closing to set) queue
    → Contains s.closings (record { hart = h; set = set })
frame_of s h to set queue (Origin.opening l) x = absurd x
frame_of s h to set queue (Origin.closing c) x =
    subst (λ (xs : List ℕ). Contains s.closings (record { hart = h; set = xs })) x.whole
    (subst (λ (n : ℕ). Contains s.closings (record { hart = n; set = c.set })) x.by x.there)

among : (s : State) (h to : ℕ) (set : List ℕ) (queue : List Function) (origins : List Origin) (frames : List Frame) → AreFramesOf s h origins frames
    → Contains frames (closing_frame to set queue) → Contains s.closings (record { hart = h; set = set })
among s h to set queue [] [] are there = absurd (none_in (closing_frame to set queue) there)
among s h to set queue [] (frame ∷ below) are there = absurd are
among s h to set queue (o ∷ origins) [] are there = absurd are
among s h to set queue (o ∷ origins) (frame ∷ below) are there = ⊎_elim
    (λ (same : frame ≡ closing_frame to set queue). frame_of s h to set queue o (subst (λ (f : Frame). IsFrameOf s h o f.purpose f.queue) same are.0))
    (λ (behind : Contains below (closing_frame to set queue)). among s h to set queue origins below are.1 behind)
    (first_or_later frame below (closing_frame to set queue) there)

not_final : (code to : ℕ) (f : Function) (set : List ℕ) (queue : List Function) → final_frame code f ≡ closing_frame to set queue → ⊥
not_final code to f set queue same = let no : Purpose.of_end code ≡ Purpose.of_closing to set = ap (λ (x : Frame). x.purpose) same in cc

-- ---- harts that have ended

not_exited : (b : HartState) → b.«end» ≡ None → has_exited b ≡ false
not_exited b runs = ap (λ (e : Option HartEnd). is_some (elim e [ Some reason ↦ elim reason [ ends.Exit code ↦ Some code | _ ↦ None ] | None ↦ None ])) runs

exited_ended : (others : List HartState) (h : ℕ) (b : HartState) → list_all has_exited others ≡ true → slice_get others h ≡ Some b → b.«end» ≡ None → ⊥
exited_ended [] h b over at runs = absurd (none-some b at)
exited_ended (o ∷ rest) zero b over at runs =
    let same : o ≡ b = cc in true≢false (sym (and_parts (has_exited o) (list_all has_exited rest) over).0 ∙ ap has_exited same ∙ not_exited b runs)
exited_ended (o ∷ rest) (suc h) b over at runs = exited_ended rest h b (and_parts (has_exited o) (list_all has_exited rest) over).1 at runs

-- ---- a world

others_over : (w : Setting) (world : World) → InFinals w world → (h : ℕ) (b : HartState) → slice_get world.harts (suc h) ≡ Some b → b.«end» ≡ None → ⊥
others_over w world x h b at runs = exited_ended x.others h b x.over (ap (λ (bs : List HartState). slice_get bs (suc h)) (sym x.harts) ∙ at) runs

before_own : (world : World) → FramesBelong world → ClosesItsOwn world
before_own world belong h b to set queue at runs there =
    let fit = belong h b at in among (after world.journal) h to set queue fit.origins b.frames fit.are there

finals_own : (w : Setting) (world : World) → InFinals w world → FinalsBelong w world → ClosesItsOwn world
finals_own w world over belong zero b to set queue at runs there =
    let fits = belong b at runs in
    ⊎_elim
    (λ (above : Contains fits.above (closing_frame to set queue)). among (after world.journal) 0 to set queue fits.fit.origins fits.above fits.fit.are above)
    (λ (last : Contains (final_frame fits.code fits.function ∷ []) (closing_frame to set queue)).
    absurd (not_final fits.code to fits.function set queue (only_in (final_frame fits.code fits.function) (closing_frame to set queue) last)))
    (Contains-append_cases fits.above (final_frame fits.code fits.function ∷ []) (closing_frame to set queue)
    (subst (λ (fs : List Frame). Contains fs (closing_frame to set queue)) fits.are there))
finals_own w world over belong (suc h) b to set queue at runs there = absurd (others_over w world over h b at runs)

-- where no hart runs, there is nothing in frames
lacking_belong : (w : Setting) (old new : World) → LacksMemory w old new → FinalsBelong w new
lacking_belong w old new lacks b at runs =
    let there : slice_get new.harts zero ≡ Some (ended ends.Memory lacks.first) = ap (λ (z : World). slice_get z.harts zero) lacks.leaves in
    let is : ended ends.Memory lacks.first ≡ b = both_found (slice_get new.harts zero) (ended ends.Memory lacks.first) b there at in
    absurd (none-some ends.Memory (sym (ap (λ (z : HartState). z.«end») is ∙ runs)))

-- ---- the parts of a run

pub record Before (w : Setting) (world : World) : Type 0 where
  pub sound : Sound w world
  pub before : BeforeFinals w world
  pub belong : FramesBelong world

pub record Within (w : Setting) (world : World) : Type 0 where
  pub sound : Sound w world
  pub finals : InFinals w world
  pub belong : FinalsBelong w world

abbrev pub Stands : Setting → Part → World → Type 0
Stands w Part.of_program world = Before w world
Stands w Part.of_finals world = Within w world

pub stands_sound : (w : Setting) (part : Part) (world : World) → Stands w part world → Sound w world
stands_sound w Part.of_program world x = x.sound
stands_sound w Part.of_finals world x = x.sound

pub closes_own : (w : Setting) (part : Part) (world : World) → Stands w part world → ClosesItsOwn world
closes_own w Part.of_program world x = before_own world x.belong
closes_own w Part.of_finals world x = finals_own w world x.finals x.belong

module _ (laws : FrameLaws) (w : Setting) (only : AcceptsOnly w.machine) where
  turn_stands : (part : Part) (h : ℕ) (old new : World) → Sound w new → Turn w h old new → Stands w part old → Stands w part new
  turn_stands Part.of_program h old new sound turn x =
      record { sound = sound; before = laws.turns_end w h old new turn x.before; belong = laws.turns w h old new sound.legal turn x.before x.belong }
  turn_stands Part.of_finals h old new sound turn x =
      record { sound = sound; finals = laws.finals_end w h old new turn x.finals; belong = laws.finals w h old new sound.legal turn x.finals x.belong }

  settled_stands : (part : Part) (world : World) → Sound w (settled world) → Stands w part world → Stands w part (settled world)
  settled_stands Part.of_program world sound x =
      record { sound = sound; before = laws.settled_before w world x.before; belong = laws.settling world x.belong }
  settled_stands Part.of_finals world sound x =
      record { sound = sound; finals = laws.settled_finals w world x.finals; belong = laws.settling_finals w world x.belong }

  step_stands : (part other : Part) (old new : World) → Sound w new → Steps w part old other new → Stands w part old → Stands w other new
  step_stands part other old new sound (Steps.by_turn _ h _ _ turn) x = turn_stands part h old new sound turn x
  step_stands part other old new sound (Steps.by_beginning registers _ _ exited begins) x =
      record { sound = sound; finals = laws.finals_begin w registers old new exited begins x.before; belong = laws.begin w registers old new exited begins x.before }
  step_stands part other old new sound (Steps.by_lacking _ _ exited lacks) x =
      record { sound = sound; finals = laws.finals_lack w old new exited lacks x.before; belong = lacking_belong w old new lacks }
  step_stands part other old new sound (Steps.by_settling _ _ _ is) x =
      subst (Stands w part) (sym is) (settled_stands part old (subst (Sound w) is sound) x)

  pub later_stands : (part other : Part) (old new : World) → Later w part old other new → Stands w part old → Stands w other new
  later_stands part other old new (Later.no_more _ _) x = x
  later_stands part other old new (Later.one_more _ middle _ _ between _ step more) x =
      let sound = laws.sound w part middle old between only (stands_sound w part old x)
      (Later.one_more part middle middle old between between step (Later.no_more middle between)) in
      later_stands middle other between new more (step_stands part middle old between sound step x)

  pub start_stands : (setup : Setup) (world : World) → IsStarted w setup world → Stands w Part.of_program world
  start_stands setup world starts = record {
    sound = laws.start_sound w setup world only starts;
    before = laws.start_ends w setup world starts;
    belong = laws.start w setup world starts;
  }
