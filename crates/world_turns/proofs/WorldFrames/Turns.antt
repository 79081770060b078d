-- Turns keep frames those of openings and closings, before the final destructors.
use Rattle.std.proofs.Common.{◌≡◌, ◌≢◌, ⊎_elim, ℕ, Bool, true, false, cond, eqb, List, ◌++◌, map, Some, refl, sym, ap, subst, ◌∙◌}
use Rattle.std.specs.Prelude.{slice_set}
use Rattle.std.specs.List.{slice_get}
use Rattle.std.proofs.lemmas.Bool.{eq-eqb, eqb-true, true≢false}
use Rattle.history_event.specs.declared.event.Event.{Event}
use Rattle.history_state.specs.After.{after}
use Rattle.history_state.specs.Legal.{Lawful, Legal}
use Rattle.history_state.specs.Setting.{Machine, Setting}
use Rattle.history_state.specs.Lemmas.History.{legal_is_lawful}
use Rattle.history_calls.specs.Lemmas.Unique.{both_found}
use Rattle.hart_moves.specs.Harts.{HartState}
use Rattle.hart_moves.specs.Moves.{events_of, freed, settles}
use Rattle.world_turns.specs.Turn.{Turn}
use Rattle.world_turns.specs.World.{World, found_harts, found_journal}
use Rattle.world_turns.specs.Lemmas.Events.{legal_front}
use Rattle.world_turns.specs.Lemmas.Turning.{freed_at}
use Rattle.world_turns.specs.WorldEnds.Ends.{BeforeFinals}
use Rattle.world_turns.specs.WorldEnds.Lemmas.Places.{at_set, freed_here, set_here}
use Rattle.world_turns.specs.WorldFrames.Belong.{FramesBelong, FramesFit}
use Rattle.world_turns.specs.WorldFrames.Laws.{TurnsKeepFrames}
use Rattle.world_turns.specs.WorldFrames.Lemmas.Origins.{found_frames}
use Rattle.world_turns.specs.WorldFrames.Lemmas.Leaving.{FrameLaws, Left, left_by_move}

-- ---- a turn

module _ (w : Setting) (laws : FrameLaws w.machine) (h : ℕ) (old new : World) (legal : Legal w new.journal) (turn : Turn w h old new) (before : BeforeFinals w old) (belong : FramesBelong old) where
  abbrev past : List Event
  past = found_journal old turn.did

  abbrev harts : List HartState
  harts = found_harts old turn.did

  past_lawful : Lawful w.machine past
  past_lawful = legal_is_lawful w past (legal_front w past (events_of turn.did) (subst (Legal w) turn.journal legal))

  fits_past : (j : ℕ) (b : HartState) → slice_get old.harts j ≡ Some b → FramesFit (after past) j b.frames
  fits_past j b at = let y = belong j b at in record { origins = y.origins; are = found_frames j y.origins b.frames old turn.did y.are; once = y.once }

  x : FramesFit (after past) h turn.before.frames
  x = fits_past h turn.before turn.there

  it : Left w laws past past_lawful h turn.before.frames turn.left.frames x (events_of turn.did)
  it = left_by_move w laws past past_lawful h turn.before turn.left turn.did (before.none h turn.before turn.there) x turn.moves

  -- a hart that the turn finds has its frames
  was_there : (t : Bool) (j : ℕ) (b : HartState) → slice_get (cond t (map freed old.harts) old.harts) j ≡ Some b → (c : HartState) × (slice_get old.harts j ≡ Some c) × (b.frames ≡ c.frames)
  was_there true j b at = let y = freed_at old.harts j b at in (y.0, y.1, ap (λ (z : HartState). z.frames) (sym y.2))
  was_there false j b at = (b, at, refl)

  found_here : (t : Bool) → (b : HartState) × (slice_get (cond t (map freed old.harts) old.harts) h ≡ Some b)
  found_here true = (freed turn.before, freed_here old.harts h turn.before turn.there)
  found_here false = (turn.before, turn.there)

  own_fits : (j : ℕ) (b : HartState) → j ≡ h → slice_get (slice_set harts h turn.left) j ≡ Some b → FramesFit (after (past ++ events_of turn.did)) j b.frames
  own_fits j b same at =
      let y = found_here (settles turn.did) in
      let left_is : turn.left ≡ b = both_found (slice_get (slice_set harts h turn.left) h) turn.left b (set_here harts h y.0 turn.left y.1) (ap (λ (n : ℕ). slice_get (slice_set harts h turn.left) n) (sym same) ∙ at) in
      subst (λ (n : ℕ). FramesFit (after (past ++ events_of turn.did)) n b.frames) (sym same) (subst (λ (c : HartState). FramesFit (after (past ++ events_of turn.did)) h c.frames) left_is it.own)

  other_fits : (j : ℕ) (b : HartState) → j ≢ h → slice_get (slice_set harts h turn.left) j ≡ Some b → FramesFit (after (past ++ events_of turn.did)) j b.frames
  other_fits j b differs at = ⊎_elim
      (λ (y : (j ≡ h) × (b ≡ turn.left)). absurd (differs y.0))
      (λ (y : slice_get harts j ≡ Some b).
      let c = was_there (settles turn.did) j b y in
      let fit = fits_past j c.0 c.1 in
      subst (FramesFit (after (past ++ events_of turn.did)) j) (sym c.2) (record { origins = fit.origins; are = it.others j fit.origins c.0.frames differs fit.are; once = fit.once }))
      (at_set harts h turn.left j b at)

  all_fit : (j : ℕ) (b : HartState) (t : Bool) → eqb j h ≡ t → slice_get (slice_set harts h turn.left) j ≡ Some b → FramesFit (after (past ++ events_of turn.did)) j b.frames
  all_fit j b true e at = own_fits j b (eqb-true j h e) at
  all_fit j b false e at = other_fits j b (λ same. true≢false (sym (eq-eqb j h same) ∙ e)) at

  pub belongs_so : FramesBelong new
  belongs_so j b at = subst (λ (es : List Event). FramesFit (after es) j b.frames) (sym turn.journal) (all_fit j b (eqb j h) refl (subst (λ (bs : List HartState). slice_get bs j ≡ Some b) turn.harts at))

pub turns_keep : ((m : Machine) → FrameLaws m) → TurnsKeepFrames
turns_keep laws w h old new legal turn before belong = belongs_so w (laws w.machine) h old new legal turn before belong
