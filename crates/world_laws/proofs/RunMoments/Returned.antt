-- A closing stands in its hart's frames, world after world, until its dlclose returns or the hart ends.
use Rattle.std.proofs.Common.{◌≡◌, ⊎_elim, ℕ, zero, suc, eqb, Bool, true, false, cond, IsTrue, List, [], ◌∷◌, map, Some, refl, sym, ap, subst, ◌∙◌}
use Rattle.std.specs.List.{slice_get}
use Rattle.std.specs.Prelude.{slice_set}
use Rattle.std.proofs.lemmas.Bool.{eq-eqb, eqb-true, true≢false}
use Rattle.std.proofs.lemmas.Option.{none-some}
use Rattle.history_calls.specs.declared.link_served.startup.Setup.{Setup}
use Rattle.history_calls.specs.Lemmas.Unique.{both_found}
use Rattle.history_state.specs.Accepted.{AcceptsOnly}
use Rattle.history_state.specs.Setting.{Setting}
use Rattle.hart_moves.specs.Harts.{Frame, HartState}
use Rattle.hart_moves.specs.Moves.{freed, settles}
use Rattle.world_turns.specs.Run.{harts_have_exited}
use Rattle.world_turns.specs.Turn.{Turn}
use Rattle.world_turns.specs.World.{World, found_harts, found_journal}
use Rattle.world_turns.specs.WorldEnds.Ends.{has_exited}
use Rattle.world_turns.specs.WorldEnds.Lemmas.Places.{each_passes, exited_ends, freed_here, reason_of, set_here}
use Rattle.world_laws.specs.WorldSlots.Later.{IsReached, Later, Part, Steps}
use Rattle.world_laws.specs.WorldSlots.Lemmas.Joined.{joined}
use Rattle.world_laws.specs.RunMoments.Laws.{ClosingComes, ClosingsComeToReturn, ReachedIsTrue}
use Rattle.world_laws.specs.RunMoments.OfTurns.{ClosingStands, ReturnsUnmapped}

-- ---- harts

-- another place of a list stays
other_here : (harts : List HartState) (j k : ℕ) (c d : HartState) → (j ≡ k → ⊥) → slice_get harts k ≡ Some d → slice_get (slice_set harts j c) k ≡ Some d
other_here [] j k c d apart at = absurd (none-some d at)
other_here (x ∷ rest) zero zero c d apart at = absurd (apart refl)
other_here (x ∷ rest) zero (suc k) c d apart at = at
other_here (x ∷ rest) (suc j) zero c d apart at = at
other_here (x ∷ rest) (suc j) (suc k) c d apart at = other_here rest j k c d (λ same. apart (ap suc same)) at

-- a hart as a turn finds it has its frames
record Found (harts : List HartState) (h : ℕ) (frames : List Frame) : Type 0 where
  pub hart : HartState
  pub at : slice_get harts h ≡ Some hart
  pub are : hart.frames ≡ frames

found_hart : (harts : List HartState) (t : Bool) (h : ℕ) (b : HartState) → slice_get harts h ≡ Some b → Found (cond t (map freed harts) harts) h b.frames
found_hart harts true h b at = record { hart = freed b; at = freed_here harts h b at; are = refl }
found_hart harts false h b at = record { hart = b; at = at; are = refl }

module _ (is_true : ReachedIsTrue) (w : Setting) (setup : Setup) (only : AcceptsOnly w.machine) (h to : ℕ) (set : List ℕ) (below : List Frame) where
  abbrev Comes : Part → World → Type 0
  Comes part world = ClosingComes w setup part world h to set below

  stands_in : (part : Part) (world : World) (frames : List Frame) → Found world.harts h frames → ClosingStands frames to set below → Comes part world
  stands_in part world frames found x = ClosingComes.stands found.hart found.at (subst (λ (fs : List Frame). ClosingStands fs to set below) (sym found.are) x)

  -- another hart's turn leaves it
  by_other : (part : Part) (j : ℕ) (old new : World) (turn : Turn w j old new) (b : HartState) → (j ≡ h → ⊥) → slice_get old.harts h ≡ Some b
      → ClosingStands b.frames to set below → Comes part new
  by_other part j old new turn b apart at x =
      let found = found_hart old.harts (settles turn.did) h b at in
      let there : slice_get new.harts h ≡ Some found.hart =
      ap (λ (bs : List HartState). slice_get bs h) turn.harts ∙ other_here (found_harts old turn.did) j h turn.left found.hart apart found.at in
      stands_in part new b.frames (record { hart = found.hart; at = there; are = found.are }) x

  -- its own hart's turn leaves it, too, or returns
  by_own : (part : Part) (old new : World) → IsReached w setup part old → Turn w h old new → (b : HartState) → slice_get old.harts h ≡ Some b
      → ClosingStands b.frames to set below → Comes part new
  by_own part old new reached turn b at x =
      let same : turn.before ≡ b = both_found (slice_get old.harts h) turn.before b turn.there at in
      let next = (is_true w setup part old only reached).next h turn.before turn.left turn.did turn.there turn.moves in
      let found = found_hart old.harts (settles turn.did) h turn.before turn.there in
      let there : slice_get new.harts h ≡ Some turn.left =
      ap (λ (bs : List HartState). slice_get bs h) turn.harts ∙ set_here (found_harts old turn.did) h found.hart turn.left found.at in
      ⊎_elim
      (λ (still : ClosingStands turn.left.frames to set below). ClosingComes.stands turn.left there still)
      (λ (y : ReturnsUnmapped (found_journal old turn.did) h to set turn.before turn.did turn.left × (turn.left.frames ≡ below)).
      ClosingComes.returned part old new turn reached (Later.no_more part new) y.0 y.1)
      (next.stand to set below (subst (λ (d : HartState). ClosingStands d.frames to set below) (sym same) x))

  by_turn : (part : Part) (j : ℕ) (old new : World) → IsReached w setup part old → Turn w j old new → (t : Bool) → eqb j h ≡ t → (b : HartState)
      → slice_get old.harts h ≡ Some b
      → ClosingStands b.frames to set below → Comes part new
  by_turn part j old new reached turn true is b at x = by_own part old new reached (subst (λ (n : ℕ). Turn w n old new) (eqb-true j h is) turn) b at x
  by_turn part j old new reached turn false is b at x = by_other part j old new turn b (λ same. true≢false (sym (eq-eqb j h same) ∙ is)) at x

  -- every hart has ended when the final destructors begin
  by_end : (part middle : Part) (old new : World) → IsReached w setup part old → Steps w part old middle new → IsTrue (harts_have_exited old)
      → (b : HartState) → slice_get old.harts h ≡ Some b
      → Comes middle new
  by_end part middle old new reached step exited b at =
      let over = reason_of b (exited_ends b (each_passes has_exited old.harts h b exited at)) in
      ClosingComes.ended part old b over.0 reached (Later.one_more part middle middle old new new step (Later.no_more middle new)) at over.1

  step_comes : (part middle : Part) (old new : World) → IsReached w setup part old → Steps w part old middle new → (b : HartState)
      → slice_get old.harts h ≡ Some b
      → ClosingStands b.frames to set below → Comes middle new
  step_comes part middle old new reached (Steps.by_turn _ j _ _ turn) b at x = by_turn part j old new reached turn (eqb j h) refl b at x
  step_comes part middle old new reached (Steps.by_beginning registers _ _ exited begins) b at x =
      by_end Part.of_program Part.of_finals old new reached (Steps.by_beginning registers old new exited begins) exited b at
  step_comes part middle old new reached (Steps.by_lacking _ _ exited lacks) b at x =
      by_end Part.of_program Part.of_finals old new reached (Steps.by_lacking old new exited lacks) exited b at
  step_comes part middle old new reached (Steps.by_settling _ _ _ is) b at x =
      let there : slice_get new.harts h ≡ Some (freed b) = ap (λ (world : World). slice_get world.harts h) is ∙ freed_here old.harts h b at in
      ClosingComes.stands (freed b) there x

  -- ---- world after world

  next_reached : (part middle : Part) (old between : World) → IsReached w setup part old → Steps w part old middle between → IsReached w setup middle between
  next_reached part middle old between x step = record {
    start = x.start;
    starts = x.starts;
    leads = joined w Part.of_program part middle x.start old between x.leads
        (Later.one_more part middle middle old between between step (Later.no_more middle between));
  }

  -- what it came to in a world, and from there on
  carry : (middle other : Part) (between new : World) → Later w middle between other new
      → ((d : HartState) → slice_get between.harts h ≡ Some d → ClosingStands d.frames to set below → Comes other new) → Comes middle between → Comes other new
  carry middle other between new more on (ClosingComes.stands d there still) = on d there still
  carry middle other between new more on (ClosingComes.returned before one next turn from till so below_so) =
      ClosingComes.returned before one next turn from (joined w before middle other next between new till more) so below_so
  carry middle other between new more on (ClosingComes.ended before one d reason from till there over) =
      ClosingComes.ended before one d reason from (joined w before middle other one between new till more) there over

  later_comes : (part other : Part) (old new : World) → IsReached w setup part old → Later w part old other new → (b : HartState)
      → slice_get old.harts h ≡ Some b
      → ClosingStands b.frames to set below → Comes other new
  later_comes part other old new reached (Later.no_more _ _) b at x = ClosingComes.stands b at x
  later_comes part other old new reached (Later.one_more _ middle _ _ between _ step more) b at x =
      carry middle other between new more (later_comes middle other between new (next_reached part middle old between reached step) more)
      (step_comes part middle old between reached step b at x)

pub come_to_return : ReachedIsTrue → ClosingsComeToReturn
come_to_return is_true w setup part other old new h to b set below only reached later at x =
    later_comes is_true w setup only h to set below part other old new reached later b at x
