-- What a hart's next turn meets.
use Rattle.std.proofs.Common.{◌≡◌, inl, inr, ℕ, Bool, true, false, List, [], ◌∷◌, map, Option, Some, None, IsTrue, refl, sym, ap, subst, ◌∙◌}
use Rattle.std.specs.List.{slice_get}
use Rattle.std.proofs.lemmas.Bool.{false≢true, true≢false}
use Rattle.history_event.specs.declared.handed.Function.{Function}
use Rattle.history_event.specs.declared.hart_end.HartEnd.{HartEnd}
use Rattle.history_state.specs.After.{after}
use Rattle.history_state.specs.Objects.{has}
use Rattle.history_state.specs.Setting.{Setting, have_exited as have_all_exited}
use Rattle.history_state.specs.State.{State}
use Rattle.history_calls.specs.Call.{unmaps}
use Rattle.history_calls.specs.Functions.{passed}
use Rattle.history_calls.specs.Waiting.{HasFinished}
use Rattle.hart_moves.specs.Due.{Due, by_resolving, due}
use Rattle.hart_moves.specs.Harts.{Frame, HartState, Purpose, Resolving}
use Rattle.hart_moves.specs.Moves.{AreAllowed, own_fini, passing}
use Rattle.hart_moves.specs.TurnEvents.Appends.{is_final_frame, is_of_end}
use Rattle.hart_moves.specs.TurnEvents.Lemmas.Dues.{HasRun, IsFrom, within_from}
use Rattle.world_turns.specs.Sound.{Fits}
use Rattle.world_turns.specs.World.{World}
use Rattle.world_turns.specs.WorldEnds.Ends.{EndsFit}
use Rattle.world_turns.specs.WorldEnds.Laws as ends
use Rattle.world_turns.specs.WorldFrames.Belong.{FramesFit}
use Rattle.world_turns.specs.WorldFrames.Finals.{FinalsFit, final_frame}
use Rattle.world_turns.specs.WorldFrames.Laws.{FinalsFinish, FramesFinish, FramesPass}
use Rattle.world_turns.specs.WorldFrames.Lemmas.Finals.{Top, none_above, top_of}
use Rattle.world_turns.proofs.WorldFrames.Finals.{final_object, first_runs, have_exited_in}
use Rattle.world_turns.specs.RunningWorlds.Laws.{CompletesPass, FinalisesMay, HartsMayEnd, IdleIsFree, MayFinalise, UnmapsFinished}
use Rattle.world_turns.specs.RunningWorlds.Running.{Moment, before_finals, in_finals}

-- ---- a due turn

resolving_from : (s : State) (b : HartState) (r : Resolving) → IsFrom b (by_resolving s b r)
resolving_from s b Resolving.idle = within_from s b
resolving_from s b (Resolving.to_exchange o) = tt
resolving_from s b (Resolving.to_finish o found) = tt
resolving_from s b (Resolving.to_settle o found) = within_from s b

ended_from : (s : State) (b : HartState) (over : Option HartEnd) → IsFrom b (elim over [ Some reason ↦ Due.nothing | None ↦ by_resolving s b b.resolving ])
ended_from s b (Some reason) = tt
ended_from s b None = resolving_from s b b.resolving

due_from : (s : State) (b : HartState) → IsFrom b (due s b)
unfolding due
due_from s b = ended_from s b b.«end»

-- a turn that is due isn't that of a hart which has ended
abbrev IsSome : Due → Bool
IsSome d = elim d [ Due.nothing ↦ false | _ ↦ true ]

runs_by : (s : State) (b : HartState) (over : Option HartEnd) → b.«end» ≡ over → IsSome (elim over [ Some reason ↦ Due.nothing | None ↦ by_resolving s b b.resolving ]) ≡ true → b.«end» ≡ None
runs_by s b (Some reason) is some = absurd (false≢true some)
runs_by s b None is some = is

runs : (s : State) (b : HartState) (d : Due) → due s b ≡ d → IsSome d ≡ true → b.«end» ≡ None
unfolding due
runs s b d is some = runs_by s b b.«end» refl (ap IsSome is ∙ some)

-- ---- ends and grants

ends_of : (w : Setting) (world : World) → Moment w world → EndsFit w world
ends_of w world (before_finals ends frames) = inl ends
ends_of w world (in_finals ends frames) = inr ends

pub harts_may_end : ends.HartsMayEnd → HartsMayEnd
harts_may_end law w world h b running at none = law w world (ends_of w world running.moment) h b at none

pub idle_is_free : IdleIsFree
idle_is_free w world h b running at idle = subst (Fits (after world.journal) world.words h) idle (running.sound.fits h b at)

-- ---- frames

-- the first frame of a hart is of an opening or a closing, or it is the last one, of the run's end
data First (w : Setting) (world : World) (h : ℕ) (frame : Frame) (below : List Frame) : Type 0 where
  is_fit : (rest : List Frame) → FramesFit (after world.journal) h (frame ∷ rest) → First w world h frame below
  is_final : h ≡ 0 → IsTrue (have_all_exited w (after world.journal)) → FinalsFit w world.journal (frame ∷ below) → is_final_frame frame ≡ true
      → First w world h frame below

first_frame : (w : Setting) (world : World) (h : ℕ) (b : HartState) (frame : Frame) (below : List Frame) → Moment w world
    → slice_get world.harts h ≡ Some b → b.«end» ≡ None → b.frames ≡ frame ∷ below → First w world h frame below
first_frame w world h b frame below (before_finals ends frames) at on are =
    First.is_fit below (subst (FramesFit (after world.journal) h) are (frames h b at))
first_frame w world h b frame below (in_finals ends frames) at on are = by (top_of fit.above (final_frame fit.code fit.function) frame below (sym fit.are ∙ are))
  where
    zeroth : h ≡ 0
    zeroth = first_runs w world ends h b at on

    here_first : slice_get world.harts 0 ≡ Some b
    here_first = subst (λ (n : ℕ). slice_get world.harts n ≡ Some b) zeroth at

    fit : FinalsFit w world.journal b.frames
    fit = frames b here_first on

    first_on : ends.first.«end» ≡ None
    first_on = by_first (ap (λ (bs : List HartState). slice_get bs 0) (sym ends.harts) ∙ here_first)
      where
        by_first : Some ends.first ≡ Some b → ends.first.«end» ≡ None
        by_first e = let same : ends.first ≡ b = cc in ap (λ (c : HartState). c.«end») same ∙ on

    by : Top fit.above (final_frame fit.code fit.function) frame below → First w world h frame below
    by (Top.is_last none same under) =
        First.is_final zeroth (have_exited_in w (after world.journal) (ends.runs first_on)) (subst (FinalsFit w world.journal) are fit) (ap is_final_frame (sym same))
    by (Top.is_above rest above under) =
        First.is_fit rest (subst (λ (n : ℕ). FramesFit (after world.journal) n (frame ∷ rest)) (sym zeroth) (subst (FramesFit (after world.journal) 0) above fit.fit))

pub unmaps_finished : FramesFinish → UnmapsFinished
unmaps_finished finish w world h b set to running at is =
    by (first_frame w world h b (record { purpose = Purpose.of_closing to.to set; queue = [] }) to.frames running.moment at
    (runs (after world.journal) b (Due.serve (unmaps set) to) is refl) from)
  where
    from : b.frames ≡ record { purpose = Purpose.of_closing to.to set; queue = [] } ∷ to.frames
    from = subst (IsFrom b) is (due_from (after world.journal) b)

    by : First w world h (record { purpose = Purpose.of_closing to.to set; queue = [] }) to.frames → HasFinished (after world.journal) h set
    by (First.is_fit rest fit) = finish w world.journal h to.to set rest running.sound.legal fit
    by (First.is_final zeroth over fit final) = absurd (false≢true final)

pub completes_pass : FramesPass → CompletesPass
completes_pass pass w world h b purpose object rest below running at is =
    subst (λ (o : ℕ). AreAllowed w world.journal (map (passing purpose h) (o ∷ passed rest))) from.0.is
    (by (first_frame w world h b (record { purpose = purpose; queue = from.0.function ∷ rest }) below running.moment at
    (runs (after world.journal) b (Due.complete purpose object rest below) is refl) from.0.before))
  where
    from : HasRun b.frames purpose object rest below × (is_of_end purpose ≡ false)
    from = subst (IsFrom b) is (due_from (after world.journal) b)

    by : First w world h (record { purpose = purpose; queue = from.0.function ∷ rest }) below
        → AreAllowed w world.journal (map (passing purpose h) (from.0.function.object ∷ passed rest))
    by (First.is_fit others fit) = pass w world.journal h purpose from.0.function rest others running.sound.legal fit
    by (First.is_final zeroth over fit final) = absurd (true≢false (sym final ∙ from.1))

pub finalises_may : FinalsFinish → FinalisesMay
finalises_may finish w world h b code object running at is = by (first_frame w world h b frame below running.moment at on from.2.before)
  where
    on : b.«end» ≡ None
    on = runs (after world.journal) b (Due.finalise code object) is refl

    from : (rest : List Function) × (below : List Frame) × HasRun b.frames (Purpose.of_end code) object rest below
    from = subst (IsFrom b) is (due_from (after world.journal) b)

    below : List Frame
    below = from.1

    frame : Frame
    frame = record { purpose = Purpose.of_end code; queue = from.2.function ∷ from.0 }

    by : First w world h frame below → MayFinalise w world h object
    by (First.is_fit rest fit) = absurd (none_above (after world.journal) h code (from.2.function ∷ from.0) rest fit)
    by (First.is_final zeroth over fit final) = record {
      first = zeroth;
      over = over;
      initialised = subst (λ (o : ℕ). IsTrue (has (after world.journal).inits o))
          (final_object w world.journal code from.2.function from.0 below fit ∙ from.2.is) fit.initialised;
      may = subst (λ (o : ℕ). AreAllowed w world.journal (own_fini (after world.journal) 0 o)) from.2.is
          (finish w world.journal code from.2.function from.0 below fit);
    }
