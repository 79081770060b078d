-- A closing stands in its hart's frames until its dlclose returns.
use Rattle.std.proofs.Common.{◌≡◌, ◌⊎◌, inl, inr, ℕ, Bool, true, false, List, [], ◌∷◌, ◌++◌, refl, sym, ap, subst, ◌∙◌, append_assoc}
use Rattle.std.specs.Prelude.{◌||◌}
use Rattle.std.proofs.lemmas.Bool.{true≢false}
use Rattle.history_event.specs.declared.event.Event.{Event}
use Rattle.history_event.specs.declared.handed.Function.{Function}
use Rattle.history_state.specs.Setting.{Setting}
use Rattle.history_calls.specs.Functions.{left}
use Rattle.hart_moves.specs.Harts.{Frame, HartState, Purpose}
use Rattle.hart_moves.specs.Moves.{Did, Moves}
use Rattle.hart_moves.specs.TurnEvents.Appends.{has_finals, is_final_frame, is_of_end}
use Rattle.hart_moves.specs.TurnFrames.Closings.{closing_frame, emptied}
use Rattle.hart_moves.specs.TurnFrames.Leaves.{AreFrames, LeavesFrames, behind_first}
use Rattle.hart_moves.specs.TurnFrames.Lemmas.Turning.{turns_leave_frames}
use Rattle.world_laws.specs.RunMoments.OfTurns.{ClosingStands, ClosingsStand, ReturnsBehindUnmapping, ReturnsUnmapped}

head_is : {X : Type 0} (a b : X) (xs ys : List X) → a ∷ xs ≡ b ∷ ys → a ≡ b
head_is a b xs ys e = let same : a ∷ xs ≡ b ∷ ys = e in cc

tail_is : {X : Type 0} (a b : X) (xs ys : List X) → a ∷ xs ≡ b ∷ ys → xs ≡ ys
tail_is a b xs ys e = let same : a ∷ xs ≡ b ∷ ys = e in cc

-- frames that are begun stand on those below
record Begun (below frames : List Frame) : Type 0 where
  pub new : List Frame
  pub are : frames ≡ new ++ below
  pub before_end : has_finals new ≡ false

begun : (purpose : Purpose) (functions : List Function) (below frames : List Frame) → is_of_end purpose ≡ false → AreFrames purpose functions below frames
    → Begun below frames
begun purpose (f ∷ rest) below frames not_end are =
    record { new = record { purpose = purpose; queue = behind_first f ∷ rest } ∷ []; are = are; before_end = ap (λ (t : Bool). t || false) not_end }
begun (Purpose.of_startup registers) [] below frames not_end are = record { new = []; are = are; before_end = refl }
begun (Purpose.of_opening to root) [] below frames not_end are = record { new = []; are = are; before_end = refl }
begun (Purpose.of_closing to set) [] below frames not_end are =
    record { new = record { purpose = Purpose.of_closing to set; queue = [] } ∷ []; are = are; before_end = refl }
begun (Purpose.of_end code) [] below frames not_end are = record { new = []; are = are; before_end = refl }

-- none of the frames is of the run's end
none_of_both : (fs above : List Frame) → has_finals fs ≡ false → has_finals above ≡ false → has_finals (fs ++ above) ≡ false
none_of_both [] above one other = other
none_of_both (f ∷ rest) above one other = by (is_final_frame f) one (none_of_both rest above) other
  where
    by : (t : Bool) → (t || has_finals rest) ≡ false → (has_finals rest ≡ false → has_finals above ≡ false → has_finals (rest ++ above) ≡ false)
        → has_finals above ≡ false
        → (t || has_finals (rest ++ above)) ≡ false
    by true never on none = absurd (true≢false never)
    by false never on none = on never none

-- and the closing that stands in those
on_begun : (to : ℕ) (set : List ℕ) (below frames more : List Frame) → Begun frames more → ClosingStands frames to set below → ClosingStands more to set below
on_begun to set below frames more x y = record {
  above = x.new ++ y.above;
  queue = y.queue;
  are = x.are ∙ ap (λ (fs : List Frame). x.new ++ fs) y.are ∙ sym (append_assoc x.new y.above (closing_frame to set y.queue ∷ below));
  before_end = none_of_both x.new y.above x.before_end y.before_end;
}

-- the first of the frames is the closing's, or one above it
data Top (frames : List Frame) (to : ℕ) (set : List ℕ) (below : List Frame) : Type 0 where
  is_it : (queue : List Function) → frames ≡ closing_frame to set queue ∷ below → Top frames to set below
  is_above : (first : Frame) (rest : List Frame) → frames ≡ first ∷ rest → is_final_frame first ≡ false → ClosingStands rest to set below
      → Top frames to set below

first_false : (a b : Bool) → (a || b) ≡ false → (a ≡ false) × (b ≡ false)
first_false true b never = absurd (true≢false never)
first_false false b never = (refl, never)

top_of : (frames : List Frame) (to : ℕ) (set : List ℕ) (below : List Frame) → ClosingStands frames to set below → Top frames to set below
top_of frames to set below x = by x.above x.are x.before_end
  where
    by : (above : List Frame) → frames ≡ above ++ closing_frame to set x.queue ∷ below → has_finals above ≡ false → Top frames to set below
    by [] are none = Top.is_it x.queue are
    by (first ∷ rest) are none =
        let both = first_false (is_final_frame first) (has_finals rest) none in
        Top.is_above first (rest ++ closing_frame to set x.queue ∷ below) are both.0 (record { above = rest; queue = x.queue; are = refl; before_end = both.1 })

module _ (past : List Event) (h : ℕ) (b c : HartState) (did : Did) (to : ℕ) (set : List ℕ) (below : List Frame)
    (behind : ReturnsBehindUnmapping past h b did c) where
  abbrev Goes : Type 0
  Goes = ClosingStands c.frames to set below ⊎ (ReturnsUnmapped past h to set b did c × (c.frames ≡ below))

  here_so : (queue : List Function) → c.frames ≡ closing_frame to set queue ∷ below → Goes
  here_so queue are = inl (record { above = []; queue = queue; are = are; before_end = refl })

  -- a turn that puts other functions of one purpose into the place of the first frame
  replaced : (purpose : Purpose) (queue : List Function) (functions : List Function) (others : List Frame)
      → b.frames ≡ record { purpose = purpose; queue = queue } ∷ others
      → is_of_end purpose ≡ false → AreFrames purpose functions others c.frames → Top b.frames to set below → Goes
  replaced purpose queue functions others had not_end are (Top.is_it last was) =
      let frame = head_is (record { purpose = purpose; queue = queue }) (closing_frame to set last) others below (sym had ∙ was) in
      let same : purpose ≡ Purpose.of_closing to set = ap (λ (f : Frame). f.purpose) frame in
      let rest : others ≡ below = tail_is (record { purpose = purpose; queue = queue }) (closing_frame to set last) others below (sym had ∙ was) in
      on functions (subst (λ (fs : List Frame). AreFrames (Purpose.of_closing to set) functions fs c.frames) rest
      (subst (λ (p : Purpose). AreFrames p functions others c.frames) same are))
    where
      on : (fs : List Function) → AreFrames (Purpose.of_closing to set) fs below c.frames → Goes
      on [] so = here_so [] so
      on (f ∷ rest) so = here_so (behind_first f ∷ rest) so
  replaced purpose queue functions others had not_end are (Top.is_above first rest was none stands) =
      let same : rest ≡ others = tail_is first (record { purpose = purpose; queue = queue }) rest others (sym was ∙ had) in
      inl (on_begun to set below others c.frames (begun purpose functions others c.frames not_end are) (subst (λ (fs : List Frame). ClosingStands fs to set below) same stands))

  goes_by : (w : Setting) → LeavesFrames w past h b did c → ClosingStands b.frames to set below → Goes
  goes_by w (LeavesFrames.stays none same) x = inl (subst (λ (fs : List Frame). ClosingStands fs to set below) (sym same) x)
  goes_by w (LeavesFrames.enters purpose f address more rest others had has none pc is) x = entered (top_of b.frames to set below x)
    where
      entered : Top b.frames to set below → Goes
      entered (Top.is_it last was) =
          let frame = head_is (record { purpose = purpose; queue = f ∷ rest }) (closing_frame to set last) others below (sym had ∙ was) in
          let same : purpose ≡ Purpose.of_closing to set = ap (λ (g : Frame). g.purpose) frame in
          let under : others ≡ below = tail_is (record { purpose = purpose; queue = f ∷ rest }) (closing_frame to set last) others below (sym had ∙ was) in
          here_so (record f { addresses = more } ∷ rest)
          (is ∙ ap (λ (p : Purpose). record { purpose = p; queue = record f { addresses = more } ∷ rest } ∷ others) same
          ∙ ap (λ (fs : List Frame). closing_frame to set (record f { addresses = more } ∷ rest) ∷ fs) under)
      entered (Top.is_above first others_too was none stands) =
          let same : others_too ≡ others = tail_is first (record { purpose = purpose; queue = f ∷ rest }) others_too others (sym was ∙ had) in
          let one : first ≡ record { purpose = purpose; queue = f ∷ rest } = head_is first
          (record { purpose = purpose; queue = f ∷ rest }) others_too others (sym was ∙ had) in
          inl (on_begun to set below others c.frames
          (record { new = record { purpose = purpose; queue = record f { addresses = more } ∷ rest } ∷ []; are = is; before_end = ap (λ (t : Bool). t || false) (sym (ap is_final_frame one) ∙ none) })
          (subst (λ (fs : List Frame). ClosingStands fs to set below) same stands))
  goes_by w (LeavesFrames.loads ra root id ask first rest ranges functions are is frames back entered) x =
      inl (on_begun to set below b.frames c.frames (begun (Purpose.of_opening ra root) (left functions) b.frames c.frames refl frames) x)
  goes_by w (LeavesFrames.dies ra handle first rest functions are is frames back entered) x =
      inl (on_begun to set below b.frames c.frames (begun (Purpose.of_closing ra (first ∷ rest)) (left functions) b.frames c.frames refl frames) x)
  goes_by w (LeavesFrames.completes purpose f rest others not_end had is frames entered) x =
      replaced purpose (f ∷ rest) (left rest) others had not_end frames (top_of b.frames to set below x)
  goes_by w (LeavesFrames.unmaps ra gone others had is frames registers) x = unmapped (top_of b.frames to set below x)
    where
      unmapped : Top b.frames to set below → Goes
      unmapped (Top.is_it last was) =
          let under : others ≡ below = tail_is (emptied ra gone) (closing_frame to set last) others below (sym had ∙ was) in
          inr (behind to set last below was (frames ∙ under), frames ∙ under)
      unmapped (Top.is_above first rest was none stands) =
          let same : rest ≡ c.frames = tail_is first (emptied ra gone) rest others (sym was ∙ had) ∙ sym frames in
          inl (subst (λ (fs : List Frame). ClosingStands fs to set below) same stands)
  goes_by w (LeavesFrames.finalises code f rest others added next had finals is frames entered) x = finalised (top_of b.frames to set below x)
    where
      finalised : Top b.frames to set below → Goes
      finalised (Top.is_it last was) =
          let frame = head_is (record { purpose = Purpose.of_end code; queue = f ∷ rest }) (closing_frame to set last) others below (sym had ∙ was) in
          absurd (true≢false (ap is_final_frame frame))
      finalised (Top.is_above first rest_too was none stands) =
          let one : first ≡ record { purpose = Purpose.of_end code; queue = f ∷ rest } = head_is first
          (record { purpose = Purpose.of_end code; queue = f ∷ rest }) rest_too others (sym was ∙ had) in
          absurd (true≢false (sym (ap is_final_frame one) ∙ none))

pub closings_stand : (w : Setting) (past : List Event) (h : ℕ) (b c : HartState) (did : Did) → Moves w past h b did c
    → ReturnsBehindUnmapping past h b did c → ClosingsStand past h b did c
closings_stand w past h b c did moves behind to set below x = goes_by past h b c did to set below behind w (turns_leave_frames w past h b c did moves) x
