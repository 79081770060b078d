-- What the first hart runs in the final destructors stays one object's, below what that has begun, behind a move of its own.
use Rattle.std.proofs.Common.{◌≡◌, ℕ, not, IsTrue, false, List, [], ◌∷◌, ◌++◌, map, Option, Some, None, refl, sym, ap, subst, ◌∙◌, append-nil, append_assoc}
use Rattle.std.specs.Prelude.{reverse}
use Rattle.std.specs.List.{Contains, slice_get}
use Rattle.std.proofs.lemmas.Bool.{false≢true, not-true, true≢false}
use Rattle.std.proofs.lemmas.List.Elements.{Contains-append_left}
use Rattle.std.proofs.lemmas.Option.{none-some}
use Rattle.ld_base.specs.declared.linking.Loaded.{Loaded}
use Rattle.history_event.specs.declared.event.CloseAnswer.TheVariants as closings
use Rattle.history_event.specs.declared.event.Event.{Event}
use Rattle.history_event.specs.declared.event.Event.TheVariants as events
use Rattle.history_event.specs.declared.event.OpenAnswer.TheVariants as openings
use Rattle.history_event.specs.declared.event.SymAnswer.TheVariants as symbols
use Rattle.history_event.specs.declared.handed.Function.{Function}
use Rattle.history_graph.specs.Initialised.{is_one_of}
use Rattle.history_state.specs.After.{after}
use Rattle.history_state.specs.Allowed.{WasNext}
use Rattle.history_state.specs.Legal.{Lawful}
use Rattle.history_state.specs.Links.{unfinished}
use Rattle.history_state.specs.Objects.{IsMapped, has, mapped, serial_of}
use Rattle.history_state.specs.Setting.{Setting, have_exited as have_all_exited}
use Rattle.history_state.specs.State.{State}
use Rattle.history_state.specs.Step.{die, initialise, loaded, lower, step, unmap}
use Rattle.history_state.specs.Lemmas.Finalised.{from_reverse}
use Rattle.history_state.specs.Lemmas.History.{after_push, one_behind}
use Rattle.history_state.specs.Lemmas.Lists.{from_filter, from_flat, from_map, has_in, here, in_has}
use Rattle.history_calls.specs.Functions.{left, passed}
use Rattle.hart_moves.specs.Harts.{Frame, HartState, Purpose}
use Rattle.hart_moves.specs.Moves.{AreAllowed, Did, Finals, all_finis, events_of, final_functions, own_fini, passing}
use Rattle.hart_moves.specs.TurnEvents.Appends.{has_finals, is_final_frame, is_of_end}
use Rattle.hart_moves.specs.TurnFrames.Leaves.{AreFrames, LeavesFrames, behind_first}
use Rattle.world_turns.specs.WorldFrames.Belong.{AreFramesOf, FramesFit, Origin}
use Rattle.world_turns.specs.WorldFrames.Finals.{FinalsFit, final_frame}
use Rattle.world_turns.specs.WorldFrames.Lemmas.Events.{finis, inits}
use Rattle.world_turns.specs.WorldFrames.Lemmas.Leaving.{FrameLaws, completes_left, dies_left, enters_left, loads_left, stays_left, unmaps_left}

-- ---- the next of all objects

-- it was initialised and isn't finalised
pub record IsNext (s : State) (object : ℕ) : Type 0 where
  pub mapped : IsMapped s object
  pub initialised : IsTrue (has s.inits object)
  pub unfinished : has s.finis object ≡ false

pub mapped_from : (s : State) (o : Loaded) → Contains (mapped s) o → IsMapped s o.serial
mapped_from s o there = let x = from_flat (λ ns. ns.objects) s.namespaces o there in record { namespace = x.0; object = o; there = x.1; inside = x.2; is = refl }

pub is_next : (s : State) (object : ℕ) (rest : List ℕ) → all_finis s ≡ object ∷ rest → IsNext s object
is_next s object rest next =
    let kept = from_filter (is_one_of (map serial_of (mapped s))) (reverse (unfinished s)) object (subst (λ (os : List ℕ). Contains os object) (sym next) (here object rest)) in
    let part = from_filter (λ (o : ℕ). not (has s.finis o)) s.inits object (from_reverse (unfinished s) object kept.0) in
    let of = from_map serial_of (mapped s) object (has_in (map serial_of (mapped s)) object kept.1) in
    record { mapped = subst (IsMapped s) of.2 (mapped_from s of.0 of.1); initialised = in_has s.inits object part.0; unfinished = not-true (has s.finis object) part.1 }

-- since this moment, where every hart has ended by exit
pub was_next : (w : Setting) (past : List Event) (object : ℕ) (rest : List ℕ) → IsTrue (have_all_exited w (after past)) → all_finis (after past) ≡ object ∷ rest → WasNext w past object
was_next w past object rest over next = record { before = past; since = []; are = sym (append-nil past); over = over; next = ap (λ (os : List ℕ). slice_get os 0) next }

pub was_grows : (w : Setting) (past added : List Event) (object : ℕ) → WasNext w past object → WasNext w (past ++ added) object
was_grows w past added object x = record {
  before = x.before;
  since = x.since ++ added;
  are = ap (λ (es : List Event). es ++ added) x.are ∙ append_assoc x.before x.since added;
  over = x.over;
  next = x.next;
}

-- ---- what was initialised stays so

inits_step : (s : State) (e : Event) (o : ℕ) → Contains s.inits o → Contains (step s e).inits o
unfolding loaded die lower unmap initialise
inits_step s (events.Open hart ask (openings.Done id root added ranges)) o there = there
inits_step s (events.Open hart ask openings.Absent) o there = there
inits_step s (events.Open hart ask (openings.Refused fault)) o there = there
inits_step s (events.Close hart handle (closings.Done set)) o there = there
inits_step s (events.Close hart handle (closings.Refused fault)) o there = there
inits_step s (events.Unmapped hart set) o there = there
inits_step s (events.Grant number hart owner slot choice value) o there = there
inits_step s (events.Bound number) o there = there
inits_step s (events.Lost number saw) o there = there
inits_step s (events.Unresolved hart owner slot choice) o there = there
inits_step s (events.Sym hart ask (symbols.Found serial index value)) o there = there
inits_step s (events.Sym hart ask (symbols.Refused fault)) o there = there
inits_step s (events.Tls hart owner address) o there = there
inits_step s (events.Init hart object) o there = Contains-append_left s.inits (object ∷ []) o there
inits_step s (events.Fini hart object) o there = there
inits_step s (events.Wrote hart bytes) o there = there
inits_step s (events.Told hart fault) o there = there
inits_step s (events.Ended hart reason) o there = there

pub inits_kept : (past added : List Event) (o : ℕ) → Contains (after past).inits o → Contains (after (past ++ added)).inits o
inits_kept past [] o there = subst (λ (es : List Event). Contains (after es).inits o) (sym (append-nil past)) there
inits_kept past (e ∷ rest) o there =
    subst (λ (es : List Event). Contains (after es).inits o) (one_behind past e rest)
    (inits_kept (past ++ e ∷ []) rest o (subst (λ (s : State). Contains s.inits o) (sym (after_push past e)) (inits_step (after past) e o there)))

-- ---- frames above the last one

pub head_is : {X : Type 0} (a b : X) (xs ys : List X) → a ∷ xs ≡ b ∷ ys → a ≡ b
head_is a b xs ys e = let same : a ∷ xs ≡ b ∷ ys = e in cc

tail_is : {X : Type 0} (a b : X) (xs ys : List X) → a ∷ xs ≡ b ∷ ys → xs ≡ ys
tail_is a b xs ys e = let same : a ∷ xs ≡ b ∷ ys = e in cc

-- the first frame is the last one, or stands above it
pub data Top (above : List Frame) (last first : Frame) (below : List Frame) : Type 0 where
  is_last : above ≡ [] → last ≡ first → below ≡ [] → Top above last first below
  is_above : (rest : List Frame) → above ≡ first ∷ rest → below ≡ rest ++ last ∷ [] → Top above last first below

pub top_of : (above : List Frame) (last first : Frame) (below : List Frame) → above ++ last ∷ [] ≡ first ∷ below → Top above last first below
top_of [] last first below e = Top.is_last refl (head_is last first [] below e) (sym (tail_is last first [] below e))
top_of (frame ∷ rest) last first below e =
    Top.is_above rest (ap (λ (x : Frame). x ∷ rest) (head_is frame first (rest ++ last ∷ []) below e)) (sym (tail_is frame first (rest ++ last ∷ []) below e))

-- a frame of the run's end stands nowhere else
pub none_above : (s : State) (h code : ℕ) (queue : List Function) (below : List Frame) → FramesFit s h (record { purpose = Purpose.of_end code; queue = queue } ∷ below) → ⊥
none_above s h code queue below x = by x.origins x.are
  where
    by : (origins : List Origin) → AreFramesOf s h origins (record { purpose = Purpose.of_end code; queue = queue } ∷ below) → ⊥
    by [] are = are
    by (Origin.opening l ∷ origins) are = are.0
    by (Origin.closing c ∷ origins) are = are.0

-- the same frames are begun above it
record Begun (purpose : Purpose) (functions : List Function) (above : List Frame) (last : Frame) (frames : List Frame) : Type 0 where
  pub new : List Frame
  pub begun : AreFrames purpose functions above new
  pub are : frames ≡ new ++ last ∷ []

begun_above : (purpose : Purpose) (functions : List Function) (above : List Frame) (last : Frame) (frames : List Frame) → AreFrames purpose functions (above ++ last ∷ []) frames → Begun purpose functions above last frames
begun_above purpose (f ∷ rest) above last frames is = record { new = record { purpose = purpose; queue = behind_first f ∷ rest } ∷ above; begun = refl; are = is }
begun_above (Purpose.of_startup registers) [] above last frames is = record { new = above; begun = refl; are = is }
begun_above (Purpose.of_opening to root) [] above last frames is = record { new = above; begun = refl; are = is }
begun_above (Purpose.of_closing to set) [] above last frames is = record { new = record { purpose = Purpose.of_closing to set; queue = [] } ∷ above; begun = refl; are = is }
begun_above (Purpose.of_end code) [] above last frames is = record { new = above; begun = refl; are = is }

-- ---- what a turn leaves

abbrev with_addresses : List ℕ → Frame → Frame
with_addresses addresses frame = record frame { queue = elim frame.queue [ [] ↦ [] | f ∷ rest ↦ record f { addresses = addresses } ∷ rest ] }

next_of : (w : Setting) (h : ℕ) (past added : List Event) (next : Option Function) (f : Function) → next ≡ Some f → Finals w h past added next → (rest : List ℕ) × (all_finis (after (past ++ added)) ≡ f.object ∷ rest)
next_of w h past added next f is (Finals.no_more _ none) = absurd (none-some f is)
next_of w h past added next f is (Finals.one_runs _ object function rest more finis addresses) =
    let same : record { object = object; addresses = function ∷ more } ≡ f = (let so : Some (record { object = object; addresses = function ∷ more }) ≡ Some f = is in cc) in
    (rest, ap (λ (es : List Event). all_finis (after es)) (append-nil past) ∙ finis ∙ ap (λ (g : Function). g.object ∷ rest) same)
next_of w h past added next f is (Finals.one_passes _ object rest behind last finis addresses may finals) =
    let x = next_of w h (past ++ events.Fini h object ∷ []) behind next f is finals in
    (x.0, ap (λ (es : List Event). all_finis (after es)) (sym (append_assoc past (events.Fini h object ∷ []) behind)) ∙ x.1)

module _ (w : Setting) (laws : FrameLaws w.machine) (past : List Event) (lawful : Lawful w.machine past) (b c : HartState) (did : Did) (x : FinalsFit w past b.frames) where
  abbrev last : Frame
  last = final_frame x.code x.function

  -- the same object's, below other frames
  kept : (added : List Event) (f : Function) (above : List Frame) → f.object ≡ x.function.object → c.frames ≡ above ++ final_frame x.code f ∷ [] → FramesFit (after (past ++ added)) 0 above → FinalsFit w (past ++ added) c.frames
  kept added f above same are fit = record {
    code = x.code;
    function = f;
    above = above;
    are = are;
    fit = fit;
    initialised = in_has (after (past ++ added)).inits f.object (inits_kept past added f.object (has_in (after past).inits f.object (subst (λ (o : ℕ). IsTrue (has (after past).inits o)) (sym same) x.initialised)));
    was = was_grows w past added f.object (subst (WasNext w past) (sym same) x.was);
  }

  -- of its frames the first is the last, or one above
  top : (first : Frame) (below : List Frame) → b.frames ≡ first ∷ below → Top x.above last first below
  top first below was = top_of x.above last first below (sym x.are ∙ was)

  -- where no frame is above, none is later
  none_fit : (added : List Event) → FramesFit (after (past ++ added)) 0 []
  none_fit added = record { origins = []; are = tt; once = tt }

  enters_by : (purpose : Purpose) (f : Function) (more : List ℕ) (rest : List Function) (below : List Frame) → c.frames ≡ record { purpose = purpose; queue = record f { addresses = more } ∷ rest } ∷ below
      → Top x.above last (record { purpose = purpose; queue = f ∷ rest }) below → FinalsFit w (past ++ []) c.frames
  enters_by purpose f more rest below is (Top.is_last none same under) =
      kept [] (record x.function { addresses = more }) [] refl
      (is ∙ ap (λ (fs : List Frame). record { purpose = purpose; queue = record f { addresses = more } ∷ rest } ∷ fs) under ∙ ap (λ (frame : Frame). with_addresses more frame ∷ []) (sym same)) (none_fit [])
  enters_by purpose f more rest below is (Top.is_above others are under) =
      kept [] x.function (record { purpose = purpose; queue = record f { addresses = more } ∷ rest } ∷ others) refl
      (is ∙ ap (λ (fs : List Frame). record { purpose = purpose; queue = record f { addresses = more } ∷ rest } ∷ fs) under)
      (enters_left w laws past lawful 0 x.above (record { purpose = purpose; queue = record f { addresses = more } ∷ rest } ∷ others) x.fit purpose f (record f { addresses = more }) rest others are refl refl).own

  completes_by : (purpose : Purpose) (f : Function) (rest : List Function) (below : List Frame) → is_of_end purpose ≡ false → AreAllowed w past (map (passing purpose 0) (f.object ∷ passed rest)) → AreFrames purpose (left rest) below c.frames
      → Top x.above last (record { purpose = purpose; queue = f ∷ rest }) below → FinalsFit w (past ++ map (passing purpose 0) (f.object ∷ passed rest)) c.frames
  completes_by purpose f rest below not_end may frames (Top.is_last none same under) = absurd (true≢false (ap is_final_frame same ∙ not_end))
  completes_by purpose f rest below not_end may frames (Top.is_above others are under) =
      let y = begun_above purpose (left rest) others last c.frames (subst (λ (fs : List Frame). AreFrames purpose (left rest) fs c.frames) under frames) in
      kept (map (passing purpose 0) (f.object ∷ passed rest)) x.function y.new refl y.are (completes_left w laws past lawful 0 x.above y.new x.fit purpose f rest others are may y.begun).own

  unmaps_by : (to : ℕ) (set : List ℕ) (below : List Frame) → AreAllowed w past (events.Unmapped 0 set ∷ []) → c.frames ≡ below → Top x.above last (record { purpose = Purpose.of_closing to set; queue = [] }) below
      → FinalsFit w (past ++ events.Unmapped 0 set ∷ []) c.frames
  unmaps_by to set below may frames (Top.is_last none same under) = absurd (true≢false (ap is_final_frame same))
  unmaps_by to set below may frames (Top.is_above others are under) =
      kept (events.Unmapped 0 set ∷ []) x.function others refl (frames ∙ under) (unmaps_left w laws past lawful 0 x.above others x.fit to set others are may refl).own

  -- what holds while the hart runs on
  module _ (added : List Event) (over : IsTrue (have_all_exited w (after (past ++ added)))) (still : IsTrue (has_finals c.frames)) where
    next_fits : (code : ℕ) (own behind : List Event) (next : Option Function) → added ≡ own ++ behind → Finals w 0 (past ++ own) behind next → AreFrames (Purpose.of_end code) (final_functions next) [] c.frames → FinalsFit w (past ++ added) c.frames
    next_fits code own behind None are finals frames = absurd (false≢true (sym (ap has_finals frames) ∙ still))
    next_fits code own behind (Some f) are finals frames =
        let next = next_of w 0 (past ++ own) behind (Some f) f refl finals in
        let same : all_finis (after (past ++ added)) ≡ f.object ∷ next.0 = ap (λ (es : List Event). all_finis (after (past ++ es))) are ∙ ap (λ (es : List Event). all_finis (after es)) (sym (append_assoc past own behind)) ∙ next.1 in
        record {
          code = code;
          function = behind_first f;
          above = [];
          are = frames;
          fit = none_fit added;
          initialised = (is_next (after (past ++ added)) f.object next.0 same).initialised;
          was = was_next w (past ++ added) f.object next.0 over same;
        }

    pub by_frames : AreAllowed w past (events_of did) → added ≡ events_of did → LeavesFrames w past 0 b did c → FinalsFit w (past ++ added) c.frames
    by_frames may is (LeavesFrames.stays untouched same) =
        subst (λ (es : List Event). FinalsFit w (past ++ es) c.frames) (sym is)
        (kept (events_of did) x.function x.above refl (same ∙ x.are) (stays_left w laws past lawful 0 x.above x.above x.fit (events_of did) may untouched refl).own)
    by_frames may is (LeavesFrames.enters purpose f address more rest below was has_more none pc frames) =
        subst (λ (es : List Event). FinalsFit w (past ++ es) c.frames) (sym (is ∙ none)) (enters_by purpose f more rest below frames (top (record { purpose = purpose; queue = f ∷ rest }) below was))
    by_frames may is (LeavesFrames.loads to root id ask first rest ranges functions are events_are frames back entered) =
        let y = begun_above (Purpose.of_opening to root) (left functions) x.above last c.frames (subst (λ (fs : List Frame). AreFrames (Purpose.of_opening to root) (left functions) fs c.frames) x.are frames) in
        subst (λ (es : List Event). FinalsFit w (past ++ es) c.frames) (sym (is ∙ events_are))
        (kept (events.Open 0 ask (openings.Done id root (first ∷ rest) ranges) ∷ inits 0 (passed functions)) x.function y.new refl y.are
        (loads_left w laws past lawful 0 x.above y.new x.fit to root id ask first rest ranges functions are (subst (AreAllowed w past) events_are may) y.begun).own)
    by_frames may is (LeavesFrames.dies to handle first rest functions are events_are frames back entered) =
        let y = begun_above (Purpose.of_closing to (first ∷ rest)) (left functions) x.above last c.frames (subst (λ (fs : List Frame). AreFrames (Purpose.of_closing to (first ∷ rest)) (left functions) fs c.frames) x.are frames) in
        subst (λ (es : List Event). FinalsFit w (past ++ es) c.frames) (sym (is ∙ events_are))
        (kept (events.Close 0 handle (closings.Done (first ∷ rest)) ∷ finis 0 (passed functions)) x.function y.new refl y.are
        (dies_left w laws past lawful 0 x.above y.new x.fit to handle first rest functions are (subst (AreAllowed w past) events_are may) y.begun).own)
    by_frames may is (LeavesFrames.completes purpose f rest below not_end was events_are frames entered) =
        subst (λ (es : List Event). FinalsFit w (past ++ es) c.frames) (sym (is ∙ events_are))
        (completes_by purpose f rest below not_end (subst (AreAllowed w past) events_are may) frames (top (record { purpose = purpose; queue = f ∷ rest }) below was))
    by_frames may is (LeavesFrames.unmaps to set below was events_are frames registers) =
        subst (λ (es : List Event). FinalsFit w (past ++ es) c.frames) (sym (is ∙ events_are))
        (unmaps_by to set below (subst (AreAllowed w past) events_are may) frames (top (record { purpose = Purpose.of_closing to set; queue = [] }) below was))
    by_frames may is (LeavesFrames.finalises code f rest below behind next was finals events_are frames entered) =
        next_fits code (own_fini (after past) 0 f.object) behind next (is ∙ events_are) finals frames
