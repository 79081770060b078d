-- A move of a hart leaves its frames those of its openings and closings, before the final destructors, and the frames of all others theirs.
use Rattle.std.proofs.Common.{◌≡◌, ◌≢◌, ⊎_elim, ℕ, ◌<◌, ◌≤◌, false, List, [], ◌∷◌, ◌++◌, length, map, Some, refl, sym, ap, subst, ◌∙◌, append-nil, arith}
use Rattle.std.specs.Prelude.{filter, not, reverse, ◌==◌}
use Rattle.std.specs.List.{Contains, range_with_len}
use Rattle.std.proofs.lemmas.Bool.{false≢true}
use Rattle.std.proofs.lemmas.List.Elements.{Contains-append_cases, Contains-append_left}
use Rattle.ld_base.specs.declared.linking.Loaded.{Loaded}
use Rattle.ld_base.specs.declared.linking.State.TheVariants as states
use Rattle.history_event.specs.declared.event.CloseAnswer.TheVariants as closings
use Rattle.history_event.specs.declared.event.Event.{Event}
use Rattle.history_event.specs.declared.event.Event.TheVariants as events
use Rattle.history_event.specs.declared.event.OpenAnswer.TheVariants as openings
use Rattle.history_event.specs.declared.event.OpenAsk.{OpenAsk}
use Rattle.history_event.specs.declared.event.Range.{Range}
use Rattle.history_event.specs.declared.handed.Function.{Function}
use Rattle.history_event.specs.declared.state.Closing.{Closing}
use Rattle.history_event.specs.declared.state.Loading.{Loading}
use Rattle.history_state.specs.After.{after}
use Rattle.history_state.specs.Allowed.{Allowed}
use Rattle.history_state.specs.Laws.{ClosesSpare}
use Rattle.history_state.specs.Legal.{Lawful}
use Rattle.history_state.specs.Links.{finis_of, unfinished}
use Rattle.history_state.specs.Objects.{serial_of}
use Rattle.history_state.specs.Setting.{Machine, Setting}
use Rattle.history_state.specs.State.{State}
use Rattle.history_state.specs.Step.{lower, lowered_in}
use Rattle.history_state.specs.Lemmas.Brought.{LoadLaws, in_range}
use Rattle.history_state.specs.Lemmas.History.{lawful_push, one_behind}
use Rattle.history_state.specs.Lemmas.Lists.{at_in, first_or_later, from_filter, has_in, here, in_map, none_in}
use Rattle.history_state.specs.Lemmas.Serials.{in_order_after}
use Rattle.history_state.specs.Lemmas.Tidy.{in_at}
use Rattle.history_graph.specs.Initialised.{is_one_of, program_last}
use Rattle.history_calls.specs.Functions.{AreConstructors, AreDestructors, AreLeft, left, object_of, passed}
use Rattle.history_calls.specs.Lemmas.Finishing.{passed_first}
use Rattle.rv_hart.specs.Registers.{Registers}
use Rattle.scope_rule.specs.declared.namespace.Namespace.{Namespace}
use Rattle.hart_moves.specs.Harts.{Frame, HartState, Purpose}
use Rattle.hart_moves.specs.Moves.{AreAllowed, Did, Moves, events_of, passing}
use Rattle.hart_moves.specs.Lemmas.Legality.{turns_allowed}
use Rattle.hart_moves.specs.TurnEvents.Appends.{has_finals}
use Rattle.hart_moves.specs.TurnFrames.Leaves.{AreFrames, LeavesFrames, NoneTouchesFrames, behind_first}
use Rattle.hart_moves.specs.TurnFrames.Lemmas.Turning.{turns_leave_frames}
use Rattle.world_turns.specs.WorldFrames.Belong.{AllDiffer, AreFramesOf, FramesFit, IsFrameOf, Origin}
use Rattle.world_turns.specs.WorldFrames.Lemmas.Events.{AllOf, ApartLaws, finis, finis_spare, inits, inits_spare, unmap_spares}
use Rattle.world_turns.specs.WorldFrames.Lemmas.Origins.{AllSpare, FollowLaws, IsThere, none_touches, events_leave, hart_of_origin, is_there}
use Rattle.world_turns.specs.WorldFrames.Lemmas.Passing.{Finished, NextLaws, Started, closings_finish, finishes_pass, new_closing, new_loading, openings_start, passed_and_left, starts_pass}

pub record FrameLaws (m : Machine) : Type 0 where
  pub follow : FollowLaws
  pub apart : ApartLaws m
  pub next : NextLaws
  pub load : LoadLaws
  pub new : (w : Setting) (past : List Event) (hart id root : ℕ) (ask : OpenAsk) (added : List Loaded) (ranges : List Range) → w.machine ≡ m → Lawful m past
      → Allowed w past (events.Open hart ask (openings.Done id root added ranges)) → map serial_of added ≡ range_with_len (after past).next (length added)
  pub spare : (w : Setting) (past : List Event) (hart handle : ℕ) (set : List ℕ) → w.machine ≡ m → Lawful m past → Allowed w past (events.Close hart handle (closings.Done set)) → ClosesSpare (lower handle (after past)) set

-- ---- objects of an opening and of a closing

in_last : (serials : List ℕ) (o : ℕ) → Contains (program_last (Some 1) serials) o → Contains serials o
in_last serials o there = ⊎_elim
    (λ (x : Contains (filter (λ p. not (p == 1)) serials) o). (from_filter (λ p. not (p == 1)) serials o x).0)
    (λ (x : Contains (filter (λ p. p == 1) serials) o). (from_filter (λ p. p == 1) serials o x).0)
    (Contains-append_cases (filter (λ p. not (p == 1)) serials) (filter (λ p. p == 1) serials) o there)

left_in : (s : State) (l : Loading) (objects : List ℕ) → AreLeft s l objects → AllOf l.serials objects
left_in s l objects x o there =
    let k = in_at objects o there in
    let next = x.each k.0 o k.1 in
    in_last l.serials o (at_in (program_last (Some 1) l.serials) next.place o next.stands)

finis_in : (s : State) (set objects : List ℕ) → finis_of s set ≡ objects → AllOf set objects
finis_in s set objects is o there = has_in set o (from_filter (is_one_of set) (reverse (unfinished s)) o (subst (λ (os : List ℕ). Contains os o) (sym is) there)).1

in_front : {X : Type 0} (xs ys : List X) (x : X) → Contains xs x → Contains (xs ++ ys) x
in_front xs ys x there = Contains-append_left xs ys x there

lowered_of : (s : State) (handle : ℕ) (ns : Namespace) → Contains s.namespaces ns → Contains (lower handle s).namespaces (lowered_in handle ns)
unfolding lower
lowered_of s handle ns at = in_map (lowered_in handle) s.namespaces ns at

-- ---- what is new is of no frame

module _ (w : Setting) (laws : FrameLaws w.machine) (past : List Event) (lawful : Lawful w.machine past) where
  opening_new : (h id root : ℕ) (ask : OpenAsk) (first : Loaded) (rest : List Loaded) (ranges : List Range) → Allowed w past (events.Open h ask (openings.Done id root (first ∷ rest) ranges))
      → Contains (after past).loadings (record { hart = h; serials = map serial_of (first ∷ rest) }) → ⊥
  opening_new h id root ask first rest ranges may there =
      let low : first.serial < (after past).next = (in_order_after laws.load w.machine past lawful).low (record { hart = h; serials = map serial_of (first ∷ rest) }) first.serial there (here first.serial (map serial_of rest)) in
      let high : (after past).next ≤ first.serial = (in_range (after past).next (length (first ∷ rest)) first.serial
      (subst (λ (ns : List ℕ). Contains ns first.serial) (laws.new w past h id root ask (first ∷ rest) ranges refl lawful may) (here first.serial (map serial_of rest)))).0 in
      no first.serial (after past).next low high
    where
      no : (k n : ℕ) → k < n → n ≤ k → ⊥
      no k n a b = omega (arith, a, b)

  closing_new : (h handle first : ℕ) (rest : List ℕ) → Allowed w past (events.Close h handle (closings.Done (first ∷ rest))) → Contains (after past).closings (record { hart = h; set = first ∷ rest }) → ⊥
  closing_new h handle first rest may there =
      let dying = (laws.apart.dies past lawful).dying (record { hart = h; set = first ∷ rest }) first there (here first rest) in
      let spare = (laws.spare w past h handle (first ∷ rest) refl lawful may).spare first (here first rest) in
      let ready : dying.object.state ≡ states.Ready = spare.ready (lowered_in handle dying.namespace) dying.object (record { there = lowered_of (after past) handle dying.namespace dying.inside.there; inside = dying.inside.inside }) dying.is in
      let no : states.Ready ≡ states.Dying h = sym ready ∙ dying.dying in
      cc

-- ---- the frames that a turn leaves

module _ (w : Setting) (laws : FrameLaws w.machine) (past : List Event) (lawful : Lawful w.machine past) (h : ℕ) where
  -- of an origin in front of others
  with_origin : (s : State) (o : Origin) (origins : List Origin) (purpose : Purpose) (queue : List Function) (below frames : List Frame) → frames ≡ record { purpose = purpose; queue = queue } ∷ below → IsFrameOf s h o purpose queue
      → AreFramesOf s h origins below → (Contains origins o → ⊥) → AllDiffer origins → FramesFit s h frames
  with_origin s o origins purpose queue below frames is own are differs once =
      subst (FramesFit s h) (sym is) (record { origins = o ∷ origins; are = (own, are); once = (differs, once) })

  without : (s : State) (origins : List Origin) (below frames : List Frame) → frames ≡ below → AreFramesOf s h origins below → AllDiffer origins → FramesFit s h frames
  without s origins below frames is are once = subst (FramesFit s h) (sym is) (record { origins = origins; are = are; once = once })

  -- an opening whose constructors are left, if some are
  opening_frames : (s : State) (l : Loading) (to root : ℕ) (functions : List Function) (origins : List Origin) (below frames : List Frame) → AreFrames (Purpose.of_opening to root) functions below frames → Contains s.loadings l → l.hart ≡ h
      → AreLeft s l (map object_of functions) → AreFramesOf s h origins below → (Contains origins (Origin.opening l) → ⊥) → AllDiffer origins → FramesFit s h frames
  opening_frames s l to root [] origins below frames is there by x are differs once = without s origins below frames is are once
  opening_frames s l to root (f ∷ rest) origins below frames is there by x are differs once =
      with_origin s (Origin.opening l) origins (Purpose.of_opening to root) (behind_first f ∷ rest) below frames is
      (record { there = there; by = by; left = x }) are differs once

  startup_frames : (s : State) (l : Loading) (registers : Registers) (functions : List Function) (origins : List Origin) (below frames : List Frame) → AreFrames (Purpose.of_startup registers) functions below frames → Contains s.loadings l → l.hart ≡ h
      → AreLeft s l (map object_of functions) → AreFramesOf s h origins below → (Contains origins (Origin.opening l) → ⊥) → AllDiffer origins → FramesFit s h frames
  startup_frames s l registers [] origins below frames is there by x are differs once = without s origins below frames is are once
  startup_frames s l registers (f ∷ rest) origins below frames is there by x are differs once =
      with_origin s (Origin.opening l) origins (Purpose.of_startup registers) (behind_first f ∷ rest) below frames is
      (record { there = there; by = by; left = x }) are differs once

  -- a closing, until it is unmapped
  closing_frames : (s : State) (c : Closing) (to : ℕ) (set : List ℕ) (functions : List Function) (origins : List Origin) (below frames : List Frame) → AreFrames (Purpose.of_closing to set) functions below frames → Contains s.closings c → c.hart ≡ h → c.set ≡ set
      → finis_of s set ≡ map object_of functions → AreFramesOf s h origins below → (Contains origins (Origin.closing c) → ⊥) → AllDiffer origins → FramesFit s h frames
  closing_frames s c to set [] origins below frames is there by whole x are differs once =
      with_origin s (Origin.closing c) origins (Purpose.of_closing to set) [] below frames is (record { there = there; by = by; whole = whole; left = x }) are differs once
  closing_frames s c to set (f ∷ rest) origins below frames is there by whole x are differs once =
      with_origin s (Origin.closing c) origins (Purpose.of_closing to set) (behind_first f ∷ rest) below frames is
      (record { there = there; by = by; whole = whole; left = x }) are differs once

  -- all origins of these frames are there
  all_there : (s : State) (origins : List Origin) (frames : List Frame) → AreFramesOf s h origins frames → (o : Origin) → Contains origins o → IsThere s o
  all_there s [] [] are o there = absurd (none_in o there)
  all_there s [] (frame ∷ below) are o there = absurd are
  all_there s (q ∷ origins) [] are o there = absurd are
  all_there s (q ∷ origins) (frame ∷ below) are o there = ⊎_elim
      (λ (same : q ≡ o). subst (IsThere s) same (is_there s h q frame.purpose frame.queue are.0))
      (λ (more : Contains origins o). all_there s origins below are.1 o more)
      (first_or_later q origins o there)

  differs_from : (origins : List Origin) (own : Origin) → (Contains origins own → ⊥) → (o : Origin) → Contains origins o → hart_of_origin o ≡ h → o ≢ own
  differs_from origins own out o there hart same = out (subst (Contains origins) same there)

-- the queue is of the same objects
same_objects : (s : State) (h : ℕ) (o : Origin) (purpose : Purpose) (f g : Function) (rest : List Function) → g.object ≡ f.object → IsFrameOf s h o purpose (f ∷ rest) → IsFrameOf s h o purpose (g ∷ rest)
same_objects s h (Origin.opening l) (Purpose.of_startup registers) f g rest same x = record { there = x.there; by = x.by; left = subst (AreLeft s l) (ap (λ (n : ℕ). n ∷ map object_of rest) (sym same)) x.left }
same_objects s h (Origin.opening l) (Purpose.of_opening to root) f g rest same x = record { there = x.there; by = x.by; left = subst (AreLeft s l) (ap (λ (n : ℕ). n ∷ map object_of rest) (sym same)) x.left }
same_objects s h (Origin.opening l) (Purpose.of_closing to set) f g rest same x = absurd x
same_objects s h (Origin.opening l) (Purpose.of_end code) f g rest same x = absurd x
same_objects s h (Origin.closing c) (Purpose.of_startup registers) f g rest same x = absurd x
same_objects s h (Origin.closing c) (Purpose.of_opening to root) f g rest same x = absurd x
same_objects s h (Origin.closing c) (Purpose.of_closing to set) f g rest same x = record { there = x.there; by = x.by; whole = x.whole; left = x.left ∙ ap (λ (n : ℕ). n ∷ map object_of rest) (sym same) }
same_objects s h (Origin.closing c) (Purpose.of_end code) f g rest same x = absurd x

-- ---- what a turn leaves: frames of other harts, and the hart's own

module _ (w : Setting) (laws : FrameLaws w.machine) (past : List Event) (lawful : Lawful w.machine past) (h : ℕ) (before left_frames : List Frame) (x : FramesFit (after past) h before) where
  pub record Left (added : List Event) : Type 0 where
    pub others : (j : ℕ) (origins : List Origin) (frames : List Frame) → j ≢ h → AreFramesOf (after past) j origins frames → AreFramesOf (after (past ++ added)) j origins frames
    pub own : FramesFit (after (past ++ added)) h left_frames

  -- another hart's origins are others
  not_own : (own : Origin) → hart_of_origin own ≡ h → (j : ℕ) → j ≢ h → (o : Origin) → hart_of_origin o ≡ j → o ≢ own
  not_own own by j differs o of same = differs (sym of ∙ ap hart_of_origin same ∙ by)

  pub stays_left : (added : List Event) → AreAllowed w past added → NoneTouchesFrames added → left_frames ≡ before → Left added
  stays_left added may untouched same = record {
    others = λ j origins frames differs are. events_leave laws.follow w (λ o. Unit {0}) past added lawful may (none_touches (λ o. Unit {0}) past added untouched) j origins frames (λ o there of. tt) are;
    own = subst (FramesFit (after (past ++ added)) h) (sym same) (record {
      origins = x.origins;
      are = events_leave laws.follow w (λ o. Unit {0}) past added lawful may (none_touches (λ o. Unit {0}) past added untouched) h x.origins before (λ o there of. tt) x.are;
      once = x.once;
    });
  }

  pub enters_left : (purpose : Purpose) (f g : Function) (rest : List Function) (below : List Frame) → before ≡ record { purpose = purpose; queue = f ∷ rest } ∷ below → g.object ≡ f.object
      → left_frames ≡ record { purpose = purpose; queue = g ∷ rest } ∷ below → Left []
  enters_left purpose f g rest below was same is = record {
    others = λ j origins frames differs are. subst (λ (es : List Event). AreFramesOf (after es) j origins frames) (sym (append-nil past)) are;
    own = subst (λ (es : List Event). FramesFit (after es) h left_frames) (sym (append-nil past)) (by x.origins (subst (AreFramesOf (after past) h x.origins) was x.are) x.once);
  }
    where
      by : (origins : List Origin) → AreFramesOf (after past) h origins (record { purpose = purpose; queue = f ∷ rest } ∷ below) → AllDiffer origins → FramesFit (after past) h left_frames
      by [] are once = absurd are
      by (o ∷ origins) are once = subst (FramesFit (after past) h) (sym is) (record { origins = o ∷ origins; are = (same_objects (after past) h o purpose f g rest same are.0, are.1); once = once })

  -- the origin is of no frame
  out_of : (own : Origin) → (IsThere (after past) own → ⊥) → Contains x.origins own → ⊥
  out_of own none there = none (all_there w laws past lawful h (after past) x.origins before x.are own there)

  pub loads_left : (to root id : ℕ) (ask : OpenAsk) (first : Loaded) (rest : List Loaded) (ranges : List Range) (functions : List Function)
      → AreConstructors (after (past ++ events.Open h ask (openings.Done id root (first ∷ rest) ranges) ∷ [])) (map serial_of (first ∷ rest)) functions
      → AreAllowed w past (events.Open h ask (openings.Done id root (first ∷ rest) ranges) ∷ inits h (passed functions)) → AreFrames (Purpose.of_opening to root) (left functions) before left_frames
      → Left (events.Open h ask (openings.Done id root (first ∷ rest) ranges) ∷ inits h (passed functions))
  loads_left to root id ask first rest ranges functions are may frames = record {
    others = λ j origins fs differs of. events_leave laws.follow w D past added lawful may spares j origins fs (λ o there by. not_own (Origin.opening l) refl j differs o by) of;
    own = opening_frames w laws past lawful h (after (past ++ added)) l to root (left functions) x.origins before left_frames frames
        (subst (λ (es : List Event). Contains (after es).loadings l) (one_behind past e (inits h (passed functions))) start.there) refl
        (subst (λ (es : List Event). AreLeft (after es) l (map object_of (left functions))) (one_behind past e (inits h (passed functions))) start.left)
        (events_leave laws.follow w D past added lawful may spares h x.origins before (differs_from w laws past lawful h x.origins (Origin.opening l) out) x.are) out x.once;
  }
    where
      e : Event
      e = events.Open h ask (openings.Done id root (first ∷ rest) ranges)

      added : List Event
      added = events.Open h ask (openings.Done id root (first ∷ rest) ranges) ∷ inits h (passed functions)

      l : Loading
      l = record { hart = h; serials = map serial_of (first ∷ rest) }

      D : Origin → Type 0
      D o = o ≢ Origin.opening l

      start : Started w (past ++ e ∷ []) l (passed functions) (map object_of (left functions))
      start = openings_start laws.next w past h id root ask first rest ranges functions lawful may.0 are

      all : AllOf l.serials (passed functions)
      all o there = left_in (after (past ++ e ∷ [])) l (map object_of functions) (laws.next.begins w.machine w past h id root ask first rest ranges functions refl lawful may.0 are) o
          (subst (λ (os : List ℕ). Contains os o) (sym (passed_first functions)) (in_front (passed functions) (map object_of (left functions)) o there))

      out : Contains x.origins (Origin.opening l) → ⊥
      out = out_of (Origin.opening l) (opening_new w laws past lawful h id root ask first rest ranges may.0)

      spares : AllSpare D past added
      spares = (
        (none_touches D past (e ∷ []) (refl, tt)).0,
        inits_spare w.machine laws.apart w refl (past ++ e ∷ []) h (passed functions) l (lawful_push w.machine w past e refl lawful may.0) may.1 (new_loading past h id root ask first rest ranges) all,
      )

  pub dies_left : (to handle first : ℕ) (rest : List ℕ) (functions : List Function) → AreDestructors (after (past ++ events.Close h handle (closings.Done (first ∷ rest)) ∷ [])) (first ∷ rest) functions
      → AreAllowed w past (events.Close h handle (closings.Done (first ∷ rest)) ∷ finis h (passed functions)) → AreFrames (Purpose.of_closing to (first ∷ rest)) (left functions) before left_frames
      → Left (events.Close h handle (closings.Done (first ∷ rest)) ∷ finis h (passed functions))
  dies_left to handle first rest functions are may frames = record {
    others = λ j origins fs differs of. events_leave laws.follow w D past added lawful may spares j origins fs (λ o there by. not_own (Origin.closing c) refl j differs o by) of;
    own = closing_frames w laws past lawful h (after (past ++ added)) c to (first ∷ rest) (left functions) x.origins before left_frames frames
        (subst (λ (es : List Event). Contains (after es).closings c) (one_behind past e (finis h (passed functions))) finish.there) refl refl
        (ap (λ (es : List Event). finis_of (after es) (first ∷ rest)) (sym (one_behind past e (finis h (passed functions)))) ∙ finish.left)
        (events_leave laws.follow w D past added lawful may spares h x.origins before (differs_from w laws past lawful h x.origins (Origin.closing c) out) x.are) out x.once;
  }
    where
      e : Event
      e = events.Close h handle (closings.Done (first ∷ rest))

      added : List Event
      added = events.Close h handle (closings.Done (first ∷ rest)) ∷ finis h (passed functions)

      c : Closing
      c = record { hart = h; set = first ∷ rest }

      D : Origin → Type 0
      D o = o ≢ Origin.closing c

      finish : Finished w (past ++ e ∷ []) c (passed functions) (map object_of (left functions))
      finish = closings_finish laws.next w past h handle first rest functions lawful may.0 are

      all : AllOf c.set (passed functions)
      all o there = finis_in (after (past ++ e ∷ [])) (first ∷ rest) (map object_of functions) (sym are.order) o
          (subst (λ (os : List ℕ). Contains os o) (sym (passed_first functions)) (in_front (passed functions) (map object_of (left functions)) o there))

      out : Contains x.origins (Origin.closing c) → ⊥
      out = out_of (Origin.closing c) (closing_new w laws past lawful h handle first rest may.0)

      spares : AllSpare D past added
      spares = (
        (none_touches D past (e ∷ []) (refl, tt)).0,
        finis_spare w.machine laws.apart w refl (past ++ e ∷ []) h (passed functions) c (lawful_push w.machine w past e refl lawful may.0) may.1 (new_closing past h handle first rest) all,
      )

  -- objects of the first frame are passed: an opening's
  opening_left : (l : Loading) (objects more : List ℕ) (origins : List Origin) (below : List Frame) → Contains (after past).loadings l → l.hart ≡ h → AreLeft (after past) l (objects ++ more) → AreFramesOf (after past) h origins below
      → (Contains origins (Origin.opening l) → ⊥) → AreAllowed w past (inits h objects)
      → ((s : State) → Contains s.loadings l → AreLeft s l more → AreFramesOf s h origins below → FramesFit s h left_frames) → Left (inits h objects)
  opening_left l objects more origins below there by is are out may make = record {
    others = λ j others frames differs of. events_leave laws.follow w D past (inits h objects) lawful may spares j others frames (λ o at of_hart. not_own (Origin.opening l) by j differs o of_hart) of;
    own = make (after (past ++ inits h objects)) (subst (λ (n : ℕ). Contains (after (past ++ inits n objects)).loadings l) by start.there) (subst (λ (n : ℕ). AreLeft (after (past ++ inits n objects)) l more) by start.left)
        (events_leave laws.follow w D past (inits h objects) lawful may spares h origins below (differs_from w laws past lawful h origins (Origin.opening l) out) are);
  }
    where
      D : Origin → Type 0
      D o = o ≢ Origin.opening l

      start : Started w past l objects more
      start = starts_pass laws.next w past l objects more lawful there is

      spares : AllSpare D past (inits h objects)
      spares = inits_spare w.machine laws.apart w refl past h objects l lawful may there (λ o inside. left_in (after past) l (objects ++ more) is o (in_front objects more o inside))

  -- and a closing's
  closing_left : (c : Closing) (objects more : List ℕ) (origins : List Origin) (below : List Frame) → Contains (after past).closings c → c.hart ≡ h → finis_of (after past) c.set ≡ objects ++ more → AreFramesOf (after past) h origins below
      → (Contains origins (Origin.closing c) → ⊥) → AreAllowed w past (finis h objects)
      → ((s : State) → Contains s.closings c → finis_of s c.set ≡ more → AreFramesOf s h origins below → FramesFit s h left_frames) → Left (finis h objects)
  closing_left c objects more origins below there by is are out may make = record {
    others = λ j others frames differs of. events_leave laws.follow w D past (finis h objects) lawful may spares j others frames (λ o at of_hart. not_own (Origin.closing c) by j differs o of_hart) of;
    own = make (after (past ++ finis h objects)) (subst (λ (n : ℕ). Contains (after (past ++ finis n objects)).closings c) by finish.there) (subst (λ (n : ℕ). finis_of (after (past ++ finis n objects)) c.set ≡ more) by finish.left)
        (events_leave laws.follow w D past (finis h objects) lawful may spares h origins below (differs_from w laws past lawful h origins (Origin.closing c) out) are);
  }
    where
      D : Origin → Type 0
      D o = o ≢ Origin.closing c

      finish : Finished w past c objects more
      finish = finishes_pass laws.next w past c objects more lawful there is

      spares : AllSpare D past (finis h objects)
      spares = finis_spare w.machine laws.apart w refl past h objects c lawful may there (λ o inside. finis_in (after past) c.set (objects ++ more) is o (in_front objects more o inside))

  completes_by : (o : Origin) (origins : List Origin) (purpose : Purpose) (f : Function) (rest : List Function) (below : List Frame) → IsFrameOf (after past) h o purpose (f ∷ rest) → AreFramesOf (after past) h origins below → (Contains origins o → ⊥)
      → AllDiffer origins → AreAllowed w past (map (passing purpose h) (f.object ∷ passed rest)) → AreFrames purpose (left rest) below left_frames → Left (map (passing purpose h) (f.object ∷ passed rest))
  completes_by (Origin.opening l) origins (Purpose.of_startup registers) f rest below is are out once may frames =
      opening_left l (f.object ∷ passed rest) (map object_of (left rest)) origins below is.there is.by (subst (AreLeft (after past) l) (passed_and_left f rest) is.left) are out may
      (λ s there left_so of. startup_frames w laws past lawful h s l registers (left rest) origins below left_frames frames there is.by left_so of out once)
  completes_by (Origin.opening l) origins (Purpose.of_opening to root) f rest below is are out once may frames =
      opening_left l (f.object ∷ passed rest) (map object_of (left rest)) origins below is.there is.by (subst (AreLeft (after past) l) (passed_and_left f rest) is.left) are out may
      (λ s there left_so of. opening_frames w laws past lawful h s l to root (left rest) origins below left_frames frames there is.by left_so of out once)
  completes_by (Origin.opening l) origins (Purpose.of_closing to set) f rest below is are out once may frames = absurd is
  completes_by (Origin.opening l) origins (Purpose.of_end code) f rest below is are out once may frames = absurd is
  completes_by (Origin.closing c) origins (Purpose.of_startup registers) f rest below is are out once may frames = absurd is
  completes_by (Origin.closing c) origins (Purpose.of_opening to root) f rest below is are out once may frames = absurd is
  completes_by (Origin.closing c) origins (Purpose.of_closing to set) f rest below is are out once may frames =
      closing_left c (f.object ∷ passed rest) (map object_of (left rest)) origins below is.there is.by (ap (λ (os : List ℕ). finis_of (after past) os) is.whole ∙ is.left ∙ passed_and_left f rest) are out may
      (λ s there left_so of. closing_frames w laws past lawful h s c to set (left rest) origins below left_frames frames there is.by is.whole (ap (λ (os : List ℕ). finis_of s os) (sym is.whole) ∙ left_so) of out once)
  completes_by (Origin.closing c) origins (Purpose.of_end code) f rest below is are out once may frames = absurd is

  pub completes_left : (purpose : Purpose) (f : Function) (rest : List Function) (below : List Frame) → before ≡ record { purpose = purpose; queue = f ∷ rest } ∷ below → AreAllowed w past (map (passing purpose h) (f.object ∷ passed rest))
      → AreFrames purpose (left rest) below left_frames → Left (map (passing purpose h) (f.object ∷ passed rest))
  completes_left purpose f rest below was may frames = by x.origins (subst (AreFramesOf (after past) h x.origins) was x.are) x.once
    where
      by : (origins : List Origin) → AreFramesOf (after past) h origins (record { purpose = purpose; queue = f ∷ rest } ∷ below) → AllDiffer origins → Left (map (passing purpose h) (f.object ∷ passed rest))
      by [] are once = absurd are
      by (o ∷ origins) are once = completes_by o origins purpose f rest below are.0 are.1 once.0 once.1 may frames

  unmaps_by : (o : Origin) (origins : List Origin) (to : ℕ) (set : List ℕ) (below : List Frame) → IsFrameOf (after past) h o (Purpose.of_closing to set) [] → AreFramesOf (after past) h origins below → (Contains origins o → ⊥) → AllDiffer origins
      → AreAllowed w past (events.Unmapped h set ∷ []) → left_frames ≡ below → Left (events.Unmapped h set ∷ [])
  unmaps_by (Origin.opening l) origins to set below is are out once may frames = absurd is
  unmaps_by (Origin.closing c) origins to set below is are out once may frames = record {
    others = λ j others fs differs of. events_leave laws.follow w D past (events.Unmapped h set ∷ []) lawful may spares j others fs (λ o at of_hart. not_own (Origin.closing c) is.by j differs o of_hart) of;
    own = without w laws past lawful h (after (past ++ events.Unmapped h set ∷ [])) origins below left_frames frames
        (events_leave laws.follow w D past (events.Unmapped h set ∷ []) lawful may spares h origins below (differs_from w laws past lawful h origins (Origin.closing c) out) are) once;
  }
    where
      D : Origin → Type 0
      D o = o ≢ Origin.closing c

      spares : AllSpare D past (events.Unmapped h set ∷ [])
      spares = subst (λ (os : List ℕ). AllSpare D past (events.Unmapped h os ∷ [])) is.whole (unmap_spares past h c is.by)

  pub unmaps_left : (to : ℕ) (set : List ℕ) (below : List Frame) → before ≡ record { purpose = Purpose.of_closing to set; queue = [] } ∷ below → AreAllowed w past (events.Unmapped h set ∷ []) → left_frames ≡ below → Left (events.Unmapped h set ∷ [])
  unmaps_left to set below was may frames = by x.origins (subst (AreFramesOf (after past) h x.origins) was x.are) x.once
    where
      by : (origins : List Origin) → AreFramesOf (after past) h origins (record { purpose = Purpose.of_closing to set; queue = [] } ∷ below) → AllDiffer origins → Left (events.Unmapped h set ∷ [])
      by [] are once = absurd are
      by (o ∷ origins) are once = unmaps_by o origins to set below are.0 are.1 once.0 once.1 may frames

-- ---- a move

module _ (w : Setting) (laws : FrameLaws w.machine) (past : List Event) (lawful : Lawful w.machine past) (h : ℕ) (b c : HartState) (did : Did)
    (none : has_finals b.frames ≡ false) (x : FramesFit (after past) h b.frames) (moves : Moves w past h b did c) where
  may : AreAllowed w past (events_of did)
  may = turns_allowed w past h b c did moves

  abbrev Leaves : List Event → Type 0
  Leaves added = Left w laws past lawful h b.frames c.frames x added

  by_events : (added : List Event) → events_of did ≡ added → (AreAllowed w past added → Leaves added) → Leaves (events_of did)
  by_events added are make = subst Leaves (sym are) (make (subst (AreAllowed w past) are may))

  by_frames : LeavesFrames w past h b did c → Leaves (events_of did)
  by_frames (LeavesFrames.stays untouched same) = stays_left w laws past lawful h b.frames c.frames x (events_of did) may untouched same
  by_frames (LeavesFrames.enters purpose f address more rest below was has none enters is) =
      by_events [] none (λ allowed. enters_left w laws past lawful h b.frames c.frames x purpose f (record f { addresses = more }) rest below was refl is)
  by_frames (LeavesFrames.loads to root id ask first rest ranges functions are is frames back entered) =
      by_events (events.Open h ask (openings.Done id root (first ∷ rest) ranges) ∷ inits h (passed functions)) is
      (λ allowed. loads_left w laws past lawful h b.frames c.frames x to root id ask first rest ranges functions are allowed frames)
  by_frames (LeavesFrames.dies to handle first rest functions are is frames back entered) =
      by_events (events.Close h handle (closings.Done (first ∷ rest)) ∷ finis h (passed functions)) is
      (λ allowed. dies_left w laws past lawful h b.frames c.frames x to handle first rest functions are allowed frames)
  by_frames (LeavesFrames.completes purpose f rest below not_end was is frames entered) =
      by_events (map (passing purpose h) (f.object ∷ passed rest)) is (λ allowed. completes_left w laws past lawful h b.frames c.frames x purpose f rest below was allowed frames)
  by_frames (LeavesFrames.unmaps to set below was is frames registers) =
      by_events (events.Unmapped h set ∷ []) is (λ allowed. unmaps_left w laws past lawful h b.frames c.frames x to set below was allowed frames)
  by_frames (LeavesFrames.finalises code f rest below events next was finals is frames entered) = absurd (false≢true (sym none ∙ ap has_finals was))

  pub left_by_move : Left w laws past lawful h b.frames c.frames x (events_of did)
  left_by_move = by_frames (turns_leave_frames w past h b c did moves)
