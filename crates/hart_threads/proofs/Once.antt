-- A hart that follows ends once.
use Rattle.std.proofs.Common.{◌≡◌, ⊎_elim, ℕ, ◌+◌, ◌-◌, ◌≤◌, ◌||◌, cond, ne_eqb, Bool, true, false, List, [], ◌∷◌, ◌++◌, length, map, take, drop, Some, None, refl, sym, ap, subst, ◌∙◌, append_assoc, append-nil, arith}
use Rattle.std.specs.List.{Contains}
use Rattle.std.proofs.lemmas.Bool.{false≢true, or_right}
use Rattle.std.proofs.lemmas.List.{take_all}
use Rattle.std.proofs.lemmas.List.Sums.{sum_by-append}
use Rattle.history_event.specs.declared.event.Event.{Event}
use Rattle.history_event.specs.declared.event.Event.TheVariants as events
use Rattle.history_event.specs.declared.state.Ending.{Ending}
use Rattle.word_rule.specs.declared.view.HartView.{HartView}
use Rattle.word_rule.specs.declared.view.TrailItem.{TrailItem}
use Rattle.history_state.specs.After.{after}
use Rattle.history_state.specs.Owed.{is_end_of, times_ended}
use Rattle.history_state.specs.Setting.{Setting}
use Rattle.history_state.specs.State.{State}
use Rattle.history_state.specs.Step.{step}
use Rattle.history_state.specs.Lemmas.History.{after_push, one_behind}
use Rattle.history_state.specs.Lemmas.Lists.{here, later}
use Rattle.history_calls.specs.Laws.{hart_of}
use Rattle.hart_moves.specs.Follows.{AreOthers, HasNone, Turned}
use Rattle.hart_moves.specs.Harts.{Frame, HartState}
use Rattle.hart_moves.specs.Moves.{Did, Moves, events_of}
use Rattle.hart_moves.specs.TurnEvents.Appends.{Appends, has_finals, is_final_frame}
use Rattle.hart_moves.specs.TurnEvents.Laws.{FinalsStayAway, TurnsAppend}
use Rattle.world_turns.specs.WorldEnds.Lemmas.Endings.{sparing_events, unmapping}
use Rattle.world_turns.specs.WorldFrames.Finals.{final_frame}
use Rattle.hart_fits.specs.Fits.{HartFits, IsBefore, IsInFinals}
use Rattle.hart_fits.specs.Lemmas.Ending.{Ends, ends}
use Rattle.hart_fits.specs.Over.{RunsYet}
use Rattle.hart_trails.specs.Trails.{FollowsBy}
use Rattle.hart_threads.specs.Turns.{Proceeds, RunsBy}
use Rattle.hart_threads.proofs.Stepping.{front, none_there}
use Rattle.hart_threads.proofs.Told.{gap_others, running, take_more}

-- how often a hart has ended: once at most, and not while it runs
record EndsOnce (h : ℕ) (journal : List Event) (b : HartState) : Type 0 where
  most : times_ended h (after journal).endings ≤ 1
  none : b.«end» ≡ None → times_ended h (after journal).endings ≡ 0

-- ---- counting

-- one that an end is, or isn't
abbrev one_if : ℕ → Ending → ℕ
one_if h e = cond {A = ℕ} (is_end_of h e) 1 0

both_counted : (h : ℕ) (one other : List Ending) → times_ended h (one ++ other) ≡ times_ended h one + times_ended h other
both_counted h one other = sum_by-append (one_if h) one other

none_counted : (h : ℕ) (es : List Ending) → (Contains (map (λ e. e.hart) es) h → ⊥) → times_ended h es ≡ 0
none_counted h [] none = refl
none_counted h (x ∷ es) none =
    let rest : times_ended h es ≡ 0 = none_counted h es (λ there. none (later x.hart (map (λ e. e.hart) es) h there)) in
    let other : is_end_of h x ≡ false = ne_eqb x.hart h (λ same. none (subst (λ (n : ℕ). Contains (x.hart ∷ map (λ e. e.hart) es) n) same (here x.hart (map (λ e. e.hart) es)))) in
    let first : one_if h x ≡ 0 = ap (λ (b : Bool). cond {A = ℕ} b 1 0) other in
    let whole : times_ended h (x ∷ es) ≡ (0 + one_if h x) + times_ended h es = both_counted h (x ∷ []) es in
    omega (arith, rest, first, whole)

-- an end of another hart, and one of its own
other_more : (h : ℕ) (es : List Ending) (x : Ending) → (x.hart ≡ h → ⊥) → times_ended h (es ++ x ∷ []) ≡ times_ended h es
other_more h es x other =
    let whole : times_ended h (es ++ x ∷ []) ≡ times_ended h es + (0 + one_if h x) = both_counted h es (x ∷ []) in
    let first : one_if h x ≡ 0 = ap (λ (b : Bool). cond {A = ℕ} b 1 0) (ne_eqb x.hart h other) in
    omega (arith, whole, first)

at_most : (h : ℕ) (es : List Ending) (x : Ending) → times_ended h es ≡ 0 → times_ended h (es ++ x ∷ []) ≤ 1
at_most h es x none =
    let whole : times_ended h (es ++ x ∷ []) ≡ times_ended h es + (0 + one_if h x) = both_counted h es (x ∷ []) in
    let first : one_if h x ≤ 1 = low (is_end_of h x) in
    omega (arith, whole, first, none)
  where
    low : (b : Bool) → cond {A = ℕ} b 1 0 ≤ 1
    low true = omega arith
    low false = omega arith

-- ---- events

same_ends : (h : ℕ) (past now : List Event) (b c : HartState) → (after now).endings ≡ (after past).endings → c.«end» ≡ b.«end» → EndsOnce h past b → EndsOnce h now c
same_ends h past now b c same ends_so x = record {
  most = subst (λ (es : List Ending). times_ended h es ≤ 1) (sym same) x.most;
  none = λ runs. ap (times_ended h) same ∙ x.none (sym ends_so ∙ runs);
}

one_other : (h : ℕ) (past : List Event) (d : Event) (b : HartState) → (hart_of d ≡ Some h → ⊥) → EndsOnce h past b → EndsOnce h (past ++ d ∷ []) b
one_other h past d b other x = by (ends (after past) d)
  where
    by : Ends (after past) d → EndsOnce h (past ++ d ∷ []) b
    by (Ends.none same) = same_ends h past (past ++ d ∷ []) b b (ap (λ (s : State). s.endings) (after_push past d) ∙ same) refl x
    by (Ends.one k reason is) =
        let ending : Ending = record { hart = k; «end» = reason } in
        let now : (after (past ++ d ∷ [])).endings ≡ (after past).endings ++ ending ∷ [] = ap (λ (s : State). s.endings) (after_push past d) ∙ ap (λ (e : Event). (step (after past) e).endings) is in
        let same : times_ended h (after (past ++ d ∷ [])).endings ≡ times_ended h (after past).endings =
        ap (times_ended h) now ∙ other_more h (after past).endings ending (λ (own : k ≡ h). other (ap hart_of is ∙ ap (λ (n : ℕ). Some n) own)) in
        record { most = subst (λ (n : ℕ). n ≤ 1) (sym same) x.most; none = λ runs. same ∙ x.none runs }

others_once : (h : ℕ) (past more : List Event) (b : HartState) → AreOthers h more → EndsOnce h past b → EndsOnce h (past ++ more) b
others_once h past [] b others x = subst (λ (es : List Event). EndsOnce h es b) (sym (append-nil past)) x
others_once h past (d ∷ rest) b others x =
    subst (λ (es : List Event). EndsOnce h es b) (one_behind past d rest)
    (others_once h (past ++ d ∷ []) rest b (λ e there. others e (later d rest e there)) (one_other h past d b (others d (here d rest)) x))

-- ---- turns

module _ (append : TurnsAppend) (away : FinalsStayAway) where
  own_once : (w : Setting) (past : List Event) (h : ℕ) (b c : HartState) (did : Did) → Moves w past h b did c → b.«end» ≡ None → has_finals b.frames ≡ false → EndsOnce h past b
      → EndsOnce h (past ++ events_of did) c
  own_once w past h b c did moves runs calm x = by (append w past h b c did moves)
    where
      by : Appends past h b did c → EndsOnce h (past ++ events_of did) c
      by (Appends.no_end spares same) = same_ends h past (past ++ events_of did) b c (sparing_events past (events_of did) spares) same x
      by (Appends.unmapping set are same) = same_ends h past (past ++ events_of did) b c (ap (λ (es : List Event). (after (past ++ es)).endings) are ∙ unmapping past h set) same x
      by (Appends.an_end front reason spares are over) =
          let ending : Ending = record { hart = h; «end» = reason } in
          let now : (after (past ++ events_of did)).endings ≡ (after past).endings ++ ending ∷ [] =
          ap (λ (es : List Event). (after (past ++ es)).endings) are
          ∙ ap (λ (es : List Event). (after es).endings) (sym (append_assoc past front (events.Ended h reason ∷ [])))
          ∙ ap (λ (s : State). s.endings) (after_push (past ++ front) (events.Ended h reason))
          ∙ ap (λ (es : List Ending). es ++ ending ∷ []) (sparing_events past front spares) in
          record {
            most = subst (λ (es : List Ending). times_ended h es ≤ 1) (sym now) (at_most h (after past).endings ending (x.none runs));
            none = λ on. absurd (let no : None ≡ Some reason = sym on ∙ over in cc);
          }
      by (Appends.after_finals code spares finals over all) = absurd (false≢true (sym calm ∙ finals))

  once_at : (w : Setting) (journal : List Event) (h from to : ℕ) (first b : HartState) (turns : List Turned) (trail : List TrailItem)
      → FollowsBy w journal h from first turns trail to b → has_finals first.frames ≡ false → EndsOnce h (take from journal) first → EndsOnce h (take to journal) b
  once_at w journal h from to first b turns trail (FollowsBy.no_more _ _) calm x = x
  once_at w journal h from to first b turns trail (FollowsBy.one_more _ _ _ c _ turn rest items left late none at leaves follows) calm x =
      let more : ℕ = turn.at - from in
      let count : from + more ≡ turn.at = omega (arith, late) in
      let up_to : take turn.at journal ≡ take from journal ++ take more (drop from journal) = ap (λ (n : ℕ). take n journal) (sym count) ∙ take_more from more journal in
      let before : EndsOnce h (take turn.at journal) first = subst (λ (es : List Event). EndsOnce h es first) (sym up_to)
      (others_once h (take from journal) (take more (drop from journal)) first (gap_others journal h from more (subst (HasNone journal h from) (sym count) none)) x) in
      let own : take (turn.at + length (events_of turn.did)) journal ≡ take turn.at journal ++ events_of turn.did =
      take_more turn.at (length (events_of turn.did)) journal ∙ ap (λ (es : List Event). take turn.at journal ++ es) at.own in
      once_at w journal h (turn.at + length (events_of turn.did)) to c b rest left follows (away w (take turn.at journal) h first c turn.did at.moves calm)
      (subst (λ (es : List Event). EndsOnce h es c) (sym own)
      (own_once w (take turn.at journal) h first c turn.did at.moves (running append away w (take turn.at journal) h first c turn.did at.moves) calm before))

  -- up to all that it has heard
  once_to : (w : Setting) (from : ℕ) (first : HartState) (begun : List TrailItem) (seat : HartView) (b : HartState) → RunsBy w from first begun seat b → has_finals first.frames ≡ false
      → EndsOnce seat.number (take from seat.heard) first → EndsOnce seat.number seat.heard b
  once_to w from first begun seat b r calm x =
      let late : r.to ≤ length seat.heard = r.late in
      let more : ℕ = length seat.heard - r.to in
      let count : r.to + more ≡ length seat.heard = omega (arith, late) in
      let whole : seat.heard ≡ take r.to seat.heard ++ take more (drop r.to seat.heard) =
      sym (take_all (length seat.heard) seat.heard (omega arith)) ∙ ap (λ (n : ℕ). take n seat.heard) (sym count) ∙ take_more r.to more seat.heard in
      subst (λ (es : List Event). EndsOnce seat.number es b) (sym whole)
      (others_once seat.number (take r.to seat.heard) (take more (drop r.to seat.heard)) b
      (gap_others seat.heard seat.number r.to more (subst (HasNone seat.heard seat.number r.to) (sym count) r.none))
      (once_at w seat.heard seat.number from r.to first b r.turns r.own r.follows calm x))

  -- before the final destructors no end of a hart that runs stands there
  not_in_finals : (frames above : List Frame) (frame : Frame) → frames ≡ above ++ frame ∷ [] → is_final_frame frame ≡ true → has_finals frames ≡ true
  not_in_finals frames above frame are final = ap has_finals are ∙ last above
    where
      last : (fs : List Frame) → has_finals (fs ++ frame ∷ []) ≡ true
      last [] = ap (λ (t : Bool). t || false) final
      last (f ∷ fs) = or_right (is_final_frame f) (has_finals (fs ++ frame ∷ [])) (last fs)

  pub runs_yet : (w : Setting) (h : HartView) (b : HartState) → HartFits w h.heard h.number b → b.«end» ≡ None → has_finals b.frames ≡ false → RunsYet h.number h.heard
  runs_yet w h b fits runs calm = ⊎_elim
      (λ (x : IsBefore h.heard h.number b). x.runs runs)
      (λ (x : IsInFinals w h.heard h.number b).
      absurd (false≢true (sym calm ∙ not_in_finals b.frames x.frames.above (final_frame x.frames.code x.frames.function) x.frames.are refl)))
      fits.place

  -- a way of it may begin at any moment
  pub runs_here : (w : Setting) (h : HartView) (b : HartState) → RunsBy w (length h.heard) b h.trail h b
  runs_here w h b = record {
    turns = [];
    own = [];
    to = length h.heard;
    follows = FollowsBy.no_more (length h.heard) b;
    late = omega arith;
    none = none_there h.heard h.number (length h.heard);
    trail = sym (append-nil h.trail);
  }

  -- a hart that ran before the final destructors has ended once at most, however it went on
  pub ended_once : (w : Setting) (before now : HartView) (b c : HartState) → HartFits w before.heard before.number b → b.«end» ≡ None → has_finals b.frames ≡ false → Proceeds w before now b c
      → times_ended now.number (after now.heard).endings ≤ 1
  ended_once w before now b c fits runs calm on =
      (once_to w (length before.heard) b before.trail now c (on.on (length before.heard) b before.trail (runs_here w before b)) calm start).most
    where
      none : times_ended before.number (after before.heard).endings ≡ 0
      none = none_counted before.number (after before.heard).endings (runs_yet w before b fits runs calm)

      first : EndsOnce before.number before.heard b
      first = record { most = omega (arith, none); none = λ on_so. none }

      start : EndsOnce now.number (take (length before.heard) now.heard) b
      start = subst (λ (n : ℕ). EndsOnce n (take (length before.heard) now.heard) b) (sym on.same)
          (subst (λ (es : List Event). EndsOnce before.number es b) (sym (ap (take (length before.heard)) on.longer.1 ∙ front before.heard on.longer.0)) first)
