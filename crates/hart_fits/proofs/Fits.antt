-- What leaves a hart fit, and that it may end.
use Rattle.std.proofs.Common.{◌≡◌, ⊎_elim, inl, inr, ℕ, Bool, true, false, List, [], ◌∷◌, ◌++◌, map, Some, None, refl, sym, ap, subst, ◌∙◌, append-nil}
use Rattle.std.specs.List.{Contains}
use Rattle.std.proofs.lemmas.Bool.{false≢true}
use Rattle.std.proofs.lemmas.List.{map-append}
use Rattle.std.proofs.lemmas.List.Elements.{Contains-append_cases}
use Rattle.history_event.specs.declared.event.Event.{Event}
use Rattle.history_event.specs.declared.event.Event.TheVariants as events
use Rattle.history_event.specs.declared.state.Ending.{Ending}
use Rattle.history_state.specs.After.{after}
use Rattle.history_state.specs.Step.{step}
use Rattle.history_state.specs.Lemmas.History.{after_push, one_behind}
use Rattle.history_state.specs.Lemmas.Lists.{has_in, here, later, only_in}
use Rattle.history_state.specs.Objects.{has}
use Rattle.history_calls.specs.Laws.{hart_of}
use Rattle.hart_moves.specs.Moves.{events_of}
use Rattle.hart_moves.specs.TurnEvents.Appends.{Appends}
use Rattle.hart_moves.specs.TurnEvents.Laws.{FinalsStayAway, TurnsAppend}
use Rattle.world_turns.specs.WorldEnds.Lemmas.Endings.{sparing_events, unmapping}
use Rattle.hart_fits.specs.Fits.{FitsMayEnd, IsBefore, OthersLeaveHart, OwnMovesLeaveHart}
use Rattle.hart_moves.specs.Follows.{AreOthers}
use Rattle.hart_fits.specs.Others.{OthersLeaveFrames}
use Rattle.hart_fits.specs.Over.{RunningIsNotOver, RunsYet}
use Rattle.hart_fits.specs.Own.{OwnMovesKeepFrames}
use Rattle.hart_fits.specs.Lemmas.Ending.{Ends, ends}

-- ---- ends

runs_on : (h : ℕ) (past now : List Event) → (after now).endings ≡ (after past).endings → RunsYet h past → RunsYet h now
runs_on h past now same runs there = runs (subst (λ (es : List Ending). Contains (map (λ e. e.hart) es) h) same there)

-- an end of another hart isn't this one's
one_runs_on : (h : ℕ) (past : List Event) (e : Event) → (hart_of e ≡ Some h → ⊥) → RunsYet h past → RunsYet h (past ++ e ∷ [])
one_runs_on h past e other runs = by (ends (after past) e)
  where
    by : Ends (after past) e → RunsYet h (past ++ e ∷ [])
    by (Ends.none same) there = runs_on h past (past ++ e ∷ []) (ap (λ s. s.endings) (after_push past e) ∙ same) runs there
    by (Ends.one k reason is) there = ⊎_elim
        (λ (old : Contains (map (λ x. x.hart) (after past).endings) h). runs old)
        (λ (new : Contains (k ∷ []) h). other (ap hart_of is ∙ ap (λ (n : ℕ). Some n) (only_in k h new)))
        (Contains-append_cases (map (λ x. x.hart) (after past).endings) (k ∷ []) h
        (subst (λ (ns : List ℕ). Contains ns h) (map-append (λ (x : Ending). x.hart) (after past).endings (record { hart = k; «end» = reason } ∷ []))
        (subst (λ (es : List Ending). Contains (map (λ x. x.hart) es) h) (ap (λ s. s.endings) (after_push past e) ∙ ap (λ (d : Event). (step (after past) d).endings) is) there)))

others_run_on : (h : ℕ) (past more : List Event) → AreOthers h more → RunsYet h past → RunsYet h (past ++ more)
others_run_on h past [] others runs = runs_on h past (past ++ []) (ap (λ (es : List Event). (after es).endings) (append-nil past)) runs
others_run_on h past (e ∷ rest) others runs =
    subst (RunsYet h) (one_behind past e rest)
    (others_run_on h (past ++ e ∷ []) rest (λ d there. others d (later e rest d there)) (one_runs_on h past e (others e (here e rest)) runs))

-- ---- what leaves it

pub others_leave_hart : OthersLeaveFrames → RunningIsNotOver → OthersLeaveHart
others_leave_hart frames not_over w past more h b lawful whole may others within low runs is =
    let yet : RunsYet h (past ++ more) = others_run_on h past more others (is.runs runs) in
    record {
      frames = frames w past more h b.frames lawful may others (not_over w (past ++ more) h whole low within yet) is.frames;
      no_finals = is.no_finals;
      runs = λ e. yet;
    }

pub own_moves_leave_hart : OwnMovesKeepFrames → TurnsAppend → FinalsStayAway → OwnMovesLeaveHart
own_moves_leave_hart frames append away w past h b c did lawful moves runs is = record {
  frames = frames w past h b c did lawful is.no_finals is.frames moves;
  no_finals = away w past h b c did moves is.no_finals;
  runs = by (append w past h b c did moves);
}
  where
    by : Appends past h b did c → c.«end» ≡ None → RunsYet h (past ++ events_of did)
    by (Appends.no_end spares same) on = runs_on h past (past ++ events_of did) (sparing_events past (events_of did) spares) (is.runs runs)
    by (Appends.unmapping set are same) on =
        subst (λ (es : List Event). RunsYet h (past ++ es)) (sym are) (runs_on h past (past ++ events.Unmapped h set ∷ []) (unmapping past h set) (is.runs runs))
    by (Appends.an_end front reason spares are ends') on = absurd (let no : Some reason ≡ None = sym ends' ∙ on in cc)
    by (Appends.after_finals code spares finals ends' all) on = absurd (false≢true (sym is.no_finals ∙ finals))

-- ---- what it is for

pub fits_may_end : FitsMayEnd
fits_may_end w events h b fits runs = ⊎_elim
    (λ (before : IsBefore events h b). inl (absent (has (map (λ e. e.hart) (after events).endings) h) refl (before.runs runs)))
    (λ finals. inr (finals.first, finals.over))
    fits.place
  where
    absent : (t : Bool) → has (map (λ e. e.hart) (after events).endings) h ≡ t → RunsYet h events → has (map (λ e. e.hart) (after events).endings) h ≡ false
    absent false is none = is
    absent true is none = absurd (none (has_in (map (λ e. e.hart) (after events).endings) h is))
