-- A hart that follows has the end that the journal tells of it.
use Rattle.std.proofs.Common.{◌≡◌, ⊎_elim, ℕ, zero, suc, ◌+◌, ◌-◌, ◌≤◌, ◌<◌, false, List, [], ◌∷◌, ◌++◌, length, take, drop, Option, Some, None, refl, sym, ap, subst, ◌∙◌, append_assoc, append-nil, arith}
use Rattle.std.specs.List.{Contains, slice_get}
use Rattle.std.proofs.lemmas.Bool.{false≢true}
use Rattle.std.proofs.lemmas.List.{take_all}
use Rattle.std.proofs.lemmas.List.Elements.{Contains-append_cases}
use Rattle.history_event.specs.declared.event.Event.{Event}
use Rattle.history_event.specs.declared.event.Event.TheVariants as events
use Rattle.history_event.specs.declared.hart_end.HartEnd.{HartEnd}
use Rattle.history_event.specs.declared.state.Ending.{Ending}
use Rattle.word_rule.specs.declared.view.TrailItem.{TrailItem}
use Rattle.history_state.specs.After.{after}
use Rattle.history_state.specs.Setting.{Setting}
use Rattle.history_state.specs.State.{State}
use Rattle.history_state.specs.Step.{step}
use Rattle.history_state.specs.Lemmas.History.{after_push, one_behind}
use Rattle.history_state.specs.Lemmas.Lists.{first_or_later, here, later, none_in, only_in}
use Rattle.history_calls.specs.Laws.{hart_of}
use Rattle.hart_moves.specs.Follows.{AreOthers, HasNone, Turned}
use Rattle.hart_moves.specs.Harts.{HartState}
use Rattle.hart_moves.specs.Moves.{Did, Moves, events_of}
use Rattle.hart_moves.specs.Lemmas.Legality.{ended_stays}
use Rattle.hart_moves.specs.TurnEvents.Appends.{Appends, has_finals}
use Rattle.hart_moves.specs.TurnEvents.Laws.{FinalsStayAway, TurnsAppend}
use Rattle.world_turns.specs.WorldEnds.Lemmas.Endings.{sparing_events, unmapping}
use Rattle.hart_fits.specs.Lemmas.Ending.{Ends, ends}
use Rattle.hart_trails.specs.Trails.{FollowsBy}
use Rattle.hart_threads.specs.Ends.{EndsTold}

-- ---- parts of a journal

nil_take : {X : Type 0} (n : ℕ) → take {A = X} n [] ≡ []
nil_take zero = refl
nil_take (suc n) = refl

pub take_more : {X : Type 0} (a n : ℕ) (xs : List X) → take (a + n) xs ≡ take a xs ++ take n (drop a xs)
take_more zero n xs = ap (λ m. take m xs) (omega arith)
take_more (suc a) n [] = nil_take (suc a + n) ∙ sym (nil_take n)
take_more (suc a) n (x ∷ xs) =
    let count : suc a + n ≡ suc (a + n) = omega arith in
    ap (λ m. take m (x ∷ xs)) count ∙ ap (λ ys. x ∷ ys) (take_more a n xs)

-- where an element of a part stands
record Stands (from to : ℕ) (xs : List Event) (e : Event) : Type 0 where
  pub at : ℕ
  pub since : from ≤ at
  pub before : at < to
  pub there : slice_get xs at ≡ Some e

in_front : (n : ℕ) (xs : List Event) (e : Event) → Contains (take n xs) e → Stands 0 n xs e
in_front zero xs e there = absurd (none_in e there)
in_front (suc n) [] e there = absurd (none_in e there)
in_front (suc n) (x ∷ xs) e there = ⊎_elim
    (λ (is : x ≡ e). record { at = 0; since = omega arith; before = omega arith; there = ap (λ (y : Event). Some y) is })
    (λ (rest : Contains (take n xs) e). let y = in_front n xs e rest in record { at = suc y.at; since = omega arith; before = (let low = y.before in omega (arith, low)); there = y.there })
    (first_or_later x (take n xs) e there)

in_part : (a n : ℕ) (xs : List Event) (e : Event) → Contains (take n (drop a xs)) e → Stands a (a + n) xs e
in_part zero n xs e there = let y = in_front n xs e there in record { at = y.at; since = omega arith; before = (let low = y.before in omega (arith, low)); there = y.there }
in_part (suc a) zero [] e there = absurd (none_in e there)
in_part (suc a) (suc n) [] e there = absurd (none_in e there)
in_part (suc a) n (x ∷ xs) e there =
    let y = in_part a n xs e there in
    record { at = suc y.at; since = (let s = y.since in omega (arith, s)); before = (let low = y.before in omega (arith, low)); there = y.there }

pub gap_others : (journal : List Event) (h from n : ℕ) → HasNone journal h from (from + n) → AreOthers h (take n (drop from journal))
gap_others journal h from n none e there = let y = in_part from n journal e there in none y.at e y.since y.before y.there

-- ---- ends

same_ends : (h : ℕ) (past now : List Event) (b c : HartState) → (after now).endings ≡ (after past).endings → c.«end» ≡ b.«end» → EndsTold h past b → EndsTold h now c
same_ends h past now b c same ends_so told e there is = ends_so ∙ told e (subst (λ (es : List Ending). Contains es e) same there) is

-- an end of another hart
one_other : (h : ℕ) (past : List Event) (d : Event) (b : HartState) → (hart_of d ≡ Some h → ⊥) → EndsTold h past b → EndsTold h (past ++ d ∷ []) b
one_other h past d b other told = by (ends (after past) d)
  where
    by : Ends (after past) d → EndsTold h (past ++ d ∷ []) b
    by (Ends.none same) e there own = same_ends h past (past ++ d ∷ []) b b (ap (λ (s : State). s.endings) (after_push past d) ∙ same) refl told e there own
    by (Ends.one k reason is) e there own = ⊎_elim
        (λ (old : Contains (after past).endings e). told e old own)
        (λ (new : Contains (record { hart = k; «end» = reason } ∷ []) e).
        absurd (other (ap hart_of is ∙ ap (λ (n : ℕ). Some n) (ap (λ (x : Ending). x.hart) (only_in (record { hart = k; «end» = reason }) e new) ∙ own))))
        (Contains-append_cases (after past).endings (record { hart = k; «end» = reason } ∷ []) e
        (subst (λ (es : List Ending). Contains es e) (ap (λ (s : State). s.endings) (after_push past d) ∙ ap (λ (x : Event). (step (after past) x).endings) is) there))

pub others_told : (h : ℕ) (past more : List Event) (b : HartState) → AreOthers h more → EndsTold h past b → EndsTold h (past ++ more) b
others_told h past [] b others told = subst (λ (es : List Event). EndsTold h es b) (sym (append-nil past)) told
others_told h past (d ∷ rest) b others told =
    subst (λ (es : List Event). EndsTold h es b) (one_behind past d rest)
    (others_told h (past ++ d ∷ []) rest b (λ e there. others e (later d rest e there)) (one_other h past d b (others d (here d rest)) told))

-- a move of its own
module _ (append : TurnsAppend) (away : FinalsStayAway) where
  own_told : (w : Setting) (past : List Event) (h : ℕ) (b c : HartState) (did : Did) → Moves w past h b did c → b.«end» ≡ None → has_finals b.frames ≡ false → EndsTold h past b
      → EndsTold h (past ++ events_of did) c
  own_told w past h b c did moves runs calm told = by (append w past h b c did moves)
    where
      by : Appends past h b did c → EndsTold h (past ++ events_of did) c
      by (Appends.no_end spares same) e there own = same_ends h past (past ++ events_of did) b c (sparing_events past (events_of did) spares) same told e there own
      by (Appends.unmapping set are same) e there own = same_ends h past (past ++ events_of did) b c (ap (λ (es : List Event). (after (past ++ es)).endings) are ∙ unmapping past h set) same told e there own
      by (Appends.an_end front reason spares are over) e there own =
          let x : Ending = record { hart = h; «end» = reason } in
          let now : (after (past ++ events_of did)).endings ≡ (after past).endings ++ x ∷ [] =
          ap (λ (es : List Event). (after (past ++ es)).endings) are
          ∙ ap (λ (es : List Event). (after es).endings) (sym (append_assoc past front (events.Ended h reason ∷ [])))
          ∙ ap (λ (s : State). s.endings) (after_push (past ++ front) (events.Ended h reason))
          ∙ ap (λ (es : List Ending). es ++ x ∷ []) (sparing_events past front spares) in
          ⊎_elim
          (λ (old : Contains (after past).endings e). absurd (let no : None ≡ Some e.«end» = sym runs ∙ told e old own in cc))
          (λ (new : Contains (x ∷ []) e). over ∙ ap (λ (y : Ending). Some y.«end») (only_in x e new))
          (Contains-append_cases (after past).endings (x ∷ []) e (subst (λ (es : List Ending). Contains es e) now there))
      by (Appends.after_finals code spares finals over all) e there own = absurd (false≢true (sym calm ∙ finals))

  pub running : (w : Setting) (past : List Event) (h : ℕ) (b c : HartState) (did : Did) → Moves w past h b did c → b.«end» ≡ None
  running w past h b c did moves = by b.«end» refl
    where
      by : (o : Option HartEnd) → b.«end» ≡ o → b.«end» ≡ None
      by None is = is
      by (Some reason) is = absurd (ended_stays w past h b c did reason is moves)

  pub ends_told : (w : Setting) (journal : List Event) (h from to : ℕ) (first b : HartState) (turns : List Turned) (trail : List TrailItem)
      → FollowsBy w journal h from first turns trail to b → has_finals first.frames ≡ false → EndsTold h (take from journal) first → EndsTold h (take to journal) b
  ends_told w journal h from to first b turns trail (FollowsBy.no_more _ _) calm told = told
  ends_told w journal h from to first b turns trail (FollowsBy.one_more _ _ _ c _ turn rest items left late none x leaves follows) calm told =
      let runs : first.«end» ≡ None = running w (take turn.at journal) h first c turn.did x.moves in
      let more : ℕ = turn.at - from in
      let count : from + more ≡ turn.at = omega (arith, late) in
      let up_to : take turn.at journal ≡ take from journal ++ take more (drop from journal) = ap (λ (n : ℕ). take n journal) (sym count) ∙ take_more from more journal in
      let before : EndsTold h (take turn.at journal) first = subst (λ (es : List Event). EndsTold h es first) (sym up_to)
      (others_told h (take from journal) (take more (drop from journal)) first (gap_others journal h from more (subst (HasNone journal h from) (sym count) none)) told) in
      let own : take (turn.at + length (events_of turn.did)) journal ≡ take turn.at journal ++ events_of turn.did =
      take_more turn.at (length (events_of turn.did)) journal ∙ ap (λ (es : List Event). take turn.at journal ++ es) x.own in
      ends_told w journal h (turn.at + length (events_of turn.did)) to c b rest left follows (away w (take turn.at journal) h first c turn.did x.moves calm)
      (subst (λ (es : List Event). EndsTold h es c) (sym own) (own_told w (take turn.at journal) h first c turn.did x.moves runs calm before))

-- up to the end of what it has heard
pub told_to : (h : ℕ) (journal : List Event) (to : ℕ) (b : HartState) → to ≤ length journal → HasNone journal h to (length journal) → EndsTold h (take to journal) b → EndsTold h journal b
told_to h journal to b low none told =
    let more : ℕ = length journal - to in
    let count : to + more ≡ length journal = omega (arith, low) in
    let whole : journal ≡ take to journal ++ take more (drop to journal) = sym (take_all (length journal) journal (omega arith)) ∙ ap (λ (n : ℕ). take n journal) (sym count) ∙ take_more to more journal in
    subst (λ (es : List Event). EndsTold h es b) (sym whole)
    (others_told h (take to journal) (take more (drop to journal)) b (gap_others journal h to more (subst (HasNone journal h to) (sym count) none)) told)
