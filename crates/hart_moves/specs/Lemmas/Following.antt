-- What a hart followed over a journal it follows over a longer one, and with a turn more.
use Rattle.std.proofs.Common.{◌≡◌, ◌⊎◌, inl, inr, ⊎_elim, ℕ, zero, suc, ◌+◌, ◌-◌, ◌≤◌, ◌<◌, List, [], ◌∷◌, ◌++◌, length, take, drop, Some, sym}
use Rattle.std.proofs.Common.{ap, subst, ◌∙◌, arith}
use Rattle.std.specs.List.{Contains, slice_get}
use Rattle.std.proofs.lemmas.List.{drop-append-le, length-append, length-drop, take-append-le}
use Rattle.std.proofs.lemmas.Option.{none-some}
use Rattle.history_event.specs.declared.event.Event.{Event}
use Rattle.history_state.specs.Setting.{Setting}
use Rattle.history_state.specs.Lemmas.Lists.{here, later}
use Rattle.hart_moves.specs.Follows.{AreOthers, Follows, HasNone, Turned, TurnsAt}
use Rattle.hart_moves.specs.Harts.{HartState}
use Rattle.hart_moves.specs.Moves.{Moves, events_of}
use Rattle.hart_moves.specs.Trails.{beside_of}

-- ---- events of others

-- what stands in two lists stands in one of them
at_both : (xs ys : List Event) (k : ℕ) (e : Event) → slice_get (xs ++ ys) k ≡ Some e
    → ((slice_get xs k ≡ Some e) × (k < length xs)) ⊎ ((length xs ≤ k) × Contains ys e)
at_both [] ys k e at = inr (omega arith, there ys k at)
  where
    there : (ys : List Event) (k : ℕ) → slice_get ys k ≡ Some e → Contains ys e
    there [] k at = absurd (none-some e at)
    there (y ∷ rest) zero at = let same : y ≡ e = cc in subst (Contains (y ∷ rest)) same (here y rest)
    there (y ∷ rest) (suc k) at = later y rest e (there rest k at)
at_both (x ∷ xs) ys zero e at = inl (at, omega arith)
at_both (x ∷ xs) ys (suc k) e at = ⊎_elim
    (λ (y : (slice_get xs k ≡ Some e) × (k < length xs)). inl (y.0, (let less : k < length xs = y.1 in omega (arith, less))))
    (λ (y : (length xs ≤ k) × Contains ys e). inr ((let more : length xs ≤ k = y.0 in omega (arith, more)), y.1))
    (at_both xs ys k e at)

-- ---- a longer journal

module _ (w : Setting) (journal more : List Event) (h : ℕ) where
  pub none_longer : (from to : ℕ) → to ≤ length journal → HasNone journal h from to → HasNone (journal ++ more) h from to
  none_longer from to within none k e low high at = ⊎_elim
      (λ (y : (slice_get journal k ≡ Some e) × (k < length journal)). none k e low high y.0)
      (λ (y : (length journal ≤ k) × Contains more e). absurd (let past : length journal ≤ k = y.0 in omega (arith, past, high, within)))
      (at_both journal more k e at)

  -- what is behind is others'
  pub none_with : (from to : ℕ) → HasNone journal h from (length journal) → AreOthers h more → HasNone (journal ++ more) h from to
  none_with from to none others k e low high at = ⊎_elim
      (λ (y : (slice_get journal k ≡ Some e) × (k < length journal)). none k e low y.1 y.0)
      (λ (y : (length journal ≤ k) × Contains more e). others e y.1)
      (at_both journal more k e at)

  pub turn_longer : (turn : Turned) (b c : HartState) → TurnsAt w journal h turn b c → TurnsAt w (journal ++ more) h turn b c
  turn_longer turn b c x =
      let within : turn.at + length (events_of turn.did) ≤ length journal = x.within in
      let at : turn.at ≤ length journal = omega (arith, within) in
      let left : length (drop turn.at journal) ≡ length journal - turn.at = length-drop turn.at journal in
      let longer : length (journal ++ more) ≡ length journal + length more = length-append journal more in
      record {
        within = omega (arith, within, longer);
        moves = subst (λ (past : List Event). Moves w past h b turn.did c) (sym (take-append-le turn.at journal more at)) x.moves;
        own = ap (take (length (events_of turn.did))) (drop-append-le turn.at journal more at)
            ∙ take-append-le (length (events_of turn.did)) (drop turn.at journal) more (omega (arith, within, left)) ∙ x.own;
        beside = x.beside ∙ ap (λ (past : List Event). beside_of past h b turn.did) (sym (take-append-le turn.at journal more at));
      }

  pub follows_longer : (from to : ℕ) (b c : HartState) (turns : List Turned) → Follows w journal h from b turns to c
      → Follows w (journal ++ more) h from b turns to c
  follows_longer from to b c turns (Follows.no_more _ _) = Follows.no_more from b
  follows_longer from to b c turns (Follows.one_more _ _ _ d _ turn rest late none x follows) =
      let within : turn.at + length (events_of turn.did) ≤ length journal = x.within in
      Follows.one_more from to b d c turn rest late (none_longer from turn.at (omega (arith, within)) none) (turn_longer turn b d x)
      (follows_longer (turn.at + length (events_of turn.did)) to d c rest follows)

-- ---- a turn more

module _ (w : Setting) (journal : List Event) (h : ℕ) where
  pub follows_within : (from to : ℕ) (b c : HartState) (turns : List Turned) → from ≤ length journal → Follows w journal h from b turns to c
      → to ≤ length journal
  follows_within from to b c turns begins (Follows.no_more _ _) = begins
  follows_within from to b c turns begins (Follows.one_more _ _ _ d _ turn rest late none x follows) =
      follows_within (turn.at + length (events_of turn.did)) to d c rest x.within follows

  pub one_turn_more : (from to : ℕ) (b c d : HartState) (turns : List Turned) (turn : Turned) → Follows w journal h from b turns to c → to ≤ turn.at
      → HasNone journal h to turn.at → TurnsAt w journal h turn c d → Follows w journal h from b (turns ++ turn ∷ []) (turn.at + length (events_of turn.did)) d
  one_turn_more from to b c d turns turn (Follows.no_more _ _) late none x =
      Follows.one_more from (turn.at + length (events_of turn.did)) b d d turn [] late none x (Follows.no_more (turn.at + length (events_of turn.did)) d)
  one_turn_more from to b c d turns turn (Follows.one_more _ _ _ e _ first rest soon before y follows) late none x =
      Follows.one_more from (turn.at + length (events_of turn.did)) b e d first (rest ++ turn ∷ []) soon before y
      (one_turn_more (first.at + length (events_of first.did)) to e c d rest turn follows late none x)
