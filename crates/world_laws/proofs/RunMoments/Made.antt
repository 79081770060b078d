-- Each grant of a journal was made by a turn of its own hart, inside its call.
use Rattle.std.proofs.Common.{◌≡◌, ◌⊎◌, inl, inr, ⊎_elim, ℕ, zero, suc, ◌+◌, ◌<◌, ◌≤◌, Bool, true, false}
use Rattle.std.proofs.Common.{cond, List, [], ◌∷◌, ◌++◌, length, Some, refl, sym, ap, subst, ◌∙◌, append-nil, append_assoc, arith}
use Rattle.std.specs.List.{Contains, slice_get}
use Rattle.std.proofs.lemmas.Bool.{true≢false}
use Rattle.std.proofs.lemmas.Option.{none-some, slice_get_past, slice_get_within}
use Rattle.ld_base.specs.declared.linking.Choice.{Choice}
use Rattle.history_event.specs.declared.event.Event.{Event}
use Rattle.history_event.specs.declared.event.Event.TheVariants as events
use Rattle.history_event.specs.declared.hart_end.HartEnd.TheVariants as ends
use Rattle.history_calls.specs.declared.link_served.startup.Setup.{Setup}
use Rattle.history_calls.specs.Startup.{FindHarts, found_at, opening}
use Rattle.history_state.specs.Setting.{Setting}
use Rattle.history_state.specs.Lemmas.Lists.{at_in}
use Rattle.hart_moves.specs.Harts.{HartState, Offered, Resolving}
use Rattle.hart_moves.specs.Moves.{events_of, settles}
use Rattle.world_turns.specs.Run.{IsStarted}
use Rattle.world_turns.specs.Turn.{Turn}
use Rattle.world_turns.specs.World.{World, found_journal, has_won, settled_by, settling, settling_event}
use Rattle.world_laws.specs.WorldSlots.Later.{IsReached, Later, Part, Steps}
use Rattle.world_laws.specs.WorldSlots.Lemmas.Joined.{joined}
use Rattle.world_laws.specs.RunMoments.Laws.{GrantsAreMadeByTurns, WasMadeByTurn}
use Rattle.world_laws.specs.RunMoments.OfTurns.{IsGrantedInCall}
use Rattle.world_laws.proofs.RunMoments.Grown.{later_has_more}
use Rattle.world_laws.proofs.RunMoments.Inside.{HasNone, both_none, empty_none, grants_in_calls, is_grant, one_none}

-- ---- places

-- an element stands in the first list, or in the other
get_cases : {X : Type 0} (xs ys : List X) (k : ℕ) (x : X) → slice_get (xs ++ ys) k ≡ Some x → (slice_get xs k ≡ Some x) ⊎ ((length xs ≤ k) × Contains ys x)
get_cases [] ys k x at = inr (omega arith, at_in ys k x at)
get_cases (y ∷ xs) ys zero x at = inl at
get_cases (y ∷ xs) ys (suc k) x at = ⊎_elim
    (λ (first : slice_get xs k ≡ Some x). inl first)
    (λ (other : (length xs ≤ k) × Contains ys x). let behind : length xs ≤ k = other.0 in inr (omega (arith, behind), other.1))
    (get_cases xs ys k x at)

-- ---- events that are no grants

settled_none : (o : Offered) (found : ℕ) → is_grant (settling_event o found) ≡ false
settled_none o found = by (has_won o found)
  where
    by : (t : Bool) → is_grant (cond t (events.Bound o.number) (events.Lost o.number found)) ≡ false
    by true = refl
    by false = refl

place_none : (r : Resolving) → HasNone (settled_by r)
place_none Resolving.idle = empty_none
place_none (Resolving.to_exchange o) = empty_none
place_none (Resolving.to_finish o found) = empty_none
place_none (Resolving.to_settle o found) = one_none (settling_event o found) (settled_none o found)

settling_none : (harts : List HartState) → HasNone (settling harts)
settling_none [] = empty_none
settling_none (b ∷ rest) = both_none (settled_by b.resolving) (settling rest) (place_none b.resolving) (settling_none rest)

first_none : (harts : List HartState) (t : Bool) → HasNone (cond t (settling harts) [])
first_none harts true = settling_none harts
first_none harts false = empty_none

finds_none : (w : Setting) (past : List Event) (h : ℕ) (names : List (List ℕ)) (found : List Event) (addresses : List ℕ)
    → FindHarts w past h names found addresses → HasNone found
finds_none w past h names found addresses (FindHarts.no_more _ _) = empty_none
finds_none w past h names found addresses (FindHarts.one_more _ _ name others serial index value rest more finds next) =
    both_none (found_at h name serial index value ∷ []) rest (one_none (found_at h name serial index value) refl)
    (finds_none w (past ++ found_at h name serial index value ∷ []) (h + 1) others rest more next)

start_none : (w : Setting) (setup : Setup) (world : World) → IsStarted w setup world → HasNone world.journal
start_none w setup world x =
    let starts = x.starts in
    let first : Event = opening setup starts.root starts.added starts.ranges in
    subst HasNone (sym starts.are)
    (both_none (first ∷ []) starts.found (one_none first refl) (finds_none w (first ∷ []) 1 setup.harts starts.found starts.addresses starts.finds))

-- ---- a step

module _ (w : Setting) (setup : Setup) (k number hart owner slot value : ℕ) (choice : Choice) where
  abbrev grant : Event
  grant = events.Grant number hart owner slot choice value

  abbrev Made : Part → World → Type 0
  Made part world = WasMadeByTurn w setup part world k number hart owner slot value

  never : {P : Type 0} (es : List Event) → HasNone es → Contains es grant → P
  never es none there = absurd (let no : true ≡ false = none grant there in true≢false no)

  -- it stands behind what was there
  behind : {P : Type 0} (old new : List Event) (added : List Event) → new ≡ old ++ added → length old ≤ k → HasNone added → slice_get new k ≡ Some grant → P
  behind old new added is above none at = ⊎_elim
      (λ (first : slice_get old k ≡ Some grant). let below : k < length old = slice_get_within old k grant first in absurd (omega (arith, below, above)))
      (λ (other : (length old ≤ k) × Contains added grant). never added none other.1)
      (get_cases old added k grant (subst (λ (es : List Event). slice_get es k ≡ Some grant) is at))

  turn_made : (part : Part) (h : ℕ) (old new : World) → IsReached w setup part old → Turn w h old new → length old.journal ≤ k
      → slice_get new.journal k ≡ Some grant → Made part new
  turn_made part h old new reached turn above at = ⊎_elim
      (λ (first : slice_get (found_journal old turn.did) k ≡ Some grant).
      behind old.journal (found_journal old turn.did) (cond (settles turn.did) (settling old.harts) []) refl above
      (first_none old.harts (settles turn.did)) first)
      (λ (other : (length (found_journal old turn.did) ≤ k) × Contains (events_of turn.did) grant).
      let inside = grants_in_calls w (found_journal old turn.did) h turn.before turn.left turn.did turn.moves number hart owner slot value choice other.1 in
      subst (λ (j : ℕ). WasMadeByTurn w setup part new k number j owner slot value) (sym inside.own) (record {
        before = part;
        old = old;
        new = new;
        reached = reached;
        turn = turn;
        later = Later.no_more part new;
        from = other.0;
        to = slice_get_within new.journal k grant at;
        inside = subst (λ (j : ℕ). IsGrantedInCall (found_journal old turn.did) h turn.before turn.left number j owner slot value) inside.own inside;
      }))
      (get_cases (found_journal old turn.did) (events_of turn.did) k grant (subst (λ (es : List Event). slice_get es k ≡ Some grant) turn.journal at))

  step_made : (part other : Part) (old new : World) → IsReached w setup part old → Steps w part old other new → length old.journal ≤ k
      → slice_get new.journal k ≡ Some grant → Made other new
  step_made part other old new reached (Steps.by_turn _ h _ _ turn) above at = turn_made part h old new reached turn above at
  step_made part other old new reached (Steps.by_beginning registers _ _ exited begins) above at =
      behind old.journal new.journal [] (ap (λ (y : World). y.journal) begins.begun ∙ sym (append-nil old.journal)) above empty_none at
  step_made part other old new reached (Steps.by_lacking _ _ exited lacks) above at =
      behind old.journal new.journal (settling old.harts ++ events.Ended 0 ends.Memory ∷ [])
      (ap (λ (y : World). y.journal) lacks.leaves ∙ append_assoc old.journal (settling old.harts) (events.Ended 0 ends.Memory ∷ [])) above
      (both_none (settling old.harts) (events.Ended 0 ends.Memory ∷ []) (settling_none old.harts) (one_none (events.Ended 0 ends.Memory) refl)) at
  step_made part other old new reached (Steps.by_settling _ _ _ is) above at =
      behind old.journal new.journal (settling old.harts) (ap (λ (y : World). y.journal) is) above (settling_none old.harts) at

  -- ---- every world

  made_on : (part other : Part) (old new : World) → Later w part old other new → Made part old → Made other new
  made_on part other old new later x = record {
    before = x.before;
    old = x.old;
    new = x.new;
    reached = x.reached;
    turn = x.turn;
    later = joined w x.before part other x.new old new x.later later;
    from = x.from;
    to = x.to;
    inside = x.inside;
  }

  later_made : (part other : Part) (old new : World) → IsReached w setup part old → Later w part old other new → length old.journal ≤ k
      → slice_get new.journal k ≡ Some grant → Made other new
  later_made part other old new reached (Later.no_more _ _) above at = absurd (none-some grant (sym (slice_get_past old.journal k above) ∙ at))
  later_made part other old new reached (Later.one_more _ middle _ _ between _ step more) above at =
      let grown = later_has_more w middle other between new more in
      let next : IsReached w setup middle between = record {
        start = reached.start;
        starts = reached.starts;
        leads = joined w Part.of_program part middle reached.start old between reached.leads
            (Later.one_more part middle middle old between between step (Later.no_more middle between));
      } in
      ⊎_elim
      (λ (first : slice_get between.journal k ≡ Some grant). made_on middle other between new more (step_made part middle old between reached step above first))
      (λ (beyond : (length between.journal ≤ k) × Contains grown.added grant). later_made middle other between new next more beyond.0 at)
      (get_cases between.journal grown.added k grant (subst (λ (es : List Event). slice_get es k ≡ Some grant) grown.is at))

  pub made : (part : Part) (world : World) → IsReached w setup part world → slice_get world.journal k ≡ Some grant → Made part world
  made part world x at =
      let grown = later_has_more w Part.of_program part x.start world x.leads in
      let start : IsReached w setup Part.of_program x.start = record { start = x.start; starts = x.starts; leads = Later.no_more Part.of_program x.start } in
      ⊎_elim
      (λ (first : slice_get x.start.journal k ≡ Some grant). never x.start.journal (start_none w setup x.start x.starts) (at_in x.start.journal k grant first))
      (λ (beyond : (length x.start.journal ≤ k) × Contains grown.added grant). later_made Part.of_program part x.start world start x.leads beyond.0 at)
      (get_cases x.start.journal grown.added k grant (subst (λ (es : List Event). slice_get es k ≡ Some grant) grown.is at))

pub grants_made : GrantsAreMadeByTurns
grants_made w setup part world k number hart owner slot value choice x at = made w setup k number hart owner slot value choice part world x at
