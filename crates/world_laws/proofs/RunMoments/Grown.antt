-- The journal of a later world has that of the earlier one in front.
use Rattle.std.proofs.Common.{List, [], ◌∷◌, ◌++◌, sym, ap, ◌∙◌, append-nil, append_assoc}
use Rattle.history_event.specs.declared.event.Event.{Event}
use Rattle.history_event.specs.declared.event.Event.TheVariants as events
use Rattle.history_event.specs.declared.hart_end.HartEnd.TheVariants as ends
use Rattle.history_state.specs.Setting.{Setting}
use Rattle.hart_moves.specs.Moves.{events_of}
use Rattle.world_turns.specs.Turn.{Turn}
use Rattle.world_turns.specs.World.{World, settling}
use Rattle.world_laws.specs.WorldSlots.Later.{Later, Part, Steps}
use Rattle.world_laws.specs.RunMoments.OfJournal.{HasMore}

step_has_more : (w : Setting) (part other : Part) (old new : World) → Steps w part old other new → HasMore old.journal new.journal
step_has_more w part other old new (Steps.by_turn _ h _ _ turn) = by_turn turn
  where
    by_turn : Turn w h old new → HasMore old.journal new.journal
    by_turn turn = record { added = _; is = turn.journal ∙ append_assoc old.journal _ (events_of turn.did) }
step_has_more w part other old new (Steps.by_beginning registers _ _ exited begins) =
    record { added = []; is = ap (λ (y : World). y.journal) begins.begun ∙ sym (append-nil old.journal) }
step_has_more w part other old new (Steps.by_lacking _ _ exited lacks) = record {
  added = settling old.harts ++ events.Ended 0 ends.Memory ∷ [];
  is = ap (λ (y : World). y.journal) lacks.leaves ∙ append_assoc old.journal (settling old.harts) (events.Ended 0 ends.Memory ∷ []);
}
step_has_more w part other old new (Steps.by_settling _ _ _ is) = record { added = settling old.harts; is = ap (λ (y : World). y.journal) is }

both_more : (one other last : List Event) → HasMore one other → HasMore other last → HasMore one last
both_more one other last x y = record {
  added = x.added ++ y.added;
  is = y.is ∙ ap (λ (es : List Event). es ++ y.added) x.is ∙ append_assoc one x.added y.added;
}

pub later_has_more : (w : Setting) (part other : Part) (old new : World) → Later w part old other new → HasMore old.journal new.journal
later_has_more w part other old new (Later.no_more _ _) = record { added = []; is = sym (append-nil old.journal) }
later_has_more w part other old new (Later.one_more _ middle _ _ between _ step more) =
    both_more old.journal between.journal new.journal (step_has_more w part middle old between step) (later_has_more w middle other between new more)
