-- A settled grant leaves what is left to be finalised.
use Rattle.std.proofs.Common.{◌≡◌, inl, inr, ⊎_elim, ℕ, Bool, true, false, not, ◌&&◌, cond, List, [], ◌∷◌, ◌++◌, sym, ap, subst, ◌∙◌, append_assoc}
use Rattle.std.specs.Option.{is_some}
use Rattle.history_event.specs.declared.event.Event.{Event}
use Rattle.history_event.specs.declared.event.Event.TheVariants.{Fini}
use Rattle.history_event.specs.declared.state.Standing.{Standing}
use Rattle.history_event.specs.declared.state.Standing.TheVariants as standings
use Rattle.history_state.specs.After.{after}
use Rattle.history_state.specs.Allowed.{AllowedIn, AtTheEnd, ByClosing}
use Rattle.history_state.specs.Objects.{has, object_at}
use Rattle.history_state.specs.Setting.{Setting}
use Rattle.history_state.specs.State.{State}
use Rattle.history_state.specs.Step.{settle}
use Rattle.history_state.specs.Lemmas.History.{after_push}
use Rattle.link_holds.specs.Events.{settled}
use Rattle.hart_moves.specs.Moves.{AreAllowed, own_fini}
use Rattle.world_answers.specs.ReturnsPart.FinalTurns.Laws.{SettlingKeepsOwn, SettlingKeepsPlans}
use Rattle.world_answers.specs.ReturnsPart.FinalTurns.Planned.{IsPlanned}

-- how it stands then
standing_of : Bool → ℕ → Standing
standing_of true saw = standings.Bound
standing_of false saw = standings.Lost saw

after_settled : (past : List Event) (grant saw : ℕ) (won : Bool) → after (past ++ settled grant won saw ∷ []) ≡ settle grant (standing_of won saw) (after past)
unfolding standing_of
after_settled past grant saw true = after_push past (settled grant true saw)
after_settled past grant saw false = after_push past (settled grant false saw)

pub plan_stays : SettlingKeepsPlans
plan_stays past grant saw won plan is = subst (λ (s : State). IsPlanned s plan) (sym (after_settled past grant saw won)) here
  where
    here : IsPlanned (settle grant (standing_of won saw) (after past)) plan
    here = record { others = is.others; order = is.order; addresses = is.addresses; events = is.events; next = is.next }

-- an object that may be finalised may be so behind it
fini_stays : (w : Setting) (past : List Event) (h d grant : ℕ) (standing : Standing) (e : Event) → AllowedIn w past (after past) (Fini h d)
    → AllowedIn w (past ++ e ∷ []) (settle grant standing (after past)) (Fini h d)
fini_stays w past h d grant standing e may = ⊎_elim
    (λ (c : ByClosing (after past) h d). inl (record { closing = c.closing; there = c.there; by = c.by; next = c.next }))
    (λ (a : AtTheEnd w past (after past) h d). inr (record {
      first_hart = a.first_hart;
      mapped = record { namespace = a.mapped.namespace; object = a.mapped.object; there = a.mapped.there; inside = a.mapped.inside; is = a.mapped.is };
      initialised = a.initialised;
      unfinished = a.unfinished;
      was = record {
        before = a.was.before;
        since = a.was.since ++ e ∷ [];
        are = ap (λ (es : List Event). es ++ e ∷ []) a.was.are ∙ append_assoc a.was.before a.was.since (e ∷ []);
        over = a.was.over;
        next = a.was.next;
      };
    }))
    may

pub own_stays : SettlingKeepsOwn
own_stays w past h object grant saw won may =
    subst (λ (s : State). AreAllowed w (past ++ e ∷ []) (own_fini s h object)) (sym (after_settled past grant saw won))
    (by (is_some (object_at (after past) object) && not (has (after past).finis object)) may)
  where
    e : Event
    e = settled grant won saw

    by : (b : Bool) → AreAllowed w past (cond b (Fini h object ∷ []) []) → AreAllowed w (past ++ e ∷ []) (cond b (Fini h object ∷ []) [])
    by true a = (subst (λ (s : State). AllowedIn w (past ++ e ∷ []) s (Fini h object)) (sym (after_settled past grant saw won)) (fini_stays w past h object grant (standing_of won saw) e a.0), tt)
    by false a = tt
