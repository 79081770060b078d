-- What the machine alone says of a run: which hart may end, and what may be finalised at its end.
use Rattle.std.proofs.Common.{◌≡◌, inl, inr, ⊎_elim, ℕ, Bool, true, false, cond, not, ◌&&◌, List, [], ◌∷◌, None, subst}
use Rattle.std.specs.Prelude.{IsTrue}
use Rattle.std.specs.Option.{is_some}
use Rattle.history_event.specs.declared.event.Event.{Event}
use Rattle.history_event.specs.declared.event.Event.TheVariants.{Fini}
use Rattle.history_state.specs.After.{after}
use Rattle.history_state.specs.Allowed.{Allowed, AtTheEnd, ByClosing, MayEnd}
use Rattle.history_state.specs.Objects.{has, object_at}
use Rattle.history_state.specs.Setting.{Machine, Setting, have_exited}
use Rattle.history_state.specs.State.{State}
use Rattle.hart_moves.specs.Moves.{AreAllowed, own_fini}

-- a run that is given nothing
abbrev bare : Machine → Setting
bare m = record { machine = m; folders = []; preload = []; files = None }

module _ (w v : Setting) (same : w.machine ≡ v.machine) where
  pub ends_there : (s : State) (h : ℕ) → MayEnd w s h → MayEnd v s h
  ends_there s h may = subst (λ (m : Machine). MayEnd (bare m) s h) same may

  pub exited_there : (s : State) → IsTrue (have_exited w s) → IsTrue (have_exited v s)
  exited_there s over = subst (λ (m : Machine). IsTrue (have_exited (bare m) s)) same over

  at_the_end : (past : List Event) (h object : ℕ) → AtTheEnd w past (after past) h object → AtTheEnd v past (after past) h object
  at_the_end past h object at = record {
    first_hart = at.first_hart;
    mapped = at.mapped;
    initialised = at.initialised;
    unfinished = at.unfinished;
    was = record {
      before = at.was.before;
      since = at.was.since;
      are = at.was.are;
      over = exited_there (after at.was.before) at.was.over;
      next = at.was.next;
    };
  }

  finalised_there : (past : List Event) (h object : ℕ) → Allowed w past (Fini h object) → Allowed v past (Fini h object)
  finalised_there past h object may = ⊎_elim
      (λ (by : ByClosing (after past) h object). inl by)
      (λ (at : AtTheEnd w past (after past) h object). inr (at_the_end past h object at))
      may

  -- an object's own event, if it is still to come
  pub own_there : (past : List Event) (h object : ℕ) → AreAllowed w past (own_fini (after past) h object)
      → AreAllowed v past (own_fini (after past) h object)
  own_there past h object may = by (is_some (object_at (after past) object) && not (has (after past).finis object)) may
    where
      by : (t : Bool) → AreAllowed w past (cond t (Fini h object ∷ []) []) → AreAllowed v past (cond t (Fini h object ∷ []) [])
      by true one = (finalised_there past h object one.0, tt)
      by false none = tt
