-- What a hart that waits was shown. For whoever answers a call that is to be tried again, and judges such an answer.
use Rattle.std.specs.Prelude.{◌≡◌, ℕ, true, List, ◌++◌}
use Rattle.ld_base.specs.declared.fault.Shown.{Shown}
use Rattle.history_event.specs.declared.event.Event.{Event}
use Rattle.history_state.specs.After.{after}
use Rattle.history_state.specs.Setting.{Setting}
use Rattle.history_state.specs.State.{State}
use Rattle.history_calls.specs.Call.{Call}
use Rattle.history_calls.specs.Waiting.{Shows}
use Rattle.hart_moves.specs.Follows.{AreOthers}
use Rattle.hart_moves.specs.Waiting.{is_still}

-- a call of the hart, which it makes of a state, was shown this when it was made last: none of the hart's events stands behind that moment
pub record WasShown (w : Setting) (past : List Event) (h : ℕ) (call : State → Call) (for : Shown) : Type 0 where
  pub asked : List Event
  pub since : List Event
  pub are : past ≡ asked ++ since
  pub others : AreOthers h since
  pub shows : Shows w (after asked) h (call (after asked)) for

-- and it is so still
pub record IsStillShown (w : Setting) (past : List Event) (h : ℕ) (for : Shown) : Type 0 where
  pub call : State → Call
  pub shown : WasShown w past h call for
  pub still : is_still (after past) for ≡ true
