-- The end that a whole trail leads to is the last one that the journal has of its hart. For whoever ties trails to the ends of a run.
use Rattle.std.specs.Prelude.{◌≡◌, ℕ, ◌≤◌, ◌<◌, false, List, None, Some}
use Rattle.std.specs.List.{slice_get}
use Rattle.history_event.specs.declared.event.Event.{Event}
use Rattle.history_event.specs.declared.event.Event.TheVariants.{Ended}
use Rattle.history_event.specs.declared.hart_end.HartEnd.{HartEnd}
use Rattle.history_calls.specs.declared.link_served.startup.Started.{Started}
use Rattle.word_rule.specs.declared.view.TrailItem.{TrailItem}
use Rattle.history_state.specs.Setting.{Setting}
use Rattle.hart_moves.specs.Harts.{HartState}
use Rattle.hart_moves.specs.Starting.{HartStart, IsStartOf}
use Rattle.hart_moves.specs.TurnEvents.Appends.{has_finals}
use Rattle.hart_trails.specs.Trails.{LeavesToItsEnd}

-- no end of the hart stands between two numbers
abbrev pub NoneEnds : List Event → ℕ → (from to : ℕ) → Type 0
NoneEnds journal h from to = (k : ℕ) (reason : HartEnd) → from ≤ k → k < to → slice_get journal k ≡ Some (Ended h reason) → ⊥

-- the last end of the hart that a journal has from a number on
pub record IsLastEnd (journal : List Event) (h from : ℕ) (reason : HartEnd) : Type 0 where
  pub at : ℕ
  pub since : from ≤ at
  pub there : slice_get journal at ≡ Some (Ended h reason)
  pub last : (k : ℕ) (other : HartEnd) → at < k → slice_get journal k ≡ Some (Ended h other) → ⊥

-- a hart that runs, and runs no final destructors
pub record IsFresh (b : HartState) : Type 0 where
  pub runs : b.«end» ≡ None
  pub no_finals : has_finals b.frames ≡ false

abbrev pub EndIsLast : Type 0
EndIsLast = (w : Setting) (journal : List Event) (start : HartStart) (h : ℕ) (reason : HartEnd) (trail : List TrailItem) → IsFresh start.hart
    → LeavesToItsEnd w journal start h reason trail → IsLastEnd journal h start.from reason

-- so one trail from one start has one end
abbrev pub OneEndOfTrail : Type 0
OneEndOfTrail = (w : Setting) (journal : List Event) (start : HartStart) (h : ℕ) (reason other : HartEnd) (trail : List TrailItem) → IsFresh start.hart
    → LeavesToItsEnd w journal start h reason trail → LeavesToItsEnd w journal start h other trail → reason ≡ other

-- each hart is fresh as startup sets it off
abbrev pub StartIsFresh : Type 0
StartIsFresh = (fuel : ℕ) (past : List Event) (started : Started) (h : ℕ) (start : HartStart) → IsStartOf fuel past started h start → IsFresh start.hart
