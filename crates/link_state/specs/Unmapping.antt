-- What an unmapping hands out.
use Rattle.std.specs.Prelude.{◌≡◌, ℕ, List, filter}
use Rattle.history_event.specs.declared.handed.Removed.{Removed}
use Rattle.history_state.specs.Objects.{mapped}
use Rattle.history_state.specs.State.{State}
use Rattle.history_state.specs.Step.{goes_with}
use Rattle.close_mark.specs.UnmappedObjects.Taken.{goes}

-- the mapped objects of the set, and the ranges of their pages and blocks, each in the order in which they stood
pub record IsRemoved (s : State) (set : List ℕ) (removed : Removed) : Type 0 where
  pub objects : removed.objects ≡ filter (goes set) (mapped s)
  pub ranges : removed.ranges ≡ filter (goes_with set) s.ranges
