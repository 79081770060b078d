-- The harts of a run, one of which ends.
use Rattle.std.specs.Prelude.{◌≡◌, ℕ, List, Some, map, slice_set}
use Rattle.std.specs.List.{slice_get}
use Rattle.history_event.specs.declared.hart_end.HartEnd.{HartEnd}
use Rattle.hart_moves.specs.Harts.{HartState}
use Rattle.hart_moves.specs.Moves.{ended, freed}

-- one hart ends, and the others stay as they are
pub record Stops (old new : List HartState) (h : ℕ) (reason : HartEnd) : Type 0 where
  pub before : HartState
  pub there : slice_get old h ≡ Some before
  pub left : new ≡ slice_set old h (ended reason before)

-- each grant is settled first
pub record EndsAmong (old new : List HartState) (h : ℕ) (reason : HartEnd) : Type 0 where
  pub before : HartState
  pub there : slice_get old h ≡ Some before
  pub left : new ≡ slice_set (map freed old) h (ended reason before)
