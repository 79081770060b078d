-- What a replay keeps.
use Rattle.std.specs.Prelude.{◌^◌, ◌≤◌}
use Rattle.trace_replay.specs.Lists.{Lists}
use Rattle.trace_replay.specs.Shown.{IsHistory}

-- there is a history of the lists, and serials are few enough to count the modules that come and go
pub record IsKept (l : Lists) : Type 0 where
  pub history : IsHistory l
  pub few : l.next ≤ 2 ^ 62
