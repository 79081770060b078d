-- A run that nobody names: of no harts, whose library accepts nothing. Whoever names a run says what it was given instead.
use Rattle.std.specs.Prelude.{[], None, Err}
use Rattle.history_state.specs.Setting.{Setting}
use Rattle.world_turns.specs.Counts.{Counts}

abbrev pub no_setting : Setting
no_setting = record {
  machine = record { harts = 0; verdict = λ bytes program. Err (record { rule = 0; number = 0 }) };
  folders = [];
  preload = [];
  files = None;
}

abbrev pub no_counts : Counts
no_counts = record { faults = 0; misses = 0 }
