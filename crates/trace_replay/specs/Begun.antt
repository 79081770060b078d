-- The lists before the first event.
use Rattle.std.specs.Prelude.{ℕ, true, false, [], ◌∷◌}
use Rattle.history_state.specs.State.{empty_namespace}
use Rattle.trace_replay.specs.Lists.{Lists}

abbrev pub before_all : ℕ → Lists
before_all harts = record {
  harts = harts;
  begins = true;
  binds = false;
  namespaces = empty_namespace 0 ∷ [];
  next = 1;
  ranges = [];
  modules = [];
  statics = record { size = 0; tp = 0 };
  generation = 0;
  blocks = [];
  grants = [];
  startup = [];
  chosen = [];
  pinned = [];
  closings = [];
  unfinished = [];
  kept = [];
  endings = [];
  starting = [];
  heads = [];
}
