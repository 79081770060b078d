-- Which object is initialised or finalised next.
use Rattle.std.specs.Prelude.{ℕ, Bool, false, ◌&&◌, ◌==◌, List, find, reverse, Option, Some, None}
use Rattle.history_event.specs.declared.state.Closing.{Closing}
use Rattle.history_event.specs.declared.state.Loading.{Loading}
use Rattle.history_graph.specs.Initialised.{is_one_of}
use Rattle.trace_replay.specs.Heads.{serials_in}
use Rattle.trace_replay.specs.Lists.{Lists}
use Rattle.trace_replay.specs.Steps.{starts}

-- ---- for the code of this crate alone

-- the object is the next of what is left of a loading of the hart
abbrev pub starts_by : ℕ → ℕ → Loading → Bool
starts_by hart object left = left.hart == hart && starts object left

abbrev pub is_some_of : ℕ → Option ℕ → Bool
is_some_of object None = false
is_some_of object (Some other) = other == object

-- the object is the next of this closing of the hart
abbrev pub is_next_of : List ℕ → ℕ → ℕ → Closing → Bool
is_next_of unfinished hart object c = c.hart == hart && is_some_of object (find (is_one_of c.set) (reverse unfinished))

-- it is mapped and unfinished, and was the next of all that are mapped since every hart exited
abbrev pub is_due_at_end : ℕ → Lists → Bool
is_due_at_end object l = is_one_of (serials_in l.namespaces) object && is_one_of l.unfinished object && is_one_of l.heads object
