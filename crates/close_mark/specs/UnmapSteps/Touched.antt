-- Grants that name objects of a set, and its modules.
use Rattle.std.specs.Prelude.{ℕ, ◌||◌, Bool, List}
use Rattle.std.specs.List.{list_any}
use Rattle.history_event.specs.declared.state.Granting.{Granting}
use Rattle.history_event.specs.declared.state.Module.{Module}
use Rattle.history_state.specs.Grants.{target_of}
use Rattle.history_state.specs.Objects.{has}

-- owner or target of the grant is one of the set
abbrev pub is_touching : List ℕ → Granting → Bool
is_touching set g = has set g.owner || list_any (has set) (target_of g.choice)

-- the module is of an object of the set
abbrev pub is_of_set : List ℕ → Module → Bool
is_of_set set m = has set m.serial
