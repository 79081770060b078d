-- The grants of a state.
use Rattle.std.specs.Prelude.{ℕ, Bool, true, false, ◌==◌, ◌&&◌, List, [], ◌∷◌, Option, Some, None}
use Rattle.ld_base.specs.declared.linking.Choice.{Choice}
use Rattle.ld_base.specs.declared.linking.Choice.TheVariants.{Def, WeakZero, Missing}
use Rattle.history_event.specs.declared.state.Granting.{Granting}
use Rattle.history_event.specs.declared.state.Standing.{Standing}
use Rattle.history_event.specs.declared.state.Standing.TheVariants.{Open, Bound, Lost}

-- its hart isn't done with it
abbrev pub is_open_standing : Standing → Bool
is_open_standing Open = true
is_open_standing Bound = false
is_open_standing (Lost saw) = false

abbrev pub is_open : Granting → Bool
is_open g = is_open_standing g.standing

-- the slot got its value
abbrev pub is_bound_standing : Standing → Bool
is_bound_standing Open = false
is_bound_standing Bound = true
is_bound_standing (Lost saw) = false

abbrev pub is_bound : Granting → Bool
is_bound g = is_bound_standing g.standing

-- it is of this slot
abbrev pub is_of : ℕ → ℕ → Granting → Bool
is_of owner slot g = g.owner == owner && g.slot == slot

-- the object that a choice is of, if it is of one
abbrev pub target_of : Choice → List ℕ
target_of (Def serial index) = serial ∷ []
target_of WeakZero = []
target_of Missing = []

-- the same, where nothing may be chosen yet
abbrev pub chosen_target : Option Choice → List ℕ
chosen_target None = []
chosen_target (Some choice) = target_of choice
