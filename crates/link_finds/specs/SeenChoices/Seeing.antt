-- Choices whose objects are seen of a namespace, and the states that have these objects.
use Rattle.std.specs.Prelude.{◌≡◌, ℕ, ◌⊎◌, Some}
use Rattle.ld_base.specs.declared.linking.Choice.{Choice}
use Rattle.ld_base.specs.declared.linking.Choice.TheVariants.{Def, WeakZero, Missing}
use Rattle.ld_base.specs.declared.linking.Loaded.{Loaded}
use Rattle.history_state.specs.Objects.{object_at}
use Rattle.history_state.specs.State.{State}
use Rattle.scope_rule.specs.Loading.{object_of}
use Rattle.scope_rule.specs.Seen.{Seen}

-- the object of a choice is seen, or is the linker's own
abbrev pub StandsIn : Seen → Choice → Type 0
StandsIn ns (Def serial index) = (serial ≡ 0) ⊎ ((o : Loaded) × (object_of ns serial ≡ Some o))
StandsIn ns WeakZero = Unit {0}
StandsIn ns Missing = Unit {0}

-- the state has each object that is seen
abbrev pub ShowsObjects : State → Seen → Type 0
ShowsObjects s ns = (d : ℕ) (o : Loaded) → object_of ns d ≡ Some o → object_at s d ≡ Some o
