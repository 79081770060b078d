-- The values of slots.
use Rattle.std.specs.Prelude.{◌≡◌, ◌⊎◌, ℕ, Bool, not, ◌&&◌, ◌==◌, [], map, Option, Some, None, Contains, IsTrue}
use Rattle.history_event.specs.declared.state.Granting.{Granting}
use Rattle.history_event.specs.declared.state.Standing.TheVariants.{Bound, Lost}
use Rattle.history_state.specs.Grants.{is_of}
use Rattle.history_state.specs.Legal.{Settled}
use Rattle.history_state.specs.Links.{finis_of}
use Rattle.history_state.specs.Objects.{IsMapped, mapped, serial_of}
use Rattle.history_state.specs.Setting.{Setting, are_finals}
use Rattle.history_state.specs.Slots.{HasBound, value_at_load}
use Rattle.history_state.specs.State.{State}

-- ---- for the code of this crate alone

-- a bound grant of a slot has this value
pub record IsBound (s : State) (owner slot value : ℕ) : Type 0 where
  pub grant : Granting
  pub there : Contains s.grants grant
  pub of : IsTrue (is_of owner slot grant)
  pub bound : grant.standing ≡ Bound
  pub is : value ≡ grant.value

-- a slot has this value: of its object's loading, or of a bound grant
abbrev pub HasValue : State → ℕ → ℕ → ℕ → Type 0
HasValue s owner slot value = (value_at_load s owner slot ≡ Some value) ⊎ IsBound s owner slot value

-- it has none
pub record HasNoValue (s : State) (owner slot : ℕ) : Type 0 where
  pub at_load : value_at_load s owner slot ≡ None
  pub unbound : ¬ (HasBound s owner slot)

-- the value of a slot, if it has one
abbrev pub IsValueOf : State → ℕ → ℕ → Option ℕ → Type 0
IsValueOf s owner slot (Some value) = HasValue s owner slot value
IsValueOf s owner slot None = HasNoValue s owner slot

-- what a grant saw, if it is a lost one of a mapped object, is the value of its slot
abbrev pub IsSettled : State → Granting → Type 0
IsSettled s g = (saw : ℕ) → g.standing ≡ Lost saw → IsMapped s g.owner → Settled s g saw

-- where every hart has ended once, by exit, each object that was initialised was finalised
abbrev pub IsFinished : Setting → State → Type 0
IsFinished w s = IsTrue (are_finals w s) → finis_of s (map serial_of (mapped s)) ≡ []

-- another grant of the slot has this value
abbrev pub is_other : Granting → ℕ → Granting → Bool
is_other of value g = is_of of.owner of.slot g && not (g.number == of.number) && g.value == value
