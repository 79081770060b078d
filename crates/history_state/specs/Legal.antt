-- Legal histories, and whole ones.
use Rattle.std.specs.Prelude.{◌≡◌, ◌≢◌, ℕ, ◌⊎◌, List, [], take, map, Some, Contains, IsTrue}
use Rattle.std.specs.List.{slice_get}
use Rattle.history_event.specs.declared.event.Event.{Event}
use Rattle.history_event.specs.declared.state.Granting.{Granting}
use Rattle.history_event.specs.declared.state.Standing.TheVariants.{Open, Bound, Lost}
use Rattle.history_state.specs.State.{State}
use Rattle.history_state.specs.After.{after}
use Rattle.history_state.specs.Allowed.{Allowed}
use Rattle.history_state.specs.Grants.{is_of}
use Rattle.history_state.specs.Links.{finis_of}
use Rattle.history_state.specs.Objects.{IsMapped, mapped, serial_of}
use Rattle.history_state.specs.Setting.{Machine, Setting, are_finals}
use Rattle.history_state.specs.Slots.{value_at_load}

-- each event was allowed after those before it
unfoldable pub Legal : Setting → List Event → Type 0
Legal w events = (k : ℕ) (e : Event) → slice_get events k ≡ Some e → Allowed w (take k events) e

-- the same, whatever each event was given: what a linker keeps that isn't told its folders and files
unfoldable pub Lawful : Machine → List Event → Type 0
Lawful m events = (k : ℕ) (e : Event) → slice_get events k ≡ Some e → (w : Setting) × (w.machine ≡ m) × Allowed w (take k events) e

-- ---- whole histories

-- one grant of the slot alone is bound, with this value
pub record IsOnlyBound (s : State) (owner slot value : ℕ) : Type 0 where
  pub grant : Granting
  pub there : Contains s.grants grant
  pub of : IsTrue (is_of owner slot grant)
  pub bound : grant.standing ≡ Bound
  pub holds : grant.value ≡ value
  pub only : (other : Granting) → Contains s.grants other → IsTrue (is_of owner slot other) → other.standing ≡ Bound → other.number ≡ grant.number

-- what a lost grant saw is the slot's value: that of its object's loading, or that of the one bound grant
abbrev pub Settled : State → Granting → ℕ → Type 0
Settled s g saw = (value_at_load s g.owner g.slot ≡ Some saw) ⊎ IsOnlyBound s g.owner g.slot saw

pub record IsWhole (w : Setting) (s : State) : Type 0 where
  -- no grant is open
  pub settled : (g : Granting) → Contains s.grants g → g.standing ≢ Open
  -- what each lost grant of a mapped object saw is the value of its slot
  pub lost : (g : Granting) (saw : ℕ) → Contains s.grants g → g.standing ≡ Lost saw → IsMapped s g.owner → Settled s g saw
  -- where each hart's one end is an exit, each object that was initialised was finalised
  pub finished : IsTrue (are_finals w s) → finis_of s (map serial_of (mapped s)) ≡ []

abbrev pub Whole : Setting → List Event → Type 0
Whole w events = IsWhole w (after events)
