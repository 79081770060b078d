-- Grants of one slot, and of one number.
use Rattle.std.specs.Prelude.{◌≡◌, ◌≢◌, not, ◌==◌, ℕ, Bool, List, Contains, IsTrue}
use Rattle.history_event.specs.declared.state.Granting.{Granting}
use Rattle.history_event.specs.declared.state.Standing.TheVariants.{Bound}
use Rattle.history_state.specs.Grants.{is_of}

abbrev pub is_numbered : ℕ → Granting → Bool
is_numbered number g = g.number == number

abbrev pub is_another : ℕ → Granting → Bool
is_another number g = not (g.number == number)

-- the grant is a bound one of the slot
pub record IsBoundTo (grants : List Granting) (owner slot : ℕ) (g : Granting) : Type 0 where
  pub there : Contains grants g
  pub of : IsTrue (is_of owner slot g)
  pub bound : g.standing ≡ Bound

-- none is
abbrev pub HasNoBound : List Granting → ℕ → ℕ → Type 0
HasNoBound grants owner slot = (g : Granting) → Contains grants g → IsTrue (is_of owner slot g) → g.standing ≢ Bound
