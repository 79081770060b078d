-- What is kept beside the list of grants, to find them.
use Rattle.std.specs.Prelude.{◌≡◌, ◌==◌, ◌&&◌, ℕ, ◌+◌, Bool, List, filter, Option, Some, Contains, IsSome, IsTrue}
use Rattle.std.specs.List.{slice_get}
use Rattle.std.specs.Map.{lookup}
use Rattle.history_event.specs.declared.state.Granting.{Granting}
use Rattle.history_event.specs.declared.state.Standing.TheVariants.{Bound}
use Rattle.history_state.specs.Grants.{is_of, is_open}

abbrev pub same_slot : ℕ × ℕ → ℕ × ℕ → Bool
same_slot a b = a.0 == b.0 && a.1 == b.1

-- the place of a slot's grant
abbrev pub place_of : List ((ℕ × ℕ) × ℕ) → ℕ → ℕ → Option ℕ
place_of entries owner slot = lookup (same_slot (owner, slot)) entries

-- a bound grant of the slot stands at this place
pub record StandsAt (all : List Granting) (owner slot place : ℕ) : Type 0 where
  pub grant : Granting
  pub at : slice_get all place ≡ Some grant
  pub of : IsTrue (is_of owner slot grant)
  pub bound : grant.standing ≡ Bound

-- numbers count from 1; the open grants are listed, and by each slot with a bound grant one is found
pub record IsIndexed (all pending : List Granting) (entries : List ((ℕ × ℕ) × ℕ)) : Type 0 where
  pub numbered : (k : ℕ) (g : Granting) → slice_get all k ≡ Some g → g.number ≡ k + 1
  pub pending_are : pending ≡ filter is_open all
  pub stands : (owner slot place : ℕ) → place_of entries owner slot ≡ Some place → StandsAt all owner slot place
  pub found : (g : Granting) → Contains all g → g.standing ≡ Bound → IsSome (place_of entries g.owner g.slot)
