-- The references of one object.
use Rattle.std.specs.Prelude.{◌≡◌, ℕ, Bool, List, Option, Some, None, slice_index_or}
use Rattle.ld_base.specs.declared.linking.Choice.{Choice}
use Rattle.ld_base.specs.declared.linking.Loaded.{Loaded}
use Rattle.ld_base.specs.declared.object.Symbol.{Symbol}
use Rattle.ld_base.specs.Symbol.{version_index}
use Rattle.scope_rule.specs.Seen.{Seen}
use Rattle.sym_lookup.specs.Looking.{choice_of_symbol}

-- an object, and what is seen of its namespace
pub record Referring : Type 0 where
  pub seen : Seen
  pub owner : Loaded

-- what is kept for a symbol is its choice, of COPYs or of other relocations
abbrev pub AreKept : Seen → Loaded → Bool → List (Option Choice) → Type 0
AreKept s o copy kept = (index : ℕ) (choice : Choice) → slice_index_or kept index None ≡ Some choice → choice ≡ choice_of_symbol s o index copy

-- two symbols of an object ask for the same name and version
pub record IsAlike (one other : Symbol) : Type 0 where
  pub version : version_index one ≡ version_index other
  pub name : one.name ≡ other.name
